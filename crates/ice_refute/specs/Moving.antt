-- Where the sides may go on.
use Rattle.std.specs.Prelude.{◌<◌, ◌≡◌, length}
use Rattle.ice_defs.specs.declared.Mark.TheVariants.{Free}
use Rattle.ice_defs.specs.Fixing.{mark_of}
use Rattle.ice_defs.specs.Trade.{fixing_of}
use Rattle.ice_defs.specs.Steps.{Step, branch, leaf, dead, Side}

-- a branch is at a node that is there and free
abbrev pub CanBranch : Side → Step → Type 0
CanBranch side (branch b n) = (b < length side) × (n < length (fixing_of side b)) × (mark_of (fixing_of side b) n ≡ Free)
CanBranch side (leaf m) = Unit {0}
CanBranch side (dead b) = Unit {0}
