-- Candidates for the next branch.
use Rattle.std.specs.Prelude.{List}
use Rattle.ice_defs.specs.Tree.{Tree}
use Rattle.ice_defs.specs.Steps.{Side}
use Rattle.ice_defs.specs.Log.{IsFreeNode}
use Rattle.ice_relaxation.specs.declared.candidates.Candidate.{Candidate}

-- the node is there, and free
abbrev pub IsFreeAt : List Tree → Side → Candidate → Type 0
IsFreeAt ts side c = IsFreeNode ts side c.bidder c.node
