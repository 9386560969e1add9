-- Steps at the first open side of a walk.
use Rattle.std.proofs.Common.{ℕ, ◌<◌, ◌≡◌, Bool, true, false, List, length, ℤ, refl, arith, ap}
use Rattle.ice_defs.specs.Tree.{Tree}
use Rattle.ice_defs.specs.Set.{Weights}
use Rattle.ice_defs.specs.Steps.{Step, branch, leaf, dead, Side}
use Rattle.ice_defs.specs.Conditions.{AreFixingsOf}
use Rattle.ice_refute.specs.Moving.{CanBranch}
use Rattle.ice_refute.specs.Passing.{PassesAt}
use Rattle.ice_refute.specs.Waiting.{open_sides, first_side}

-- a branch that passes is at a node that is there
pub can_branch : (ts : List Tree) (exact : List Bool) (ws : List Weights) (target : ℤ) (side : Side) (step : Step) → AreFixingsOf ts side → PassesAt ts exact ws target side step → CanBranch side step
can_branch ts exact ws target side (branch b n) are passes =
    (omega (arith, passes.0, are.same_length), omega (arith, passes.1, are.nodes b passes.0), passes.2)
can_branch ts exact ws target side (leaf m) are passes = tt
can_branch ts exact ws target side (dead b) are passes = tt

-- where a side is open the walk is
pub is_opened : (is_open : Bool) (marks : Side) (branches : List (ℕ × ℕ)) → 0 < length (open_sides is_open marks branches) → is_open ≡ true
is_opened true marks branches h = refl
is_opened false marks branches h = absurd (omega (arith, h))

pub first_is : (is_open : Bool) (marks : Side) (branches : List (ℕ × ℕ)) (sides : List Side) → open_sides is_open marks branches ≡ sides → 0 < length sides → marks ≡ first_side sides
first_is true marks branches sides e h = ap first_side e
first_is false marks branches sides e h = absurd (omega (arith, h, ap length e))
