-- The open sides, as they are kept: the marks of the first one, and the
-- branches that led to it, each the number of a bidder and of a node.
use Rattle.std.specs.Prelude.{ℕ, ◌+◌, ◌<◌, ◌≤◌, Bool, true, false, if◌then◌else◌, List, [], ◌∷◌, length, map, reverse, slice_index_or}
use Rattle.std.specs.Prelude.{sum_by}
use Rattle.ice_defs.specs.declared.Mark.{Mark}
use Rattle.ice_defs.specs.declared.Mark.TheVariants.{Free, Must, Never}
use Rattle.ice_defs.specs.Sum.{count_below}
use Rattle.ice_defs.specs.Fixing.{Fixing, mark_of}
use Rattle.ice_defs.specs.Trade.{fixing_of}
use Rattle.ice_defs.specs.Steps.{Side, with_mark}

-- a branch waits with its second side while its first one, in which the node is Must, is read
abbrev pub also_waits : Mark → Side → List Side → List Side
also_waits Must second sides = second ∷ sides
also_waits Never second sides = sides
also_waits Free second sides = sides

-- the sides that wait, by the branches, the innermost first
abbrev pub waiting_sides : Side → List (ℕ × ℕ) → List Side
waiting_sides marks [] = []
waiting_sides marks (place ∷ outer) =
    also_waits (mark_of (fixing_of marks place.0) place.1) (with_mark marks place.0 place.1 Never)
    (waiting_sides (with_mark marks place.0 place.1 Free) outer)

-- the open sides, the next one first, by the branches, the outermost first
abbrev pub open_sides : Bool → Side → List (ℕ × ℕ) → List Side
open_sides is_open marks branches = if is_open then marks ∷ waiting_sides marks (reverse branches) else []

-- the numbers of nodes
abbrev pub nodes_of : {X : Type 0} → List (List X) → List ℕ
nodes_of lists = map length lists

abbrev pub is_free : Mark → Bool
is_free Free = true
is_free Must = false
is_free Never = false

-- the free nodes of one fixing, and of a side
abbrev pub free_nodes : Fixing → ℕ
free_nodes x = count_below (λ n. is_free (mark_of x n)) (length x)

abbrev pub free_count : Side → ℕ
free_count side = sum_by free_nodes side

abbrev pub IsPlace : Side → ℕ × ℕ → Type 0
IsPlace marks place = (place.0 < length marks) × (place.1 < length (fixing_of marks place.0))

-- each branch is at a node that is there, and there is
-- room for as many more as there are free nodes
pub record AreKept (marks : Side) (branches : List (ℕ × ℕ)) : Type 0 where
  pub places : (k : ℕ) → k < length branches → IsPlace marks (slice_index_or branches k (0, 0))
  pub room : length branches + free_count marks ≤ 2000

-- what is seen of a walk: its open sides, the next one first, and
-- the numbers of nodes of the trees that it is made for
pub record WalkView : Type 0 where
  pub sides : List Side
  pub nodes : List ℕ

abbrev pub first_side : List Side → Side
first_side [] = []
first_side (side ∷ sides) = side
