-- True values of bidders, and the bids that state them.
use Rattle.std.specs.Prelude.{ℕ, ◌≡◌, List, [], ◌∷◌}
use Rattle.std.specs.List.{AllZip, AllByRecursion}
use Rattle.ice_defs.specs.Bounds.{Bounds, IsInside}
use Rattle.ice_defs.specs.Round.{Submission}

-- the lower and the upper value of each node are equal
abbrev pub IsExact : Bounds → Type 0
IsExact b = b.hi ≡ b.lo

abbrev pub AreExact : List Bounds → Type 0
AreExact bounds = AllByRecursion IsExact bounds

-- exact values of a bidder, inside its bounds
pub record IsTruth (bounds truth : Bounds) : Type 0 where
  pub exact : IsExact truth
  pub inside : IsInside 1 bounds truth.lo

-- those of each bidder
abbrev pub AreTruths : List Bounds → List Bounds → Type 0
AreTruths bounds truths = AllZip IsTruth bounds truths

-- the bid of each bidder that states its true values, in order
abbrev pub truth_bids : List (List ℕ) → List Bounds → List Submission
truth_bids [] truths = []
truth_bids (name ∷ names) [] = []
truth_bids (name ∷ names) (truth ∷ truths) = record { name = name; lo = truth.lo; hi = truth.hi } ∷ truth_bids names truths
