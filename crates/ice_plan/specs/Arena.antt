-- The splits of a plan: each stands behind those at its sides.
use Rattle.std.specs.Prelude.{ℕ, suc, ◌<◌, List, [], ◌∷◌, map}
use Rattle.ice_relaxation.specs.declared.candidates.Candidate.{Candidate}
use Rattle.ice_plan.specs.declared.plan.Side.{Side}
use Rattle.ice_plan.specs.declared.plan.Side.TheVariants.{Leaf, At}
use Rattle.ice_plan.specs.declared.plan.Split.{Split}

-- the side is a leaf, or split by one of the first n splits
abbrev pub IsBelow : ℕ → Side → Type 0
IsBelow n (Leaf number) = Unit {0}
IsBelow n (At number) = number < n

-- the split stands behind those at its sides, if it has this number
pub record IsBehind (n : ℕ) (s : Split) : Type 0 where
  pub must : IsBelow n s.must
  pub never : IsBelow n s.never

-- so do these splits, the first of which has this number
abbrev pub AreBehind : ℕ → List Split → Type 0
AreBehind n [] = Unit {0}
AreBehind n (s ∷ splits) = IsBehind n s × AreBehind (suc n) splits

abbrev pub node_of : Split → Candidate
node_of s = s.node

abbrev pub nodes_of : List Split → List Candidate
nodes_of splits = map node_of splits
