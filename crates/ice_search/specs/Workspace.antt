-- The workspace of a search: what is asked, and the side that is looked at.
use Rattle.std.specs.Prelude.{ℕ, ◌≡◌, Bool, List, length}
use Rattle.ice_defs.specs.Fixing.{Fixing}
use Rattle.ice_defs.specs.declared.Mark.TheVariants.{Must, Never}
use Rattle.ice_defs.specs.Steps.{Side, with_mark}
use Rattle.ice_defs.specs.Conditions.{AreFixingsOf, AreMultipliersOf}
use Rattle.ice_bound.specs.Kept.{Standing}
use Rattle.ice_subgradient.specs.declared.incumbent.Incumbent.{Incumbent}
use Rattle.ice_subgradient.specs.Offers.{IsOffered}
use Rattle.ice_search.specs.Instance.{Instance, IsInstance, IsBoundAt}
use Rattle.ice_search.specs.declared.sweep.Bounded.{Bounded}

pub record Looking : Type 0 where
  pub instance : Instance
  pub side : Side

-- kept bounds are of the instance, and so are the marks of the desk, the goods that it knows, and
-- the trees of the relaxation
pub record IsWorkspace (x : Instance) (kept : Standing) (marks : List Fixing) (goods : List Bool) (relaxed : ℕ) : Type 0 where
  pub instance : IsInstance x
  pub trees : kept.trees ≡ x.trees
  pub weights : kept.weights ≡ x.weights
  pub exact : kept.exact ≡ x.exact
  pub desk : AreFixingsOf x.trees marks
  pub room : goods ≡ x.exact
  pub relaxation : relaxed ≡ length x.trees

-- the incumbent is as it was, or a better one that meets the side
abbrev pub IsOfferedAt : Instance → Side → Incumbent → Incumbent → Type 0
IsOfferedAt x side old new = IsOffered x.trees x.exact x.weights side old new

-- steps at a side come to lawful multipliers with the bound at them, and what came up was offered
pub record IsPolishedAt (x : Instance) (side : Side) (old new : Incumbent) (at : Bounded) : Type 0 where
  pub multipliers : AreMultipliersOf x.exact at.m
  pub bound : IsBoundAt x at.m side at.key
  pub offered : IsOfferedAt x side old new

-- steps at the two children of a node, one after the other
pub record ArePolishedAt (x : Instance) (side : Side) (b n : ℕ) (old new : Incumbent) (first second : Bounded) : Type 0 where
  pub middle : Incumbent
  pub must : IsPolishedAt x (with_mark side b n Must) old middle first
  pub never : IsPolishedAt x (with_mark side b n Never) middle new second
