-- A pass: steps that close each side at a value, and split only sides that are worth it.
use Rattle.std.specs.Prelude.{ℕ, ◌+◌, ◌<◌, ◌≡◌, ◌∷◌, ◌++◌, [], Bool, List, length, ℤ, ◌<ℤ◌}
use Rattle.std.specs.List.{AllByRecursion}
use Rattle.ice_defs.specs.declared.Mark.TheVariants.{Must, Never}
use Rattle.ice_defs.specs.Tree.{Tree}
use Rattle.ice_defs.specs.Set.{Weights}
use Rattle.ice_defs.specs.Derived.{Derived, with_derived}
use Rattle.ice_defs.specs.Steps.{Step, branch, leaf, dead, Side, with_mark, sides_after, steps_with_sides, branch_count}
use Rattle.ice_defs.specs.Log.{PassesBy}
use Rattle.ice_defs.specs.Sweep.{IsLive, IsSweptBound}
use Rattle.ice_refute.specs.Laws.{CountsUpTo}
use Rattle.ice_refute.specs.Passing.{PassesAtBy}
use Rattle.ice_refute.specs.Waiting.{first_side}
use Rattle.ice_tolled_search.specs.declared.pass.Passed.{Passed}
use Rattle.ice_tolled_search.specs.declared.pass.Passed.TheVariants.{Whole, Better, GivenUp}

module _ (ds : List Derived) (ts : List Tree) (exact : List Bool) (ws : List Weights) (value : ℤ) where
  -- both sides of the split are live, and the swept bound of the side is above the value
  pub record IsWorth (side : Side) (b n : ℕ) : Type 0 where
    pub must : IsLive ts (with_mark side b n Must)
    pub never : IsLive ts (with_mark side b n Never)
    pub bound : (v : ℤ) × IsSweptBound ts exact ws side v × (value <ℤ v)

  -- a branch step is worth it; of other steps nothing is asked
  abbrev pub IsWorthStep : Side → Step → Type 0
  IsWorthStep side (branch b n) = IsWorth side b n
  IsWorthStep side (leaf m) = Unit {0}
  IsWorthStep side (dead b) = Unit {0}

  -- a step is taken at the first open side and appended to the log, by so many branches
  pub record IsTaken (used : ℕ) (old_sides new_sides : List Side) (old_log new_log : List Step) : Type 0 where
    pub opened : 0 < length old_sides
    pub step : Step
    pub passes : PassesAtBy (with_derived ds) ts exact ws value (first_side old_sides) step
    pub worth : IsWorthStep (first_side old_sides) step
    pub counts : CountsUpTo (length exact + length ds) step
    pub branches : branch_count (step ∷ []) ≡ used
    pub sides : new_sides ≡ sides_after old_sides step
    pub log : new_log ≡ old_log ++ step ∷ []

  -- the log closes the start at the value, and its branch steps are worth it
  pub record IsWhole (start : Side) (log : List Step) : Type 0 where
    pub passes : PassesBy (with_derived ds) ts exact ws value start log
    pub worth : AllByRecursion (λ p. IsWorthStep p.0 p.1) (steps_with_sides (start ∷ []) log)
    pub counts : AllByRecursion (CountsUpTo (length exact + length ds)) log

  -- a pass of so many branches that ends whole does
  abbrev pub IsPass : Side → ℕ → Passed → Type 0
  IsPass start branches (Whole log left) = IsWhole start log × (left + branch_count log ≡ branches)
  IsPass start branches (Better sets) = Unit {0}
  IsPass start branches GivenUp = Unit {0}
