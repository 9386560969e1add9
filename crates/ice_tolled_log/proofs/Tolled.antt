-- A part with multipliers and tolls.
use Rattle.std.proofs.Common.{◌≤◌, ◌≡◌, Bool, true, List, ◌++◌, length, ℤ, ◌≤ℤ◌, arith, sym, ◌∙◌, length-append}
use Rattle.std.proofs.lemmas.Int.{ints}
use Rattle.std.proofs.lemmas.Bool.{false≢true}
use Rattle.ice_defs.specs.Tree.{Tree}
use Rattle.ice_defs.specs.Set.{Weights}
use Rattle.ice_defs.specs.Bound.{Multipliers}
use Rattle.ice_defs.specs.Derived.{Derived, Tolls, IsBoundWith, with_derived}
use Rattle.ice_defs.specs.Steps.{Side}
use Rattle.ice_defs.specs.Sweep.{IsSweptBound}
use Rattle.ice_derived.specs.Signs.{HasWrongSigns}
use Rattle.ice_derived.proofs.Following.{bound_of_leaf, sign_of_leaf}
use Rattle.ice_search_log.specs.Parts.{Part}
use Rattle.ice_search_log.specs.Searching.{IsPart}
use Rattle.ice_tolled_log.specs.Laws.{TolledIsPart}

module _ (ds : List Derived) (tolls : Tolls) (ts : List Tree) (exact : List Bool) (ws : List Weights) (side : Side) (m : Multipliers) (p : Part) (v : ℤ)
    (size : length m ≡ length exact) (few : length tolls ≤ length ds) (signs : ¬ HasWrongSigns exact m tolls) (bound : IsBoundWith ds tolls ts ws m side v) where
  takes : (p.swept ≡ true → (low : ℤ) × IsSweptBound ts exact ws side low × (v ≤ℤ low)) → IsPart (with_derived ds) ts exact ws side (record p { m = m ++ tolls; key = v })
  takes swept = record {
    counts = omega (arith, size, few, length-append m tolls);
    signs = λ w. signs (sign_of_leaf exact ds m tolls size w);
    bound = bound_of_leaf exact ds m tolls size ts ws side v bound;
    swept = swept;
  }

pub tolled_is_part : TolledIsPart
tolled_is_part ds tolls ts exact ws side m p v size few signs bound = (
  λ e. takes ds tolls ts exact ws side m p v size few signs bound (λ t. absurd (false≢true (sym e ∙ t))),
  λ part le. takes ds tolls ts exact ws side m p v size few signs bound
      (λ t. let (low, is, under) = part.swept t in (low, is, omega (arith, ints, le, under))),
)
