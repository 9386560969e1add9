-- The beginning of a search.
use Rattle.std.proofs.Common.{ℕ, ◌<◌, ◌≡◌, List, [], ◌∷◌, length, get_or, ℤ, arith, sym, subst, inr, refl}
use Rattle.std.specs.List.{Contains}
use Rattle.std.proofs.lemmas.Bool.{false≢true}
use Rattle.ice_defs.specs.declared.Mark.TheVariants.{Free}
use Rattle.ice_defs.specs.Trade.{Assignment, set_of}
use Rattle.ice_defs.specs.Bound.{Multipliers}
use Rattle.ice_defs.specs.Derived.{goods_alone}
use Rattle.ice_defs.specs.Steps.{Side}
use Rattle.ice_defs.specs.Sweep.{IsLive}
use Rattle.ice_defs.specs.Conditions.{AreMultipliersOf}
use Rattle.ice_search_log.specs.Parts.{Part}
use Rattle.ice_search_log.specs.Searching.{AreOpen}
use Rattle.ice_search_log.proofs.Stepping.{search_begins}
use Rattle.ice_subgradient.specs.declared.incumbent.Incumbent.{Incumbent}
use Rattle.ice_search.specs.Instance.{Instance, IsInstance, IsSearchOf, IsIncumbentOf, IsBoundAt}
use Rattle.ice_search.specs.Open.{AreParts}
use Rattle.ice_search.specs.State.{IsState, child_part}
use Rattle.ice_search.specs.Workspace.{IsOfferedAt}
use Rattle.ice_search.proofs.Turning.{raised_from}

-- what the first assignment takes, each bidder may take
pub start_is_live : (x : Instance) (sets : Assignment) (value : ℤ) → IsIncumbentOf x sets value → IsLive x.trees x.start
start_is_live x sets value is b l = (set_of sets b, (is.feasible.satisfied b l, is.meets b (omega (arith, l, is.feasible.same_length))))

pub begun : (x : Instance) (old new : Incumbent) (m : Multipliers) (v : ℤ) (parts : List Part) (numbers : List ℕ) (side : Side) → IsInstance x → IsIncumbentOf x old.sets old.value
    → IsOfferedAt x x.start old new → AreMultipliersOf x.exact m → IsBoundAt x m x.start v → parts ≡ child_part 0 0 0 Free m v ∷ [] → numbers ≡ 0 ∷ []
    → IsState (record { instance = x; side = side; parts = parts; sets = new.sets; value = new.value; open_parts = numbers })
begun x old new m v parts numbers side lawful was offered are bound e d = record {
  instance = lawful;
  search = subst (IsSearchOf x) (sym e)
      (search_begins goods_alone x.trees x.exact x.weights x.start x.first (child_part 0 0 0 Free m v) tt (record { counts = are.same_length; signs = are.signs; bound = bound; swept = λ t. absurd (false≢true t) }) refl);
  incumbent = (raised_from x x.start old new was (λ a meets. meets) offered).0;
  opened = subst (λ ps. AreOpen ps new.value numbers) (sym e) (subst (AreOpen (child_part 0 0 0 Free m v ∷ []) new.value) (sym d) (λ k l whole. inr (let z : 0 ≡ k = omega arith in subst (Contains (0 ∷ [])) z (0, omega arith, refl))));
  numbered = subst (λ ps. AreParts ps numbers) (sym e) (subst (AreParts (child_part 0 0 0 Free m v ∷ [])) (sym d) only);
}
  where
    only : (j : ℕ) → Contains (0 ∷ []) j → j < length (child_part 0 0 0 Free m v ∷ [])
    only j (i, l, same) = let z : i ≡ 0 = omega arith in at (subst (λ n. get_or (0 ∷ []) n j ≡ j) z same)
      where
        at : 0 ≡ j → j < length (child_part 0 0 0 Free m v ∷ [])
        at e = omega arith
