-- What a whole pass finds.
use Rattle.std.proofs.Common.{Bool, List, [], ◌∷◌, arith}
use Rattle.std.specs.List.{AllByRecursion}
use Rattle.std.proofs.lemmas.Int.{ints}
use Rattle.ice_defs.specs.Tree.{Tree}
use Rattle.ice_defs.specs.Set.{Weights}
use Rattle.ice_defs.specs.Trade.{Assignment, IsBest}
use Rattle.ice_defs.specs.Derived.{Derived, with_derived}
use Rattle.ice_defs.specs.Steps.{Step, branch, leaf, dead, Side, steps_with_sides}
use Rattle.ice_defs.specs.Sweep.{EarnsStep}
use Rattle.ice_defs.specs.Follows.{AreLawful}
use Rattle.ice_defs.specs.Session.{Proved}
use Rattle.ice_defs.specs.Searched.{IsFoundBy}
use Rattle.ice_refute.specs.Laws.{CountsBy}
use Rattle.ice_refute.proofs.Refutes.{log_by_refutes}
use Rattle.ice_search_log.specs.Searching.{IsIncumbent}
use Rattle.ice_tolled_search.specs.Pass.{IsWorthStep, IsWhole}

module _ (ds : List Derived) (ts : List Tree) (exact : List Bool) (ws : List Weights) (start : Side) (first : Assignment) (p : Proved)
    (lawful : AreLawful ts exact ds) (incumbent : IsIncumbent ts exact ws start first p.sets p.value) where
  counts_all : (log : List Step) → AllByRecursion (CountsBy (with_derived ds) exact) log
  counts_all [] = tt
  counts_all (branch b n ∷ log) = (tt, counts_all log)
  counts_all (leaf m ∷ log) = (tt, counts_all log)
  counts_all (dead b ∷ log) = (tt, counts_all log)

  earns : IsBest ts exact ws start p.value → (side : Side) (step : Step) → IsWorthStep ds ts exact ws p.value side step → EarnsStep ts exact ws start first side step
  earns best side (branch b n) is =
      let (v, swept, above) = is.bound in
      record { must_live = is.must; never_live = is.never; worthwhile = (v, p.value, swept, best, omega (arith, ints, incumbent.no_less, above), omega (arith, ints, above)) }
  earns best side (leaf m) is = tt
  earns best side (dead b) is = tt

  earns_all : IsBest ts exact ws start p.value → (steps : List (Side × Step)) → AllByRecursion (λ s. IsWorthStep ds ts exact ws p.value s.0 s.1) steps
      → AllByRecursion (λ s. EarnsStep ts exact ws start first s.0 s.1) steps
  earns_all best [] all = tt
  earns_all best (s ∷ steps) all = (earns best s.0 s.1 all.0, earns_all best steps all.1)

  pub whole_is_found : IsWhole ds ts exact ws p.value start p.log → IsFoundBy (with_derived ds) ts exact ws start first p
  whole_is_found is =
      let best : IsBest ts exact ws start p.value = record {
        attained = (p.sets, (incumbent.feasible, incumbent.meets), incumbent.has);
        bound = λ a may. log_by_refutes (with_derived ds) ts exact ws p.value start p.log a lawful (counts_all p.log) is.passes may.0 may.1;
      } in
      record {
        attained = record { feasible = incumbent.feasible; meets = incumbent.meets; has = incumbent.has };
        passes = is.passes;
        earned = earns_all best (steps_with_sides (start ∷ []) p.log) is.worth;
      }
