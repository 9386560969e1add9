-- What a search gives, from its parts.
use Rattle.std.proofs.Common.{ℕ, ◌+◌, ◌*◌, ◌≤◌, ◌≡◌, Bool, List, length, refl, arith, ap, sym, subst}
use Rattle.std.specs.List.{AllByRecursion}
use Rattle.ice_defs.specs.Derived.{goods_alone}
use Rattle.ice_defs.specs.Steps.{Step, branch_count}
use Rattle.ice_refute.specs.Code.{CountsGoods}
use Rattle.ice_search_log.specs.Parts.{Part, part_at, AreLater, log_of, is_closed, never_stops}
use Rattle.ice_search_log.specs.Searching.{IsAboveWhole, IsNext}
use Rattle.ice_search_log.proofs.Counted.{branches_are_splits}
use Rattle.ice_search_log.proofs.Ending.{search_is_found, search_is_spent, closed_is_low}
use Rattle.ice_search_log.proofs.Logged.{all_hold}
use Rattle.ice_search_log.proofs.Marked.{children_are_later}
use Rattle.ice_search_log.specs.Code.{IsRangedStep}
use Rattle.ice_search.specs.Instance.{Instance}
use Rattle.ice_search.specs.Nodes.{IsSplitNode}
use Rattle.ice_search.specs.Results.{IsFoundBy, IsSpentBy, AreWritten}
use Rattle.ice_search.specs.State.{State, IsState, LooksAt}

module _ (s : State) (is : IsState s) where
  abbrev x : Instance
  x = s.instance

  pub later : AreLater s.parts
  later = children_are_later goods_alone x.trees x.exact x.weights x.start x.first s.parts is.search

  written : (stops : Part → Bool) (log : List Step) → log ≡ log_of stops s.parts → AllByRecursion IsRangedStep log → AreWritten (length x.exact) log
  written stops log e ranged =
      record { counts = subst (AllByRecursion (CountsGoods (length x.exact))) (sym e) (all_hold goods_alone x.trees x.exact x.weights x.start x.first s.parts is.search stops (CountsGoods (length x.exact)) (λ b n. tt) (λ k l. (is.search.each k l).counts)); ranged = ranged }

  pub found_by : (log : List Step) → IsAboveWhole s.parts s.value → log ≡ log_of (is_closed s.value) s.parts → AllByRecursion IsRangedStep log
      → IsFoundBy x (record { best = s.sets; value = s.value; log = log })
  found_by log whole e ranged = record {
    found = search_is_found goods_alone x.trees x.exact x.weights x.start x.first s.parts (is_closed s.value) (record { value = s.value; sets = s.sets; log = log }) is.search is.incumbent whole (closed_is_low s.value) e;
    written = written (is_closed s.value) log e ranged;
  }

  pub spent_by : (log : List Step) (k b n : ℕ) → LooksAt s k → IsNext s.parts s.value k → IsSplitNode x.trees s.side b n → log ≡ log_of never_stops s.parts → AllByRecursion IsRangedStep log
      → IsSpentBy x (branch_count log) (record { found = s.sets; value = s.value; bound = (part_at s.parts k).key; log = log })
  spent_by log k b n looks next node e ranged =
      let here = subst (λ side. IsSplitNode x.trees side b n) looks.side node in
      record {
        spent = search_is_spent goods_alone x.trees x.exact x.weights x.start x.first s.parts (record { value = s.value; sets = s.sets; log = log }) k b n is.search is.incumbent next here.free here.must here.never e;
        written = written never_stops log e ranged;
        branches = refl;
      }

  pub fewer_branches : (stops : Part → Bool) (log : List Step) → log ≡ log_of stops s.parts → 2 * branch_count log + 1 ≤ length s.parts
  fewer_branches stops log e =
      let counts = branches_are_splits goods_alone x.trees x.exact x.weights x.start x.first s.parts stops is.search in
      omega (arith, ap branch_count e, counts.1, counts.2)

  pub all_branches : (log : List Step) → log ≡ log_of never_stops s.parts → 2 * branch_count log + 1 ≡ length s.parts
  all_branches log e =
      let counts = branches_are_splits goods_alone x.trees x.exact x.weights x.start x.first s.parts never_stops is.search in
      omega (arith, ap branch_count e, counts.0, counts.2)
