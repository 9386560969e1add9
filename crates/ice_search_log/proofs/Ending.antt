-- The next part's branch is earned, and what a search gives.
use Rattle.std.proofs.Common.{ℕ, ◌≡◌, Bool, List, ℤ, ◌≤ℤ◌, None, arith, sym, ◌∙◌, subst, ◌⊎◌, inl, inr}
use Rattle.std.specs.List.{Contains}
use Rattle.std.proofs.lemmas.Int.{ints}
use Rattle.std.proofs.lemmas.Bool.{false≢true}
use Rattle.std.proofs.lemmas.List.{get_or_default}
use Rattle.ice_defs.specs.Tree.{Tree}
use Rattle.ice_defs.specs.Set.{Weights}
use Rattle.ice_defs.specs.Trade.{Assignment}
use Rattle.ice_defs.specs.Steps.{Side}
use Rattle.ice_defs.specs.Log.{PassesBy}
use Rattle.ice_defs.specs.Sweep.{IsEarnedLog, LeavesEarned}
use Rattle.ice_defs.specs.Session.{Proved}
use Rattle.ice_defs.specs.Searched.{IsAttained}
use Rattle.ice_search_log.specs.Parts.{Part, part_at, never_stops}
use Rattle.ice_search_log.specs.Searching.{IsIncumbent, IsAboveOpen}
use Rattle.ice_search_log.specs.Laws.{ClosesAll, NoneIsLeft, GreatestIsNext, SplitIsEarned, SearchIsFound, SearchIsSpent, ClosedIsLow}
use Rattle.ice_search_log.proofs.Covering.{best_is_below}
use Rattle.ice_search_log.proofs.Enumerated.{best_is_there}
use Rattle.ice_search_log.proofs.Logged.{tree_log_passes, tree_log_is_earned, tree_log_leaves}

above_listed : (parts : List Part) (open_parts : List ℕ) (bound : ℤ) (k : ℕ) → IsAboveOpen parts open_parts bound → Contains open_parts k → (part_at parts k).split ≡ None → (part_at parts k).key ≤ℤ bound
above_listed parts open_parts bound k each (i, l, e) = subst (λ j. (part_at parts j).split ≡ None → (part_at parts j).key ≤ℤ bound) (get_or_default open_parts i 0 k l ∙ e) (each i l)

pub none_is_left : NoneIsLeft
none_is_left parts value open_parts are each j l whole = by (are j l whole)
  where
    by : ((part_at parts j).key ≤ℤ value) ⊎ Contains open_parts j → (part_at parts j).key ≤ℤ value
    by (inl low) = low
    by (inr listed) = above_listed parts open_parts value j each listed whole

pub greatest_is_next : GreatestIsNext
greatest_is_next parts value open_parts k there whole swept above are each = record {
  there = there;
  whole = whole;
  swept = swept;
  above = above;
  greatest = λ j l whole'. by j whole' (are j l whole');
}
  where
    by : (j : ℕ) → (part_at parts j).split ≡ None → ((part_at parts j).key ≤ℤ value) ⊎ Contains open_parts j → (part_at parts j).key ≤ℤ (part_at parts k).key
    by j whole' (inl low) = omega (arith, ints, low, above)
    by j whole' (inr listed) = above_listed parts open_parts (part_at parts k).key j each listed whole'

pub split_is_earned : SplitIsEarned
split_is_earned means ts exact ws start first parts sets value k b n is incumbent next must never =
    let (v, swept, low) = (is.each k next.there).swept next.swept in
    let (best, is_best) = best_is_there ts exact ws start sets incumbent.feasible incumbent.meets in
    let (a, may, e) = is_best.attained in
    let under = best_is_below means ts exact ws start first parts (part_at parts k).key is next.greatest a may.0 may.1 in
    record {
      must_live = must;
      never_live = never;
      worthwhile = (v, best, swept, is_best, omega (arith, ints, low, next.above, incumbent.no_less), omega (arith, ints, under, e, low));
    }

attained : (ts : List Tree) (exact : List Bool) (ws : List Weights) (start : Side) (first : Assignment) (p : Proved) → IsIncumbent ts exact ws start first p.sets p.value
    → IsAttained ts exact ws start first p
attained ts exact ws start first p incumbent = record { feasible = incumbent.feasible; meets = incumbent.meets; has = incumbent.has }

pub search_is_found : SearchIsFound
search_is_found means ts exact ws start first parts stops p is incumbent low stopped written = record {
  attained = attained ts exact ws start first p incumbent;
  passes = subst (PassesBy means ts exact ws p.value start) (sym written) (tree_log_passes means ts exact ws start first parts stops p.value is closes_all);
  earned = subst (IsEarnedLog ts exact ws start first) (sym written) (tree_log_is_earned means ts exact ws start first parts stops is).0;
}
  where
    closes_all : ClosesAll stops parts p.value
    closes_all k l (inl e) = stopped (part_at parts k) e
    closes_all k l (inr whole) = low k l whole

pub search_is_spent : SearchIsSpent
search_is_spent means ts exact ws start first parts p k b n is incumbent next free must never written = record {
  attained = attained ts exact ws start first p incumbent;
  gap = next.above;
  passes = subst (PassesBy means ts exact ws (part_at parts k).key start) (sym written) (tree_log_passes means ts exact ws start first parts never_stops (part_at parts k).key is closes_all);
  earned = subst (IsEarnedLog ts exact ws start first) (sym written) (tree_log_is_earned means ts exact ws start first parts never_stops is).0;
  leaves = subst (LeavesEarned ts exact ws start first) (sym written)
      (tree_log_leaves means ts exact ws start first parts k b n is next.there next.whole free (split_is_earned means ts exact ws start first parts p.sets p.value k b n is incumbent next must never));
}
  where
    closes_all : ClosesAll never_stops parts (part_at parts k).key
    closes_all j l (inl e) = absurd (false≢true e)
    closes_all j l (inr whole) = next.greatest j l whole

pub closed_is_low : ClosedIsLow
closed_is_low value q e = grind (arith, ints)
