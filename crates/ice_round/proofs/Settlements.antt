-- From the searches to the final sets, their rival and the regret.
use Rattle.std.proofs.Common.{◌≡◌, ◌∙◌, ◌<◌, ℕ, ℤ, List, [], ◌∷◌, ◌++◌, length, pos, ◌≤ℤ◌, refl, sym, ap, subst, arith, length-append}
use Rattle.std.specs.List.{AllByRecursion}
use Rattle.std.proofs.lemmas.List.{length-map, map_push}
use Rattle.std.proofs.lemmas.List.Sums.{sum_by_push}
use Rattle.ice_defs.specs.Steps.{branch_count}
use Rattle.ice_defs.specs.Set.{Weights}
use Rattle.ice_defs.specs.Trade.{Assignment}
use Rattle.ice_defs.specs.Bounds.{Bounds}
use Rattle.ice_defs.specs.Weighing.{lower_weights, perturbed_weights}
use Rattle.ice_defs.specs.Group.{free_side, empty_sets}
use Rattle.ice_defs.specs.Searched.{IsFound}
use Rattle.ice_defs.specs.Session.{Proved}
use Rattle.ice_defs.specs.Exchange.{Exchange, trees_of, exact_of}
use Rattle.ice_headline_laws.specs.Right.{IsBestFound}
use Rattle.ice_defs.proofs.Starts.{meets_free_side}
use Rattle.ice_defs.proofs.EmptySets.{empty_feasible, total_value-empty}
use Rattle.ice_refute.specs.Code.{CountsGoods}
use Rattle.ice_search_log.proofs.Found.{found_is_best}
use Rattle.ice_search.specs.Results.{proved_found, IsFoundBy}
use Rattle.ice_search.specs.declared.results.Found.{Found}
use Rattle.ice_regret.specs.Regretted.{IsRegretOf, proved_rival}
use Rattle.ice_regret.specs.declared.lead.Regret.{Regret}
use Rattle.ice_vickrey.specs.Marginals.{IsMarginalOf, AreMarginalsFrom, AreMarginals}
use Rattle.ice_vickrey.specs.declared.marginal.Marginal.{Marginal}
use Rattle.ice_round.specs.SessionAt.{SessionAt, IsSessionAt}
use Rattle.ice_round.specs.Searches.{final_search, economy_of, IsSettlementOf}
use Rattle.ice_round.specs.Settling.{SettlingAt, IsSettling}
use Rattle.ice_round.specs.Held.{Held, settling_with, HasFound, HasOneMore}
use Rattle.ice_round.proofs.Growing.{marginals_push}

-- sets that a search found with all nodes free are the best of all
pub best_found : (ex : Exchange) (bounds : List Bounds) (ws : List Weights) (first : Assignment) (p : Proved)
    → AllByRecursion (CountsGoods (length (exact_of ex))) p.log → IsFound (trees_of ex) (exact_of ex) ws (free_side (trees_of ex)) first p → IsBestFound ex bounds ws p
best_found ex bounds ws first p counts found =
    let best = found_is_best (trees_of ex) (exact_of ex) ws (free_side (trees_of ex)) first p counts found in
    record {
      feasible = found.attained.feasible;
      value = found.attained.has;
      best = record {
        attained = (p.sets, found.attained.feasible, found.attained.has);
        bound = λ a feasible. best.bound a (feasible, meets_free_side (trees_of ex) a);
      };
    }

pub final_best : (s : SessionAt) (best : Found) → IsFoundBy (final_search s) best → IsBestFound s.exchange s.bounds (lower_weights s.bounds) (proved_found best)
final_best s best is = best_found s.exchange s.bounds (lower_weights s.bounds) (empty_sets (trees_of s.exchange)) (proved_found best) is.written.counts is.found

-- the final sets are worth no less than nothing
pub final_rich : (s : SessionAt) (best : Found) → IsFoundBy (final_search s) best → pos 0 ≤ℤ best.value
final_rich s best is =
    let all = final_best s best is in
    subst (λ z. z ≤ℤ best.value) (total_value-empty (trees_of s.exchange) (lower_weights s.bounds))
    (all.best.bound (empty_sets (trees_of s.exchange)) (empty_feasible (trees_of s.exchange) (exact_of s.exchange)))

pub settlement_is : (s : SessionAt) (best : Found) (regret : Regret) → IsFoundBy (final_search s) best → IsRegretOf s.exchange s.bounds best.best regret → IsSettlementOf s best regret
settlement_is s best regret found is = record {
  final = found;
  regret = is;
  settled = record {
    final = final_best s best found;
    rival = best_found s.exchange s.bounds (perturbed_weights best.best s.bounds) best.best (proved_rival regret) is.written.counts is.found;
    regret = is.regret;
  };
}

-- with them a settlement is on its way, and no bidder is done
pub begun_settling : (s : SessionAt) (best : Found) (regret : Regret) (done : List Marginal) → IsSessionAt s → IsFoundBy (final_search s) best → IsRegretOf s.exchange s.bounds best.best regret → done ≡ []
    → IsSettling (record { session = s; best = best; regret = regret; done = done })
begun_settling s best regret done at found is none = record {
  session = at;
  settlement = settlement_is s best regret found is;
  few = omega (arith, ap length none);
  each = subst (AreMarginalsFrom (economy_of s best) 0) (sym none) tt;
}

-- one more bidder is done
pub more_settling : (x : SettlingAt) (done : List Marginal) (m : Marginal) → IsSettling x → length x.done < length (trees_of x.session.exchange) → IsMarginalOf (economy_of x.session x.best) (length x.done) m → done ≡ x.done ++ m ∷ []
    → IsSettling (record x { done = done })
more_settling x done m is next marginal grown = record {
  session = is.session;
  settlement = is.settlement;
  few = omega (arith, next, ap length grown, length-append x.done (m ∷ []));
  each = subst (AreMarginalsFrom (economy_of x.session x.best) 0) (sym grown)
      (marginals_push (economy_of x.session x.best) 0 x.done m is.each (subst (λ (n : ℕ). IsMarginalOf (economy_of x.session x.best) n m) (omega arith) marginal));
}

-- ---- what is held of it

-- the discounts count the bidders that are done
pub done_count : (h : Held) (done : List Marginal) → HasFound h done → length done ≡ length h.discounts
done_count h done is = sym (ap length is.discounts ∙ length-map done (λ (m : Marginal). m.discount))

-- one more
pub found_more : (h next : Held) (done : List Marginal) (m : Marginal) → HasFound h done → length h.discounts < length (trees_of h.session.exchange) → HasOneMore h m next → HasFound next (done ++ m ∷ [])
found_more h next done m is left more =
    let count = done_count h done is in
    let all : List Marginal = done ++ m ∷ [] in
    subst (λ (z : Held). HasFound z all) (sym more.then) (record {
      found = more_settling (settling_with h done) all m is.found (omega (arith, count, left)) (subst (λ (n : ℕ). IsMarginalOf (economy_of h.session h.best) n m) (sym count) more.is) refl;
      discounts = ap (λ (vs : List ℤ). vs ++ m.discount ∷ []) is.discounts ∙ sym (map_push (λ (x : Marginal). x.discount) done m);
      branches = omega (arith, sum_by_push (λ (x : Marginal). branch_count x.log) done m, more.branches, is.branches);
    })

-- all of them
pub all_found : (h : Held) (done : List Marginal) → HasFound h done → length h.discounts ≡ length (trees_of h.session.exchange) → AreMarginals (economy_of h.session h.best) done
all_found h done is all = record { count = done_count h done is ∙ all; each = is.found.each }
