-- The searches of a session, settlement by settlement: where one
-- is spent, there were fewer branches than all could use.
use Rattle.std.proofs.Common.{ℕ, suc, ◌+◌, ◌*◌, ◌^◌, ◌<◌, ◌≤◌, ◌≡◌, List, [], ◌∷◌, length, ℤ, arith}
use Rattle.std.proofs.Math.Nat.{mul-le-mul_left}
use Rattle.std.proofs.lemmas.List.{length-map}
use Rattle.std.proofs.lemmas.List.Sums.{sum_by-cons}
use Rattle.ice_defs.specs.Set.{Weights}
use Rattle.ice_defs.specs.Bounds.{Bounds}
use Rattle.ice_defs.specs.Steps.{branch_count}
use Rattle.ice_defs.specs.Weighing.{lower_weights, weighted_weights, perturbed_weights}
use Rattle.ice_defs.specs.declared.Group.{Group}
use Rattle.ice_defs.specs.declared.Group.TheVariants.{Final, Rival, Provisional, Without}
use Rattle.ice_defs.specs.Exchange.{Bidder, Exchange, trees_of, exact_of, opening_bounds}
use Rattle.ice_defs.specs.Session.{Proved, Going}
use Rattle.ice_headline_laws.specs.Right.{bounds_after_round}
use Rattle.ice_search.specs.Results.{IsFoundBy}
use Rattle.ice_search.specs.declared.results.Found.{Found}
use Rattle.ice_regret.specs.declared.lead.Regret.{Regret}
use Rattle.ice_vickrey.specs.Marginals.{AreMarginalsFrom, branches_of}
use Rattle.ice_vickrey.specs.declared.marginal.Marginal.{Marginal}
use Rattle.ice_journal_laws.specs.Showing.{IsShown}
use Rattle.ice_journal_laws.specs.ShowingSession.{AreShownGoing}
use Rattle.ice_journal_laws.specs.Positions.{going_branches}
use Rattle.ice_round.specs.SessionAt.{SessionAt}
use Rattle.ice_round.specs.Searches.{final_search, settlement_branches, IsSettlementOf}
use Rattle.ice_round.specs.Ends.{at_final, at_rival, at_without, at_provisional}
use Rattle.ice_round.proofs.GoingOn.{more_rounds}
use Rattle.ice_session_laws.specs.Running.{IsRunning}
use Rattle.ice_session_laws.specs.Branches.{node_total, enough_for_session}
use Rattle.ice_session_laws.specs.BranchLaws.{SpentSessionHasFew}
use Rattle.ice_session_laws.proofs.BranchLogs.{group_log_is_short}

-- ---- sums

more_going : (x y z b l P : ℕ) → x < P → y < P → z < P → b + 3 * l ≤ 3 * l * P → (x + y + z + b) + 3 * suc l ≤ 3 * suc l * P
more_going x y z b l P hx hy hz h = omega (arith, hx, hy, hz, h)

-- so many searches of fewer branches each
fewer : (P total searches enough : ℕ) → total + searches ≤ searches * P → 1 ≤ searches → searches ≤ enough → total < enough * P
fewer P total searches enough few some le = omega (arith, few, some, mul-le-mul_left P le)

-- ---- settlements that went on

module _ (ex : Exchange) where
  shown_short : (ws : List Weights) (g : Group) (p : Proved) → IsShown (trees_of ex) (exact_of ex) ws g p → branch_count p.log < 2 ^ node_total ex
  shown_short ws g p is = group_log_is_short ex ws p.value g p.log is.passes

  going_short : (number : ℕ) (bounds : List Bounds) (going : List Going) → AreShownGoing ex number bounds going → going_branches going + 3 * length going ≤ 3 * length going * 2 ^ node_total ex
  going_short number bounds [] are = omega arith
  going_short number bounds (g ∷ later) (goes_on, is, are) =
      let x = g.settlement in
      more_going (branch_count x.final.log) (branch_count x.rival.log) (branch_count g.provisional.log) (going_branches later) (length later) (2 ^ node_total ex)
      (shown_short (lower_weights bounds) Final x.final is.settlement.final)
      (shown_short (perturbed_weights x.final.sets bounds) Rival x.rival is.settlement.rival)
      (shown_short (weighted_weights ex.settings.weight bounds) Provisional g.provisional is.provisional)
      (going_short (suc number) (bounds_after_round ex bounds g) later are)

-- ---- the settlement in which a search is spent

module _ (s : SessionAt) where
  abbrev each : ℕ
  each = 2 ^ node_total s.exchange

  final_short : (best : Found) → IsFoundBy (final_search s) best → branch_count best.log < 2 ^ node_total s.exchange
  final_short best is = group_log_is_short s.exchange (lower_weights s.bounds) best.value Final best.log is.found.passes

  settlement_short : (best : Found) (r : Regret) → IsSettlementOf s best r → settlement_branches best r + 2 ≤ 2 * 2 ^ node_total s.exchange
  settlement_short best r is =
      omega (arith, final_short best is.final, group_log_is_short s.exchange (perturbed_weights best.best s.bounds) r.value Rival r.log is.regret.found.passes)

  withouts_short : (total : ℤ) (b : ℕ) (ms : List Marginal) → AreMarginalsFrom (record { exchange = s.exchange; bounds = s.bounds; total = total }) b ms → branches_of ms + length ms ≤ length ms * 2 ^ node_total s.exchange
  withouts_short total b [] are = omega arith
  withouts_short total b (m ∷ ms) (is, are) =
      omega (arith, sum_by-cons (λ (x : Marginal). branch_count x.log) m ms, group_log_is_short s.exchange (lower_weights s.bounds) m.without (Without b) m.log is.found.passes, withouts_short total (suc b) ms are)

  module _ (going : List Going) (run : IsRunning going s) where
    before : going_branches going + 3 * length going ≤ 3 * length going * 2 ^ node_total s.exchange
    before = going_short s.exchange 0 (opening_bounds s.exchange) going run.shown

    -- with so many searches in its last settlement, of fewer branches each
    few : (here searches : ℕ) → here ≡ s.branches → here + searches ≤ searches * 2 ^ node_total s.exchange → 1 ≤ searches → 3 * s.number + searches ≤ 3 * s.exchange.settings.rounds + 2 + length s.exchange.bidders
        → s.exchange.settings.branches < enough_for_session s.exchange
    few here searches is short some fits =
        fewer (2 ^ node_total s.exchange) s.exchange.settings.branches (3 * length going + searches) (3 * s.exchange.settings.rounds + 2 + length s.exchange.bidders)
        (omega (arith, before, is, short, run.branches)) (omega (arith, some)) (omega (arith, fits, run.number))

pub spent_session_has_few : SpentSessionHasFew
spent_session_has_few going s _ _ _ _ _ run (at_final {spent = spent} is) =
    let log = group_log_is_short s.exchange (lower_weights s.bounds) spent.bound Final spent.log is.spent.passes in
    few s going run (branch_count spent.log) 1 is.branches (omega (arith, log)) (omega arith) (omega (arith, run.few))
spent_session_has_few going s _ _ _ _ _ run (at_rival {best = best} {spent = spent} left found count is) =
    let log = group_log_is_short s.exchange (perturbed_weights best.best s.bounds) spent.bound Rival spent.log is.spent.passes in
    few s going run (branch_count best.log + branch_count spent.log) 2 (omega (arith, count, is.branches)) (omega (arith, final_short s best found, log)) (omega arith) (omega (arith, run.few))
spent_session_has_few going s _ _ _ _ _ run (at_provisional {best = best} {regret = regret} {spent = spent} left goes_on settlement count is) =
    let log = group_log_is_short s.exchange (weighted_weights s.exchange.settings.weight s.bounds) spent.bound Provisional spent.log is.spent.passes in
    let more = more_rounds s.exchange.settings s.number regret.amount goes_on run.few in
    few s going run (settlement_branches best regret + branch_count spent.log) 3 (omega (arith, count, is.branches)) (omega (arith, settlement_short s best regret settlement, log)) (omega arith) (omega (arith, more))
spent_session_has_few going s _ _ _ _ _ run (at_without {best = best} {regret = regret} {done = done} {spent = spent} left closing settlement count is) =
    let log = group_log_is_short s.exchange (lower_weights s.bounds) spent.bound (Without (length done)) spent.log is.spent.spent.passes in
    let all : length (trees_of s.exchange) ≡ length s.exchange.bidders = length-map s.exchange.bidders (λ (b : Bidder). b.tree) in
    few s going run (settlement_branches best regret + branches_of done + branch_count spent.log) (3 + length done) (omega (arith, count, is.branches))
    (omega (arith, settlement_short s best regret settlement, withouts_short s best.value 0 done is.each, log)) (omega arith) (omega (arith, run.few, is.next, all))
