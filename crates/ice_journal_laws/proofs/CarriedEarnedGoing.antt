-- The steps of settlements that go on, and of the groups without each bidder, are earned.
use Rattle.std.proofs.Common.{◌≡◌, ◌<◌, ◌+◌, ℕ, suc, Bool, false, cond, List, [], ◌∷◌, ◌++◌, length, map, ℤ, refl, sym, subst, arith, append_assoc}
use Rattle.std.specs.List.{AllByRecursion, flat_map}
use Rattle.std.proofs.lemmas.Bool.{ne_eqb}
use Rattle.std.proofs.lemmas.List.{append-nil}
use Rattle.ice_defs.specs.declared.Group.TheVariants.{Final, Provisional, Without}
use Rattle.ice_defs.specs.Rows.{Row}
use Rattle.ice_defs.specs.Round.{Judged}
use Rattle.ice_defs.specs.Session.{Proved, Settlement, Going, closes}
use Rattle.ice_journal.specs.Records.{Record}
use Rattle.ice_journal.specs.Records as line
use Rattle.ice_journal_laws.specs.State.{at_group, at_accuracy_rows, at_balance_rows, at_prices, at_threshold, State, exchange_at, settings_at, trees_at, exact_at, goods_at, weights_at}
use Rattle.ice_journal_laws.specs.Next.{go_to, bidder_count}
use Rattle.ice_journal_laws.specs.Written.{row_record, judged_records}
use Rattle.ice_journal_laws.specs.Showing.{group_records, regret_group_records, IsShownSettlement}
use Rattle.ice_journal_laws.specs.ShowingSession.{opening_in, going_in, without_group_records, AreShownWithout, IsShownGoing}
use Rattle.ice_journal_laws.specs.StepsTaken.{Earns}
use Rattle.ice_journal_laws.specs.Earning.{Earning, IsEarnedTaken, EarnsWithouts, EarnsSettlement, EarnsGoing}
use Rattle.ice_journal_laws.proofs.Carried.{TakesTo, carries_one}
use Rattle.ice_journal_laws.proofs.CarriedGroup.{head_takes}
use Rattle.ice_journal_laws.proofs.CarriedSettlement.{with_settlement}
use Rattle.ice_journal_laws.proofs.CarriedRound.{resting_at, judged_carry}
use Rattle.ice_journal_laws.proofs.CarriedGoing.{settling, with_going, prices_carry, balance_carries}
use Rattle.ice_journal_laws.proofs.CarriedTaken.{IsNoStep, earns_none, earns_join, earns_quiet}
use Rattle.ice_journal_laws.proofs.CarriedEarned.{group_earns, settlement_earns}

pub rows_quiet : (rows : List Row) → AllByRecursion IsNoStep (map row_record rows)
rows_quiet [] = tt
rows_quiet (row ∷ rows) = (tt, rows_quiet rows)

pub judged_quiet : (judged : List Judged) → AllByRecursion IsNoStep (flat_map judged_records judged)
judged_quiet [] = tt
judged_quiet (j ∷ judged) = (tt, (tt, judged_quiet judged))

module _ (E : Earning) where
  -- the regret is stated, and this is how the close test comes out
  pub regret_earns : (s start : State) (x : Settlement) (closed : Bool) → closes (settings_at s) s.number x.regret ≡ closed → TakesTo start (line.settle s.number) (go_to (at_group Final) (settling s)) → 0 < length (trees_at s)
      → IsShownSettlement (exchange_at s) s.bounds x → EarnsSettlement E (exchange_at s) s.bounds x
      → Earns (IsEarnedTaken E) start (line.settle s.number ∷ regret_group_records s.version (goods_at s) x) (go_to (cond closed (at_group (Without 0)) (at_group Provisional)) (with_settlement x (settling s)))
  regret_earns s start x closed e settles some is earned =
      earns_join (IsEarnedTaken E) start (go_to (at_group Final) (settling s)) (go_to (cond closed (at_group (Without 0)) (at_group Provisional)) (with_settlement x (settling s))) (line.settle s.number ∷ []) (regret_group_records s.version (goods_at s) x)
      (earns_quiet (IsEarnedTaken E) start (go_to (at_group Final) (settling s)) (line.settle s.number ∷ []) (carries_one start (go_to (at_group Final) (settling s)) (line.settle s.number) settles) (tt, tt))
      (subst (λ (b : Bool). Earns (IsEarnedTaken E) (go_to (at_group Final) (settling s)) (regret_group_records s.version (goods_at s) x) (go_to (cond b (at_group (Without 0)) (at_group Provisional)) (with_settlement x (settling s)))) e
      (settlement_earns E (settling s) x (go_to (at_group Final) (settling s)) (head_takes (settling s) Final x.final.value refl) some is earned))

  -- a settlement that goes on
  pub going_earns : (s start : State) (g : Going) → TakesTo start (line.settle s.number) (go_to (at_group Final) (settling s)) → 0 < length (trees_at s) → closes (settings_at s) s.number g.settlement.regret ≡ false
      → IsShownGoing (exchange_at s) s.bounds g → EarnsGoing E (exchange_at s) s.bounds g → Earns (IsEarnedTaken E) start (going_in s.version (goods_at s) s.number g) (resting_at g.balance g.judged (with_going g s))
  going_earns s start g settles some open_session is earned =
      let one : State = with_settlement g.settlement (settling s) in
      let two : State = record one { offered = g.provisional.sets } in
      let settle_records : List Record = line.settle s.number ∷ regret_group_records s.version (goods_at s) g.settlement in
      let provisional : List Record = group_records s.version (goods_at s) (line.provisional g.provisional.value) g.provisional in
      let prices : List Record = line.prices g.prices ∷ line.accuracy g.violation g.accuracy.den ∷ map row_record g.accuracy.rows in
      let balance : List Record = line.balance g.balance.den ∷ map row_record g.balance.rows in
      earns_join (IsEarnedTaken E) start (go_to (at_balance_rows g.balance.den g.balance.rows) (with_going g s)) (resting_at g.balance g.judged (with_going g s)) (settle_records ++ opening_in s.version (goods_at s) g) (flat_map judged_records g.judged)
      (earns_join (IsEarnedTaken E) start (go_to (at_group Provisional) one) (go_to (at_balance_rows g.balance.den g.balance.rows) (with_going g s)) settle_records (opening_in s.version (goods_at s) g)
      (regret_earns s start g.settlement false open_session settles some is.settlement earned.settlement)
      (earns_join (IsEarnedTaken E) (go_to (at_group Provisional) one) (go_to (at_accuracy_rows g.accuracy.den g.accuracy.rows) (with_going g s)) (go_to (at_balance_rows g.balance.den g.balance.rows) (with_going g s)) (provisional ++ prices) balance
      (earns_join (IsEarnedTaken E) (go_to (at_group Provisional) one) (go_to at_prices two) (go_to (at_accuracy_rows g.accuracy.den g.accuracy.rows) (with_going g s)) provisional prices
      (group_earns E (go_to (at_group Provisional) one) one Provisional g.provisional (line.provisional g.provisional.value) tt (head_takes one Provisional g.provisional.value refl) refl some is.provisional earned.provisional)
      (earns_quiet (IsEarnedTaken E) (go_to at_prices two) (go_to (at_accuracy_rows g.accuracy.den g.accuracy.rows) (with_going g s)) prices (prices_carry two g is.pricing) (tt, (tt, rows_quiet g.accuracy.rows))))
      (earns_quiet (IsEarnedTaken E) (go_to (at_accuracy_rows g.accuracy.den g.accuracy.rows) (with_going g s)) (go_to (at_balance_rows g.balance.den g.balance.rows) (with_going g s)) balance (balance_carries two g is.pricing) (tt, rows_quiet g.balance.rows))))
      (earns_quiet (IsEarnedTaken E) (go_to (at_balance_rows g.balance.den g.balance.rows) (with_going g s)) (resting_at g.balance g.judged (with_going g s)) (flat_map judged_records g.judged)
      (judged_carry (with_going g s) g.balance [] g.judged is.pricing.balance is.verdicts) (judged_quiet g.judged))

  -- groups without each bidder, as far as they go
  pub withouts_earn : (s : State) (b : ℕ) (ps : List Proved) → b + length ps < length (trees_at s) → AreShownWithout (trees_at s) (exact_at s) (weights_at s (Without b)) b ps → EarnsWithouts E (trees_at s) (exact_at s) (weights_at s (Without b)) b ps
      → Earns (IsEarnedTaken E) (go_to (at_group (Without b)) s) (without_group_records s.version (goods_at s) b ps) (go_to (at_group (Without (b + length ps))) (record s { withouts = s.withouts ++ map (λ p. p.value) ps }))
  withouts_earn s b [] count is earned =
      subst (λ (k : ℕ). Earns (IsEarnedTaken E) (go_to (at_group (Without b)) s) [] (go_to (at_group (Without k)) (record s { withouts = s.withouts ++ [] }))) (omega arith)
      (subst (λ (values : List ℤ). Earns (IsEarnedTaken E) (go_to (at_group (Without b)) s) [] (go_to (at_group (Without b)) (record s { withouts = values }))) (sym (append-nil s.withouts)) (earns_none (IsEarnedTaken E) (go_to (at_group (Without b)) s)))
  withouts_earn s b (p ∷ later) count is earned =
      let one : State = record s { withouts = s.withouts ++ p.value ∷ [] } in
      let all : State = record s { withouts = s.withouts ++ map (λ (p : Proved). p.value) (p ∷ later) } in
      earns_join (IsEarnedTaken E) (go_to (at_group (Without b)) s) (go_to (at_group (Without (suc b))) one) (go_to (at_group (Without (b + suc (length later)))) all) (group_records s.version (goods_at s) (line.without b p.value) p) (without_group_records s.version (goods_at s) (suc b) later)
      (subst (λ (t : Bool). Earns (IsEarnedTaken E) (go_to (at_group (Without b)) s) (group_records s.version (goods_at s) (line.without b p.value) p) (go_to (cond t at_threshold (at_group (Without (suc b)))) one))
      (ne_eqb (suc b) (bidder_count s) (λ e. omega (arith, count, e)))
      (group_earns E (go_to (at_group (Without b)) s) s (Without b) p (line.without b p.value) tt (head_takes s (Without b) p.value refl) refl (omega (arith, count)) is.0 earned.0))
      (subst (λ (k : ℕ). Earns (IsEarnedTaken E) (go_to (at_group (Without (suc b))) one) (without_group_records s.version (goods_at s) (suc b) later) (go_to (at_group (Without k)) all)) (omega arith)
      (subst (λ (values : List ℤ). Earns (IsEarnedTaken E) (go_to (at_group (Without (suc b))) one) (without_group_records s.version (goods_at s) (suc b) later) (go_to (at_group (Without (suc b + length later))) (record s { withouts = values })))
      (append_assoc s.withouts (p.value ∷ []) (map (λ (p : Proved). p.value) later))
      (withouts_earn one (suc b) later (omega (arith, count)) is.1 earned.1)))
