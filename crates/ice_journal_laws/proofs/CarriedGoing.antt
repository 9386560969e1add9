-- A settlement of a session, written whole: one that goes on, and the last one.
use Rattle.std.proofs.Common.{◌≡◌, ◌<◌, Bool, true, false, cond, List, [], ◌∷◌, ◌++◌, length, map, ℤ, refl, subst, arith}
use Rattle.std.specs.List.{flat_map}
use Rattle.ice_defs.specs.Exchange.{names_of}
use Rattle.ice_defs.specs.declared.Group.TheVariants.{Final, Provisional, Without}
use Rattle.ice_defs.specs.Session.{Proved, Payment, Settlement, Going, Closed, closes}
use Rattle.ice_journal.specs.Records.{Record, session_kind, closed_end}
use Rattle.ice_journal.specs.Records as line
use Rattle.ice_journal_laws.specs.State.{at_group, at_prices, at_accuracy, at_accuracy_rows, at_balance_rows, at_threshold, at_payment, at_end, done, State, exchange_at, settings_at, trees_at, exact_at, goods_at, weights_at}
use Rattle.ice_journal_laws.specs.Next.{go_to}
use Rattle.ice_journal_laws.specs.Tests.{vickreys, final_worth}
use Rattle.ice_journal_laws.specs.Written.{row_record, judged_records, payment_record}
use Rattle.ice_journal_laws.specs.Carrying.{Carries}
use Rattle.ice_journal_laws.specs.Showing.{group_records, regret_group_records, IsShownSettlement}
use Rattle.ice_journal_laws.specs.ShowingSession.{without_group_records, closed_in, opening_in, going_in, AreShownWithout, AreShownPayments, IsShownClosed, IsShownGoing, IsShownPricing}
use Rattle.ice_journal_laws.proofs.Carried.{TakesTo, carries_join, carries_then, carries_one}
use Rattle.ice_journal_laws.proofs.CarriedGroup.{head_takes, group_carries}
use Rattle.ice_journal_laws.proofs.CarriedSettlement.{with_settlement, settlement_carries}
use Rattle.ice_journal_laws.proofs.CarriedPricing.{prices_take, accuracy_takes, accuracy_rows_carry, balance_takes, balance_rows_carry}
use Rattle.ice_journal_laws.proofs.CarriedRound.{resting_at, judged_carry}
use Rattle.ice_journal_laws.proofs.CarriedClosing.{withouts_carry, threshold_takes, payments_carry, closed_end_takes}

-- a settlement of a session begins
abbrev pub settling : State → State
settling s = record s { kind = session_kind; judged = []; withouts = [] }

-- the regret is stated, and this is how the close test comes out
pub regret_stated : (s : State) (number_start : State) (x : Settlement) (closed : Bool) → closes (settings_at s) s.number x.regret ≡ closed → TakesTo number_start (line.settle s.number) (go_to (at_group Final) (settling s)) → 0 < length (trees_at s)
    → IsShownSettlement (exchange_at s) s.bounds x
    → Carries number_start (line.settle s.number ∷ regret_group_records s.version (goods_at s) x) (go_to (cond closed (at_group (Without 0)) (at_group Provisional)) (with_settlement x (settling s)))
regret_stated s start x closed e settles some is =
    carries_then start (go_to (at_group Final) (settling s)) (go_to (cond closed (at_group (Without 0)) (at_group Provisional)) (with_settlement x (settling s))) (line.settle s.number) (regret_group_records s.version (goods_at s) x) settles
    (subst (λ (b : Bool). Carries (go_to (at_group Final) (settling s)) (regret_group_records s.version (goods_at s) x) (go_to (cond b (at_group (Without 0)) (at_group Provisional)) (with_settlement x (settling s)))) e
    (settlement_carries (settling s) x (go_to (at_group Final) (settling s)) (head_takes (settling s) Final x.final.value refl) some is))

-- ---- one that goes on

abbrev pub with_prices : Going → State → State
with_prices g s = record s { prices = g.prices; violation = g.violation }

abbrev pub with_going : Going → State → State
with_going g s = with_prices g (record (with_settlement g.settlement (settling s)) { offered = g.provisional.sets })

module _ (s : State) (g : Going) (is : IsShownPricing (trees_at s) (weights_at s Provisional) (goods_at s) (settings_at s).cap (record g { provisional = record g.provisional { sets = s.offered } })) where
  -- the prices and the rows of their accuracy
  pub prices_carry : Carries (go_to at_prices s) (line.prices g.prices ∷ line.accuracy g.violation g.accuracy.den ∷ map row_record g.accuracy.rows) (go_to (at_accuracy_rows g.accuracy.den g.accuracy.rows) (with_prices g s))
  prices_carry =
      carries_then (go_to at_prices s) (go_to at_accuracy (record s { prices = g.prices })) (go_to (at_accuracy_rows g.accuracy.den g.accuracy.rows) (with_prices g s)) (line.prices g.prices) (line.accuracy g.violation g.accuracy.den ∷ map row_record g.accuracy.rows)
      (prices_take s g.prices is.prices)
      (carries_then (go_to at_accuracy (record s { prices = g.prices })) (go_to (at_accuracy_rows g.accuracy.den []) (with_prices g s)) (go_to (at_accuracy_rows g.accuracy.den g.accuracy.rows) (with_prices g s)) (line.accuracy g.violation g.accuracy.den) (map row_record g.accuracy.rows)
      (accuracy_takes (record s { prices = g.prices }) g.violation g.accuracy.den is.violation)
      (accuracy_rows_carry (with_prices g s) g.accuracy.den g.accuracy.rows [] g.accuracy.rows refl is.accuracy_few is.accuracy))

  -- the rows of their balance
  pub balance_carries : Carries (go_to (at_accuracy_rows g.accuracy.den g.accuracy.rows) (with_prices g s)) (line.balance g.balance.den ∷ map row_record g.balance.rows) (go_to (at_balance_rows g.balance.den g.balance.rows) (with_prices g s))
  balance_carries =
      carries_then (go_to (at_accuracy_rows g.accuracy.den g.accuracy.rows) (with_prices g s)) (go_to (at_balance_rows g.balance.den []) (with_prices g s)) (go_to (at_balance_rows g.balance.den g.balance.rows) (with_prices g s)) (line.balance g.balance.den) (map row_record g.balance.rows)
      (balance_takes (with_prices g s) g.accuracy.den g.accuracy.rows g.balance.den is.accuracy)
      (balance_rows_carry (with_prices g s) g.balance.den g.balance.rows [] g.balance.rows refl is.balance_few is.balance)

-- from the settlement's record to the end of its round
pub going_carries : (s start : State) (g : Going) → TakesTo start (line.settle s.number) (go_to (at_group Final) (settling s)) → 0 < length (trees_at s) → closes (settings_at s) s.number g.settlement.regret ≡ false
    → IsShownGoing (exchange_at s) s.bounds g → Carries start (going_in s.version (goods_at s) s.number g) (resting_at g.balance g.judged (with_going g s))
going_carries s start g settles some open_session is =
    let one : State = with_settlement g.settlement (settling s) in
    let two : State = record one { offered = g.provisional.sets } in
    let settle_records : List Record = line.settle s.number ∷ regret_group_records s.version (goods_at s) g.settlement in
    let provisional : List Record = group_records s.version (goods_at s) (line.provisional g.provisional.value) g.provisional in
    let prices : List Record = line.prices g.prices ∷ line.accuracy g.violation g.accuracy.den ∷ map row_record g.accuracy.rows in
    let balance : List Record = line.balance g.balance.den ∷ map row_record g.balance.rows in
    carries_join start (go_to (at_balance_rows g.balance.den g.balance.rows) (with_going g s)) (resting_at g.balance g.judged (with_going g s)) (settle_records ++ opening_in s.version (goods_at s) g) (flat_map judged_records g.judged)
    (carries_join start (go_to (at_group Provisional) one) (go_to (at_balance_rows g.balance.den g.balance.rows) (with_going g s)) settle_records (opening_in s.version (goods_at s) g)
    (regret_stated s start g.settlement false open_session settles some is.settlement)
    (carries_join (go_to (at_group Provisional) one) (go_to (at_accuracy_rows g.accuracy.den g.accuracy.rows) (with_going g s)) (go_to (at_balance_rows g.balance.den g.balance.rows) (with_going g s)) (provisional ++ prices) balance
    (carries_join (go_to (at_group Provisional) one) (go_to at_prices two) (go_to (at_accuracy_rows g.accuracy.den g.accuracy.rows) (with_going g s)) provisional prices
    (group_carries one Provisional g.provisional refl some is.provisional)
    (prices_carry two g is.pricing))
    (balance_carries two g is.pricing)))
    (judged_carry (with_going g s) g.balance [] g.judged is.pricing.balance is.verdicts)

-- ---- the last one

abbrev pub with_closed : Closed → State → State
with_closed c s = record (with_settlement c.settlement (settling s)) { withouts = map (λ p. p.value) c.withouts; cut = c.cut; surplus = c.surplus }

withouts_all : (s : State) (ps : List Proved) → length ps ≡ length (trees_at s) → 0 < length (trees_at s) → s.withouts ≡ [] → AreShownWithout (trees_at s) (exact_at s) (weights_at s (Without 0)) 0 ps
    → Carries (go_to (at_group (Without 0)) s) (without_group_records s.version (goods_at s) 0 ps) (go_to at_threshold (record s { withouts = map (λ p. p.value) ps }))
withouts_all s [] count some none are = absurd (omega (arith, count, some))
withouts_all s (p ∷ later) count some none are =
    subst (λ (values : List ℤ). Carries (go_to (at_group (Without 0)) s) (without_group_records s.version (goods_at s) 0 (p ∷ later)) (go_to at_threshold (record s { withouts = values ++ map (λ (p : Proved). p.value) (p ∷ later) }))) none
    (withouts_carry s 0 p later (omega (arith, count)) are)

payments_all : (s : State) (ps : List Payment) → length ps ≡ length (trees_at s) → 0 < length (trees_at s) → AreShownPayments (names_of (exchange_at s)) (vickreys s) (final_worth s) s.cut 0 ps
    → Carries (go_to (at_payment 0) s) (map payment_record ps) (go_to (at_end closed_end) s)
payments_all s [] count some are = absurd (omega (arith, count, some))
payments_all s (p ∷ later) count some are = payments_carry s 0 p later (omega (arith, count)) are

-- from the settlement's record to the end of the journal
pub closed_carries : (s start : State) (c : Closed) → TakesTo start (line.settle s.number) (go_to (at_group Final) (settling s)) → 0 < length (trees_at s) → closes (settings_at s) s.number c.settlement.regret ≡ true
    → IsShownClosed (exchange_at s) s.bounds c → Carries start (closed_in s.version (goods_at s) s.number c) (go_to done (with_closed c s))
closed_carries s start c settles some closing is =
    let one : State = with_settlement c.settlement (settling s) in
    let two : State = record one { withouts = map (λ (p : Proved). p.value) c.withouts } in
    let settle_records : List Record = line.settle s.number ∷ regret_group_records s.version (goods_at s) c.settlement in
    let withouts : List Record = without_group_records s.version (goods_at s) 0 c.withouts in
    let payments : List Record = line.threshold c.cut c.surplus ∷ map payment_record c.payments in
    carries_join start (go_to (at_end closed_end) (with_closed c s)) (go_to done (with_closed c s)) (settle_records ++ withouts ++ payments) (line.end closed_end ∷ [])
    (carries_join start (go_to at_threshold two) (go_to (at_end closed_end) (with_closed c s)) (settle_records ++ withouts) payments
    (carries_join start (go_to (at_group (Without 0)) one) (go_to at_threshold two) settle_records withouts
    (regret_stated s start c.settlement true closing settles some is.settlement)
    (withouts_all one c.withouts is.withouts_count some refl is.withouts))
    (carries_then (go_to at_threshold two) (go_to (at_payment 0) (with_closed c s)) (go_to (at_end closed_end) (with_closed c s)) (line.threshold c.cut c.surplus) (map payment_record c.payments)
    (threshold_takes two c.cut c.surplus is.threshold)
    (payments_all (with_closed c s) c.payments is.payments_count some is.payments)))
    (carries_one (go_to (at_end closed_end) (with_closed c s)) (go_to done (with_closed c s)) (line.end closed_end) (closed_end_takes (with_closed c s)))
