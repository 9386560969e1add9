-- What a writer of a session writes in version 2 says the session.
use Rattle.std.proofs.Common.{◌≡◌, ℕ, suc, Bool, List, [], ◌∷◌, ◌++◌, length, map, refl, subst}
use Rattle.std.specs.List.{AllByRecursion, flat_map}
use Rattle.ice_defs.specs.Tree.{Tree}
use Rattle.ice_defs.specs.Set.{Weights}
use Rattle.ice_defs.specs.Bounds.{Bounds}
use Rattle.ice_defs.specs.Rows.{Row}
use Rattle.ice_defs.specs.Round.{Judged}
use Rattle.ice_defs.specs.Exchange.{Exchange, exact_of, opening_bounds}
use Rattle.ice_headline_laws.specs.Right.{bounds_after_round}
use Rattle.ice_defs.specs.Session.{Proved, Going, Closed, Session}
use Rattle.ice_refute.specs.Code.{CountsGoods}
use Rattle.ice_journal.specs.Records.{Record, version_2, session_kind, closed_end}
use Rattle.ice_journal.specs.Records as line
use Rattle.ice_journal.specs.Plain.{plain}
use Rattle.ice_journal_laws.specs.Written.{proved_records, regret_records, row_record, judged_records, opening_records, going_records, without_records, payment_record, closed_records, settlement_records, session_records}
use Rattle.ice_journal_laws.specs.Showing.{group_records, regret_group_records}
use Rattle.ice_journal_laws.specs.ShowingSession.{without_group_records, closed_in, opening_in, going_in, settlements_in, session_in, AreShownWithout, IsShownClosed, IsShownGoing, AreShownFrom, IsShownSession}
use Rattle.ice_journal_laws.proofs.CarriedVersions.{Unpacks, unpacks_none, unpacks_join, unpacks_then, unpacks_map, unpacks_group, plain_record, unpacks_settlement, whole_says, settlement_counts}

module _ (goods : ℕ) where
  -- ---- the closing

  pub unpacks_withouts : (ts : List Tree) (exact : List Bool) (ws : List Weights) (b : ℕ) (ps : List Proved) → length exact ≡ goods → AreShownWithout ts exact ws b ps → Unpacks goods (without_group_records version_2 goods b ps) (without_records b ps)
  unpacks_withouts ts exact ws b [] count are = unpacks_none goods
  unpacks_withouts ts exact ws b (p ∷ later) count are =
      unpacks_join goods (group_records version_2 goods (line.without b p.value) p) (proved_records (line.without b p.value) p) (without_group_records version_2 goods (suc b) later) (without_records (suc b) later)
      (unpacks_group goods (line.without b p.value) p (plain_record goods (line.without b p.value) (λ m rest. refl) (λ rest. refl)) (subst (λ (n : ℕ). AllByRecursion (CountsGoods n) p.log) count are.0.counts))
      (unpacks_withouts ts exact ws (suc b) later count are.1)

  unpacks_payments : (c : Closed) → Unpacks goods (line.threshold c.cut c.surplus ∷ map payment_record c.payments) (line.threshold c.cut c.surplus ∷ map payment_record c.payments)
  unpacks_payments c =
      unpacks_then goods (line.threshold c.cut c.surplus) (map payment_record c.payments) (map payment_record c.payments) (plain_record goods (line.threshold c.cut c.surplus) (λ m rest. refl) (λ rest. refl))
      (unpacks_map goods payment_record (λ p. plain_record goods (payment_record p) (λ m rest. refl) (λ rest. refl)) c.payments)

  -- ---- a settlement that goes on

  unpacks_rows : (rows : List Row) → Unpacks goods (map row_record rows) (map row_record rows)
  unpacks_rows rows = unpacks_map goods row_record (λ row. plain_record goods (row_record row) (λ m rest. refl) (λ rest. refl)) rows

  unpacks_prices : (g : Going) → Unpacks goods (line.prices g.prices ∷ line.accuracy g.violation g.accuracy.den ∷ map row_record g.accuracy.rows) (line.prices g.prices ∷ line.accuracy g.violation g.accuracy.den ∷ map row_record g.accuracy.rows)
  unpacks_prices g =
      unpacks_then goods (line.prices g.prices) (line.accuracy g.violation g.accuracy.den ∷ map row_record g.accuracy.rows) (line.accuracy g.violation g.accuracy.den ∷ map row_record g.accuracy.rows) (plain_record goods (line.prices g.prices) (λ m rest. refl) (λ rest. refl))
      (unpacks_then goods (line.accuracy g.violation g.accuracy.den) (map row_record g.accuracy.rows) (map row_record g.accuracy.rows) (plain_record goods (line.accuracy g.violation g.accuracy.den) (λ m rest. refl) (λ rest. refl)) (unpacks_rows g.accuracy.rows))

  unpacks_balance : (g : Going) → Unpacks goods (line.balance g.balance.den ∷ map row_record g.balance.rows) (line.balance g.balance.den ∷ map row_record g.balance.rows)
  unpacks_balance g =
      unpacks_then goods (line.balance g.balance.den) (map row_record g.balance.rows) (map row_record g.balance.rows) (plain_record goods (line.balance g.balance.den) (λ m rest. refl) (λ rest. refl)) (unpacks_rows g.balance.rows)

  unpacks_judged : (judged : List Judged) → Unpacks goods (flat_map judged_records judged) (flat_map judged_records judged)
  unpacks_judged [] = unpacks_none goods
  unpacks_judged (j ∷ later) =
      unpacks_then goods (line.submit j.submission) (line.verdict j.verdict ∷ flat_map judged_records later) (line.verdict j.verdict ∷ flat_map judged_records later) (plain_record goods (line.submit j.submission) (λ m rest. refl) (λ rest. refl))
      (unpacks_then goods (line.verdict j.verdict) (flat_map judged_records later) (flat_map judged_records later) (plain_record goods (line.verdict j.verdict) (λ m rest. refl) (λ rest. refl)) (unpacks_judged later))

unpacks_closed : (ex : Exchange) (bounds : List Bounds) (number : ℕ) (c : Closed) → IsShownClosed ex bounds c → Unpacks (length (exact_of ex)) (closed_in version_2 (length (exact_of ex)) number c) (closed_records number c)
unpacks_closed ex bounds number c is =
    let goods : ℕ = length (exact_of ex) in
    let settlement : List Record = line.settle number ∷ regret_group_records version_2 goods c.settlement in
    let settlement_1 : List Record = line.settle number ∷ regret_records c.settlement in
    let payments : List Record = line.threshold c.cut c.surplus ∷ map payment_record c.payments in
    unpacks_join goods (settlement ++ without_group_records version_2 goods 0 c.withouts ++ payments) (settlement_1 ++ without_records 0 c.withouts ++ payments) (line.end closed_end ∷ []) (line.end closed_end ∷ [])
    (unpacks_join goods (settlement ++ without_group_records version_2 goods 0 c.withouts) (settlement_1 ++ without_records 0 c.withouts) payments payments
    (unpacks_join goods settlement settlement_1 (without_group_records version_2 goods 0 c.withouts) (without_records 0 c.withouts)
    (unpacks_then goods (line.settle number) (regret_group_records version_2 goods c.settlement) (regret_records c.settlement) (plain_record goods (line.settle number) (λ m rest. refl) (λ rest. refl)) (unpacks_settlement goods c.settlement (settlement_counts ex bounds c.settlement is.settlement)))
    (unpacks_withouts goods _ _ _ 0 c.withouts refl is.withouts))
    (unpacks_payments goods c))
    (unpacks_then goods (line.end closed_end) [] [] (plain_record goods (line.end closed_end) (λ m rest. refl) (λ rest. refl)) (unpacks_none goods))

pub unpacks_going : (ex : Exchange) (bounds : List Bounds) (number : ℕ) (g : Going) → IsShownGoing ex bounds g → Unpacks (length (exact_of ex)) (going_in version_2 (length (exact_of ex)) number g) (going_records number g)
unpacks_going ex bounds number g is =
    let goods : ℕ = length (exact_of ex) in
    let settlement : List Record = line.settle number ∷ regret_group_records version_2 goods g.settlement in
    let settlement_1 : List Record = line.settle number ∷ regret_records g.settlement in
    let provisional : List Record = group_records version_2 goods (line.provisional g.provisional.value) g.provisional in
    let provisional_1 : List Record = proved_records (line.provisional g.provisional.value) g.provisional in
    let prices : List Record = line.prices g.prices ∷ line.accuracy g.violation g.accuracy.den ∷ map row_record g.accuracy.rows in
    let balance : List Record = line.balance g.balance.den ∷ map row_record g.balance.rows in
    unpacks_join goods (settlement ++ opening_in version_2 goods g) (settlement_1 ++ opening_records g) (flat_map judged_records g.judged) (flat_map judged_records g.judged)
    (unpacks_join goods settlement settlement_1 (opening_in version_2 goods g) (opening_records g)
    (unpacks_then goods (line.settle number) (regret_group_records version_2 goods g.settlement) (regret_records g.settlement) (plain_record goods (line.settle number) (λ m rest. refl) (λ rest. refl)) (unpacks_settlement goods g.settlement (settlement_counts ex bounds g.settlement is.settlement)))
    (unpacks_join goods (provisional ++ prices) (provisional_1 ++ prices) balance balance
    (unpacks_join goods provisional provisional_1 prices prices
    (unpacks_group goods (line.provisional g.provisional.value) g.provisional (plain_record goods (line.provisional g.provisional.value) (λ m rest. refl) (λ rest. refl)) is.provisional.counts)
    (unpacks_prices goods g))
    (unpacks_balance goods g)))
    (unpacks_judged goods g.judged)

unpacks_settlements : (ex : Exchange) (bounds : List Bounds) (number : ℕ) (going : List Going) (c : Closed) → AreShownFrom ex number bounds going c
    → Unpacks (length (exact_of ex)) (settlements_in version_2 (length (exact_of ex)) number going c) (settlement_records number going c)
unpacks_settlements ex bounds number [] c is = unpacks_closed ex bounds number c is.1
unpacks_settlements ex bounds number (g ∷ later) c is =
    unpacks_join (length (exact_of ex)) (going_in version_2 (length (exact_of ex)) number g) (going_records number g) (settlements_in version_2 (length (exact_of ex)) (suc number) later c) (settlement_records (suc number) later c)
    (unpacks_going ex bounds number g is.1) (unpacks_settlements ex (bounds_after_round ex bounds g) (suc number) later c is.2)

-- a session
pub session_says : (s : Session) → IsShownSession s → plain (session_in version_2 s) ≡ session_records s
session_says s is =
    whole_says session_kind s.exchange (settlements_in version_2 (length (exact_of s.exchange)) 0 s.going s.closed) (settlement_records 0 s.going s.closed)
    (unpacks_settlements s.exchange (opening_bounds s.exchange) 0 s.going s.closed is.settlements)
