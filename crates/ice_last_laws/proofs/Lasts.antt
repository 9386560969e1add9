-- The last settlement of a closed session.
use Rattle.std.proofs.Common.{ℕ, suc, ◌*◌, ◌<◌, ◌≡◌, Bool, true, false, List, [], ◌∷◌, ◌++◌, length, map, ℤ, pos, refl, arith, ap, sym, subst, ◌∙◌}
use Rattle.std.specs.Prelude.{unsigned_abs, if◌then◌else◌, int_lt}
use Rattle.std.specs.Int.{◌∣◌}
use Rattle.std.specs.List.{AllByRecursion}
use Rattle.std.proofs.lemmas.Int.{unsigned_abs-mul}
use Rattle.std.proofs.lemmas.List.{append_assoc, append-nil, length-map}
use Rattle.std.proofs.Math.Nat.{dvd-mul_left, one-mul, one-dvd}
use Rattle.std.proofs.lemmas.Nat.Gcd.{dvd_refl, dvd_trans}
use Rattle.ice_defs.specs.Fraction.{Fraction, whole_number, IsFraction, Equals, minus, fraction_at}
use Rattle.ice_defs.specs.Cut.{discount_at_cut}
use Rattle.ice_defs.specs.Exchange.{Bidder, Exchange, trees_of, opening_bounds}
use Rattle.ice_defs.specs.Tree.{Tree}
use Rattle.ice_row_laws.specs.Laws.{AreSatisfied}
use Rattle.ice_defs.specs.Bounds.{Bounds}
use Rattle.ice_defs.specs.Trade.{Assignment}
use Rattle.ice_defs.specs.Session.{Going, Payment, Closed, Session}
use Rattle.ice_headline_laws.specs.Right.{IsRightFrom, IsClosed, final_bounds, payments_of, bounds_after_round, bounds_after_rounds}
use Rattle.ice_defs.proofs.Lists.{all_push}
use Rattle.ice_frac.proofs.Gcd.{gcd_is, gcd_comm, dvd_from_coprime}
use Rattle.ice_pricing_laws.proofs.Lists.{all-map, all-each, all-at}
use Rattle.ice_journal.specs.Records.{Record, version_1, version_2, session_kind, closed_end}
use Rattle.ice_journal.specs.Records as line
use Rattle.ice_journal.specs.Ranges.{IsRecord, IsFractionField}
use Rattle.ice_journal.specs.Plain.{plain, plain_records, goods_in, all_zero, after_changes}
use Rattle.ice_section.specs.Described.{section_records}
use Rattle.ice_defs.specs.Bound.{Multipliers}
use Rattle.ice_journal_laws.specs.State.{exchange_at}
use Rattle.ice_journal_laws.specs.Written.{regret_records, going_records, without_records, payment_record, closed_records, settlement_records, session_records}
use Rattle.ice_journal_laws.proofs.SessionRight.{done_is_session}
use Rattle.ice_last_laws.specs.Last.{paid_of, paid_after, paid_from, payments_said, amounts, DoneIsLast, LastIsPaid}

-- ---- payments that are said

pub paid_append : (before : List Payment) (xs ys : List Record) → paid_from before (xs ++ ys) ≡ paid_from (paid_from before xs) ys
paid_append before [] ys = refl
paid_append before (r ∷ xs) ys = paid_append (paid_after before r) xs ys

paid_map : (before payments : List Payment) → paid_from before (map payment_record payments) ≡ before ++ payments
paid_map before [] = sym (append-nil before)
paid_map before (p ∷ payments) = paid_map (before ++ p ∷ []) payments ∙ append_assoc before (p ∷ []) payments

closed_said : (before : List Payment) (number : ℕ) (c : Closed) → paid_from before (closed_records number c) ≡ c.payments
closed_said before number c =
    let front : List Record = (line.settle number ∷ regret_records c.settlement) ++ without_records 0 c.withouts in
    let paid : List Record = line.threshold c.cut c.surplus ∷ map payment_record c.payments in
    paid_append before (front ++ paid) (line.end closed_end ∷ []) ∙ paid_append before front paid ∙ paid_map [] c.payments

settlements_said : (before : List Payment) (number : ℕ) (going : List Going) (c : Closed) → paid_from before (settlement_records number going c) ≡ c.payments
settlements_said before number [] c = closed_said before number c
settlements_said before number (g ∷ later) c = paid_append before (going_records number g) (settlement_records (suc number) later c) ∙ settlements_said (paid_from before (going_records number g)) (suc number) later c

pub session_said : (x : Session) → payments_said (session_records x) ≡ x.closed.payments
session_said x =
    paid_append [] (line.head version_1 session_kind ∷ section_records x.exchange) (settlement_records 0 x.going x.closed)
    ∙ settlements_said (paid_from [] (section_records x.exchange)) 0 x.going x.closed

-- the plain journal says the same payments
plain_said : (goods : ℕ) (m : Multipliers) (before : List Payment) (records : List Record) → paid_from before (plain_records goods m records) ≡ paid_from before records
plain_said goods m before [] = refl
plain_said goods m before (line.near changes ∷ rest) = plain_said goods (after_changes m changes) before rest
plain_said goods m before (line.step s ∷ rest) = plain_said goods m before rest
plain_said goods m before (r ∷ rest) = plain_said goods (all_zero goods) (paid_after before r) rest

journal_said : (journal : List Record) → payments_said (plain journal) ≡ payments_said journal
journal_said [] = refl
journal_said (line.head version_2 kind ∷ rest) = plain_said (goods_in rest) (all_zero (goods_in rest)) [] rest
journal_said (line.head version_1 kind ∷ rest) = refl
journal_said (r ∷ rest) = refl

pub done_is_last : DoneIsLast
done_is_last journal s records l place kind =
    let (x, is) = done_is_session journal s records l place kind in
    let said : payments_of x.closed ≡ amounts (payments_said journal) = ap amounts (sym (session_said x) ∙ ap payments_said (sym is.says) ∙ journal_said journal) in (
      x,
      is.says,
      is.right,
      is.exchange,
      is.cut,
      ap (λ (ex : Exchange). paid_of ex (final_bounds x) x.closed.settlement.final.sets (payments_of x.closed)) is.exchange
          ∙ ap (λ (bounds : List Bounds). paid_of (exchange_at s) bounds x.closed.settlement.final.sets (payments_of x.closed)) is.bounds
          ∙ ap (λ (sets : Assignment). paid_of (exchange_at s) s.bounds sets (payments_of x.closed)) is.final
          ∙ ap (λ (payments : List Fraction). paid_of (exchange_at s) s.bounds s.final.sets payments) said,
    )

-- ---- payments are lawful

abbrev AreLawful : List Payment → Type 0
AreLawful payments = AllByRecursion (λ p. IsFractionField p.payment) payments

said_on : (before : List Payment) (r : Record) → IsRecord r → AreLawful before → AreLawful (paid_after before r)
said_on before (line.threshold cut surplus) ranges are = tt
said_on before (line.payment name vickrey discount payment) ranges are =
    all_push (λ (p : Payment). IsFractionField p.payment) before (record { name = name; vickrey = vickrey; discount = discount; payment = payment }) are ranges.3
said_on before other ranges are = are

said_lawful : (before : List Payment) (records : List Record) → AllByRecursion IsRecord records → AreLawful before → AreLawful (paid_from before records)
said_lawful before [] all are = are
said_lawful before (r ∷ rest) (one, all) are = said_lawful (paid_after before r) rest all (said_on before r one are)

-- ---- denominators

-- a fraction in lowest terms has a denominator that divides that of each equal one
lowest-divides : (f h : Fraction) → IsFractionField f → Equals f h → f.den ∣ h.den
lowest-divides f h is equal =
    let n : ℕ = unsigned_abs f.num in
    let sizes : n * h.den ≡ unsigned_abs h.num * f.den = sym (unsigned_abs-mul f.num (pos h.den)) ∙ ap unsigned_abs equal ∙ unsigned_abs-mul h.num (pos f.den) in
    dvd_from_coprime f.den n h.den (gcd_comm f.den n ∙ gcd_is n f.den 1 is.lowest) (subst (λ k. f.den ∣ k) (sym sizes) (dvd-mul_left f.den (unsigned_abs h.num)))

chosen-divides : (b : Bool) (x y : Fraction) (d : ℕ) → x.den ∣ d → y.den ∣ d → (if b then x else y).den ∣ d
chosen-divides true x y d first second = first
chosen-divides false x y d first second = second

cut-divides : (cut f : Fraction) (worth vickrey : ℤ) → IsFractionField f → Equals f (minus (whole_number worth) (discount_at_cut cut vickrey)) → f.den ∣ cut.den
cut-divides cut f worth vickrey is equal =
    let g : Fraction = discount_at_cut cut vickrey in
    let all : f.den ∣ 1 * g.den = lowest-divides f (minus (whole_number worth) g) is equal in
    let own : f.den ∣ g.den = subst (λ k. f.den ∣ k) (one-mul g.den) all in
    let last : g.den ∣ cut.den =
    chosen-divides (int_lt (minus (whole_number vickrey) cut).num (pos 0)) (whole_number (pos 0)) (minus (whole_number vickrey) cut) cut.den (one-dvd cut.den) (subst (λ k. 1 * cut.den ∣ k) (one-mul cut.den) (dvd_refl (1 * cut.den))) in
    dvd_trans f.den own last

-- ---- a right session's end

closed_of : (ex : Exchange) (n : ℕ) (bounds : List Bounds) (going : List Going) (c : Closed) → IsRightFrom ex n bounds going c → IsClosed ex (bounds_after_rounds ex bounds going) c
closed_of ex n bounds [] c (ends, is) = is
closed_of ex n bounds (g ∷ later) c (on, going, rest) = closed_of ex (suc n) (bounds_after_round ex bounds g) later c rest

pub last_is_paid : LastIsPaid
last_is_paid journal s records l place kind =
    let (x, is) = done_is_session journal s records l place kind in
    let (y, says, right, exchange, cut, same) = done_is_last journal s records l place kind in
    let payments : List Payment = payments_said journal in
    let lawful : AllByRecursion IsFractionField (amounts payments) = all-map IsFractionField (λ (p : Payment). p.payment) payments (said_lawful [] journal records tt) in
    let closed = closed_of x.exchange 0 (opening_bounds x.exchange) x.going x.closed is.right.settlements in
    let said : payments_of x.closed ≡ amounts payments = ap amounts (sym (session_said x) ∙ ap payments_said (sym is.says) ∙ journal_said journal) in
    let trees : trees_of x.exchange ≡ trees_of (exchange_at s) = ap trees_of is.exchange in
    let count : length (amounts payments) ≡ length (trees_of (exchange_at s)) =
    sym (ap length said) ∙ length-map x.closed.payments (λ (p : Payment). p.payment) ∙ sym (length-map x.closed.payments (λ (p : Payment). p.name)) ∙ ap length closed.names
    ∙ length-map x.exchange.bidders (λ (b : Bidder). b.name) ∙ sym (length-map x.exchange.bidders (λ (b : Bidder). b.tree)) ∙ ap length trees in (
      record {
        satisfied =
            subst (λ (sets : Assignment). AreSatisfied (trees_of (exchange_at s)) sets) is.final
            (subst (λ (ts : List Tree). AreSatisfied ts x.closed.settlement.final.sets) trees closed.settled.final.feasible.satisfied);
        payments_count = count;
        fractions = all-each IsFractionField IsFraction (amounts payments) (λ f h. omega (arith, h.den.0)) lawful;
      },
      record {
        positive = subst (λ (c : Fraction). 0 < c.den) is.cut closed.cut.payable.proper;
        divides = λ b h.
            let there : b < length (payments_of x.closed) = omega (arith, h, count, ap length said) in
            let (worth, vickrey, equal) = is.paid b there in
            let own : IsFractionField (fraction_at (amounts payments) b) = all-at IsFractionField (amounts payments) b (whole_number (pos 0)) lawful (omega (arith, h, count)) in
            let here : fraction_at (payments_of x.closed) b ≡ fraction_at (amounts payments) b = ap (λ (fs : List Fraction). fraction_at fs b) said in
            subst (λ (c : Fraction). (fraction_at (amounts payments) b).den ∣ c.den) is.cut
            (cut-divides x.closed.cut (fraction_at (amounts payments) b) worth vickrey own (subst (λ (f : Fraction). Equals f (minus (whole_number worth) (discount_at_cut x.closed.cut vickrey))) here equal));
      },
      lawful,
      sym (ap (λ (sets : Assignment). length sets) is.final) ∙ closed.settled.final.feasible.same_length ∙ ap length trees,
    )
