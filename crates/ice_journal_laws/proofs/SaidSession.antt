-- The regret and the surplus that a session says are functions of its records.
use Rattle.std.proofs.Common.{◌≡◌, ℕ, suc, List, [], ◌∷◌, ◌++◌, map, ℤ, pos, refl, ◌∙◌, ap}
use Rattle.std.specs.Prelude.{Option, None, option_map, unwrap_or}
use Rattle.ice_defs.specs.Fraction.{Fraction, whole_number}
use Rattle.ice_defs.specs.Session.{Proved, Settlement, Going, Closed, Session}
use Rattle.ice_journal.specs.Records.{Record, version_1, session_kind, closed_end}
use Rattle.ice_journal.specs.Records as line
use Rattle.ice_section.specs.Described.{section_records}
use Rattle.ice_journal_laws.specs.Fields.{amount_in, Closing, threshold_in}
use Rattle.ice_journal_laws.specs.Written.{proved_records, regret_records, going_records, without_records, payment_record, closed_records, settlement_records, session_records}

module _ {X : Type 0} (f : Record → Option X) where
  -- what the last record says that says something, or this where none does
  abbrev pub told : X → List Record → X
  told a [] = a
  told a (r ∷ rest) = told (unwrap_or (f r) a) rest

  told_append : (a : X) (xs ys : List Record) → told a (xs ++ ys) ≡ told (told a xs) ys
  told_append a [] ys = refl
  told_append a (r ∷ xs) ys = told_append (unwrap_or (f r) a) xs ys

  told_map : {Y : Type 0} (g : Y → Record) → ((y : Y) → f (g y) ≡ None) → (a : X) (ys : List Y) → told a (map g ys) ≡ a
  told_map g none a [] = refl
  told_map g none a (y ∷ ys) = ap (λ (o : Option X). told (unwrap_or o a) (map g ys)) (none y) ∙ told_map g none a ys

-- ---- the regret

abbrev pub regret_said : List Record → ℤ
regret_said records = told amount_in (pos 0) records

group_quiet : (a : ℤ) (b : ℕ) (p : Proved) → told amount_in a (proved_records (line.without b p.value) p) ≡ a
group_quiet a b p =
    told_append amount_in a (line.without b p.value ∷ map line.set p.sets) (map line.step p.log)
    ∙ told_map amount_in line.step (λ x. refl) (told amount_in a (map line.set p.sets)) p.log
    ∙ told_map amount_in line.set (λ x. refl) a p.sets

withouts_quiet : (a : ℤ) (b : ℕ) (ps : List Proved) → told amount_in a (without_records b ps) ≡ a
withouts_quiet a b [] = refl
withouts_quiet a b (p ∷ later) =
    told_append amount_in a (proved_records (line.without b p.value) p) (without_records (suc b) later)
    ∙ withouts_quiet (told amount_in a (proved_records (line.without b p.value) p)) (suc b) later
    ∙ group_quiet a b p

settlement_told : (a : ℤ) (number : ℕ) (s : Settlement) → told amount_in a (line.settle number ∷ regret_records s) ≡ s.regret
settlement_told a number s =
    told_append amount_in a (line.settle number ∷ proved_records (line.final s.final.value) s.final ++ proved_records (line.rival s.rival.value) s.rival) (line.regret s.regret ∷ [])

module _ (number : ℕ) (c : Closed) where
  abbrev settled : List Record
  settled = line.settle number ∷ regret_records c.settlement

  abbrev paid : List Record
  paid = line.threshold c.cut c.surplus ∷ map payment_record c.payments

  closed_regret : (a : ℤ) → told amount_in a (closed_records number c) ≡ c.settlement.regret
  closed_regret a =
      told_append amount_in a (settled ++ without_records 0 c.withouts ++ paid) (line.end closed_end ∷ [])
      ∙ told_append amount_in a (settled ++ without_records 0 c.withouts) paid
      ∙ told_map amount_in payment_record (λ p. refl) (told amount_in a (settled ++ without_records 0 c.withouts)) c.payments
      ∙ told_append amount_in a settled (without_records 0 c.withouts)
      ∙ withouts_quiet (told amount_in a settled) 0 c.withouts
      ∙ settlement_told a number c.settlement

settlements_regret : (number : ℕ) (going : List Going) (c : Closed) (a : ℤ) → told amount_in a (settlement_records number going c) ≡ c.settlement.regret
settlements_regret number [] c a = closed_regret number c a
settlements_regret number (g ∷ later) c a =
    told_append amount_in a (going_records number g) (settlement_records (suc number) later c)
    ∙ settlements_regret (suc number) later c (told amount_in a (going_records number g))

pub regret_of_session : (x : Session) → regret_said (session_records x) ≡ x.closed.settlement.regret
regret_of_session x =
    told_append amount_in (pos 0) (line.head version_1 session_kind ∷ section_records x.exchange) (settlement_records 0 x.going x.closed)
    ∙ settlements_regret 0 x.going x.closed (told amount_in (pos 0) (section_records x.exchange))

-- ---- the surplus

abbrev surplus_in : Record → Option Fraction
surplus_in r = option_map (λ (c : Closing). c.surplus) (threshold_in r)

abbrev pub surplus_said : List Record → Fraction
surplus_said records = told surplus_in (whole_number (pos 0)) records

closed_surplus : (number : ℕ) (c : Closed) (a : Fraction) → told surplus_in a (closed_records number c) ≡ c.surplus
closed_surplus number c a =
    told_append surplus_in a (settled number c ++ without_records 0 c.withouts ++ paid number c) (line.end closed_end ∷ [])
    ∙ told_append surplus_in a (settled number c ++ without_records 0 c.withouts) (paid number c)
    ∙ told_map surplus_in payment_record (λ p. refl) c.surplus c.payments

settlements_surplus : (number : ℕ) (going : List Going) (c : Closed) (a : Fraction) → told surplus_in a (settlement_records number going c) ≡ c.surplus
settlements_surplus number [] c a = closed_surplus number c a
settlements_surplus number (g ∷ later) c a =
    told_append surplus_in a (going_records number g) (settlement_records (suc number) later c)
    ∙ settlements_surplus (suc number) later c (told surplus_in a (going_records number g))

pub surplus_of_session : (x : Session) → surplus_said (session_records x) ≡ x.closed.surplus
surplus_of_session x =
    told_append surplus_in (whole_number (pos 0)) (line.head version_1 session_kind ∷ section_records x.exchange) (settlement_records 0 x.going x.closed)
    ∙ settlements_surplus 0 x.going x.closed (told surplus_in (whole_number (pos 0)) (section_records x.exchange))
