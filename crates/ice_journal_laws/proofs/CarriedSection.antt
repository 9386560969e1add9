-- The section of the exchange, written whole, and the record after it.
use Rattle.std.proofs.Common.{◌≡◌, suc, Bool, true, cond, List, [], ◌∷◌, length, ℤ, Result, Ok, Err, refl, sym, ◌∙◌, ap, subst, arith}
use Rattle.std.specs.Prelude.{◌&&◌, Some, None, option_map}
use Rattle.std.proofs.lemmas.Bool.{false≢true, lt-ltb}
use Rattle.std.proofs.lemmas.Option.{none-some}
use Rattle.ice_defs.specs.Exchange.{Exchange}
use Rattle.ice_defs.specs.Lawful.{IsExchange}
use Rattle.ice_defs.specs.declared.Group.TheVariants.{Final}
use Rattle.ice_journal.specs.Records.{Record, Version, Kind, regret_kind, session_kind}
use Rattle.ice_journal.specs.Records as line
use Rattle.ice_section.specs.Section.{Section, SectionFault, no_section, may_end, take_record}
use Rattle.ice_section.specs.Described.{section_records}
use Rattle.ice_section.specs.Taking.{unless_fault, take_records}
use Rattle.ice_section.specs.Laws.{DescribedAreTaken}
use Rattle.ice_journal_laws.specs.declared.rule.Rule.{Rule}
use Rattle.ice_journal_laws.specs.declared.rule.Rule.TheVariants as rule
use Rattle.ice_journal_laws.specs.State.{at_group, at_sets, begun}
use Rattle.ice_journal_laws.specs.Next.{next, to_line, go_to, after_section, past_section}
use Rattle.ice_journal_laws.specs.Tests.{Fails}
use Rattle.ice_journal_laws.specs.Progress.{passes_on}
use Rattle.ice_journal_laws.specs.Assigning.{section_state, section_of, exchange_state}
use Rattle.ice_journal_laws.specs.Carrying.{Carries}
use Rattle.ice_journal_laws.proofs.Places.{section_on}
use Rattle.ice_journal_laws.proofs.Carried.{TakesTo, carries_none, carries_then}

-- records that a section takes
pub taken_carry : (v : Version) (k : Kind) (s t : Section) (records : List Record) → take_records s records ≡ Ok t → Carries (section_state v k 2 s) records (section_state v k 2 t)
taken_carry v k s t [] e = subst (λ (x : Section). Carries (section_state v k 2 s) [] (section_state v k 2 x)) (same e) (carries_none (section_state v k 2 s))
  where
    same : (let o : Result Section SectionFault = Ok s in o) ≡ Ok t → s ≡ t
    same e = cc
taken_carry v k s t (r ∷ rest) e = by (take_record s r) refl e (λ after f. taken_carry v k after t rest f)
  where
    by : (o : Result Section SectionFault) → take_record s r ≡ o → unless_fault o (λ after. take_records after rest) ≡ Ok t
        → ((after : Section) → take_records after rest ≡ Ok t → Carries (section_state v k 2 after) rest (section_state v k 2 t)) → Carries (section_state v k 2 s) (r ∷ rest) (section_state v k 2 t)
    by (Ok after) is f more = carries_then (section_state v k 2 s) (section_state v k 2 after) (section_state v k 2 t) r rest (λ n. section_on v k n s after r is) (more after f)
    by (Err fault) is f more = absurd cc

-- a whole section
pub section_carries : DescribedAreTaken → (v : Version) (k : Kind) (ex : Exchange) → IsExchange ex → Carries (begun v k) (section_records ex) (section_state v k 2 (section_of ex))
section_carries taken v k ex lawful = taken_carry v k no_section (section_of ex) (section_records ex) (taken ex lawful)

-- it may end
pub ended : (ex : Exchange) → IsExchange ex → may_end (section_of ex) ≡ true
ended ex lawful = ap (λ (b : Bool). b && true) (lt-ltb 0 (length ex.bidders) (omega (arith, lawful.bidders_count)))

-- behind it stands the head of the final group
pub final_takes : (v : Version) (ex : Exchange) (value : ℤ) → IsExchange ex
    → TakesTo (section_state v regret_kind 2 (section_of ex)) (line.final value) (go_to (at_sets Final (record { value = value; sets = [] })) (exchange_state v regret_kind 2 ex))
final_takes v ex value lawful n = passes_on (λ z e. absurd (none-some z e)) quiet (record { leaf = tt; violation = tt; list = tt; verdict = tt }) is
  where
    is : next (section_state v regret_kind n (section_of ex)) (line.final value) ≡ Some (to_line (suc n) (go_to (at_sets Final (record { value = value; sets = [] })) (exchange_state v regret_kind n ex)))
    is = ap (λ (b : Bool). option_map (to_line (suc n)) (cond b (after_section (past_section (section_state v regret_kind n (section_of ex))) regret_kind (line.final value)) None)) (ended ex lawful)

    quiet : (z : Rule) → ¬ Fails z (section_state v regret_kind n (section_of ex)) (line.final value)
    quiet rule.Closed h = false≢true h.0
    quiet rule.Order h = none-some _ (sym h ∙ is)
    quiet rule.Exchange h = false≢true h.1
    quiet other h = h

-- or settlement 0
pub first_settle_takes : (v : Version) (ex : Exchange) → IsExchange ex → TakesTo (section_state v session_kind 2 (section_of ex)) (line.settle 0) (go_to (at_group Final) (exchange_state v session_kind 2 ex))
first_settle_takes v ex lawful n = passes_on (λ z e. absurd (none-some z e)) quiet (record { leaf = tt; violation = tt; list = tt; verdict = tt }) is
  where
    is : next (section_state v session_kind n (section_of ex)) (line.settle 0) ≡ Some (to_line (suc n) (go_to (at_group Final) (exchange_state v session_kind n ex)))
    is = ap (λ (b : Bool). option_map (to_line (suc n)) (cond b (after_section (past_section (section_state v session_kind n (section_of ex))) session_kind (line.settle 0)) None)) (ended ex lawful)

    quiet : (z : Rule) → ¬ Fails z (section_state v session_kind n (section_of ex)) (line.settle 0)
    quiet rule.Closed h = false≢true h.0
    quiet rule.Order h = none-some _ (sym h ∙ is)
    quiet rule.Exchange h = false≢true h.1
    quiet other h = h
