-- What a line makes of an audit from the name on, and what is known of the lines so far.
use Rattle.std.specs.Prelude.{ℕ, suc, ◌≡◌, ◌==◌, Bool, true, false, List, [], ◌∷◌, ◌++◌, length, Option, Some, None, Result, Ok, Err}
use Rattle.std.specs.Str.{bytes_eq}
use Rattle.ice_defs.specs.Fraction.{Fraction}
use Rattle.ice_trade.specs.Fault.{make_fault_number}
use Rattle.ice_journal.specs.Records.{Record}
use Rattle.ice_journal.specs.Records as line
use Rattle.ice_section.specs.Section.{no_section}
use Rattle.ice_section.specs.declared.faults.SectionFault.{SectionFault}
use Rattle.ice_section.specs.declared.faults.SectionFault.TheVariants as fault
use Rattle.ice_journal_laws.specs.declared.rule.Rule.TheVariants as rule
use Rattle.ice_journal_laws.specs.Checks.{Failure}
use Rattle.ice_statement_laws.specs.Statement.{StatementLine}
use Rattle.ice_statement_laws.specs.Audit.{AuditState, at_name, at_section, Audited, IsAudit}
use Rattle.ice_statement_laws.specs.Sections.{IsOwnSection}
use Rattle.ice_statement_laws.specs.Texts.{paid_in}
use Rattle.ice_audit.specs.declared.answer.AuditAnswer.{AuditAnswer}
use Rattle.ice_audit.specs.declared.answer.AuditAnswer.TheVariants.{Yes, No}
use Rattle.ice_audit.specs.declared.auditor.OwnSection.{OwnSection}
use Rattle.ice_audit.specs.declared.auditor.Auditor.{Auditor}
use Rattle.ice_audit.specs.declared.auditor.Auditor.TheVariants as so_far
use Rattle.ice_audit.specs.declared.auditor.Stop.{Stop}
use Rattle.ice_audit.specs.declared.auditor.Stop.TheVariants.{Fails, NoMemory}
use Rattle.ice_audit.specs.declared.settlements.Settlements.{Settlements}
use Rattle.ice_audit.specs.declared.standing.Standing.{Standing}
use Rattle.ice_audit.specs.declared.standing.Standing.TheVariants.{Going, Failed}
use Rattle.ice_audit.specs.Standing.{IsKept, Stands, paid_of, payment_at_end}
use Rattle.ice_audit.specs.Taking.{Passes, FailsFirst, paid_after}

-- a bidder's record has the name
abbrev pub is_named_by : List ℕ → Record → Bool
is_named_by name (line.bidder other own) = bytes_eq name other
is_named_by name other = true

abbrev pub is_first_settlement : Record → Bool
is_first_settlement (line.settle number) = number == 0
is_first_settlement other = false

-- ---- what a section refuses

abbrev pub stop_of_number : Option ℕ → Stop
stop_of_number None = NoMemory
stop_of_number (Some number) = Fails rule.Exchange

abbrev pub section_stop : SectionFault → Stop
section_stop fault.Order = Fails rule.Order
section_stop fault.Count = Fails rule.Exchange
section_stop fault.NoGood = Fails rule.Exchange
section_stop (fault.Tree refusal) = Fails rule.Exchange
section_stop (fault.Make refusal) = stop_of_number (make_fault_number refusal)
section_stop fault.NoMemory = NoMemory

-- ---- the states that an audit stands for

pub record InSection (x : OwnSection) (s : AuditState) : Type 0 where
  pub spot : s.spot ≡ at_section
  pub name : s.name ≡ x.name
  pub section : s.section ≡ x.section

-- whether the settlements have begun
abbrev pub is_opened : Auditor → Bool
is_opened (so_far.Settlements x) = true
is_opened other = false

abbrev pub IsKeptBy : Auditor → Type 0
IsKeptBy so_far.Name = Unit {0}
IsKeptBy (so_far.Section x) = IsOwnSection x.name x.section
IsKeptBy (so_far.Settlements x) = IsKept x

abbrev pub StandsFor : Auditor → AuditState → Type 0
StandsFor so_far.Name s = (s.spot ≡ at_name) × (s.section ≡ no_section)
StandsFor (so_far.Section x) s = InSection x s
StandsFor (so_far.Settlements x) s = Stands x s

-- the payment that came
abbrev pub paid_by : Auditor → Option Fraction
paid_by (so_far.Settlements x) = paid_of x.next
paid_by other = None

-- the payment, where no line is wanted any more
abbrev pub end_of : Auditor → Option Fraction
end_of (so_far.Settlements x) = payment_at_end x.next
end_of other = None

-- ---- one more line

pub record GoesTo (s : AuditState) (l : StatementLine) (after : Auditor) : Type 0 where
  pub state : AuditState
  pub passes : Passes s l state
  pub stands : StandsFor after state

pub record GoesFurther (a : Auditor) (l : StatementLine) (after : Auditor) : Type 0 where
  pub kept : IsKeptBy after
  pub paid : paid_by after ≡ paid_after (paid_by a) l
  pub goes : (s : AuditState) → StandsFor a s → GoesTo s l after

-- want of memory is free
abbrev pub StopsAt : Auditor → StatementLine → Stop → Type 0
StopsAt a l (Fails rule) = (s : AuditState) → StandsFor a s → FailsFirst s l rule
StopsAt a l NoMemory = Unit {0}

abbrev pub TakesFurther : {X : Type 0} → Auditor → StatementLine → Result X Stop → Auditor → Type 0
TakesFurther a l (Ok done) after = GoesFurther a l after
TakesFurther a l (Err stop) after = StopsAt a l stop

-- the name
abbrev pub Begins : StatementLine → Result OwnSection Stop → Type 0
Begins l (Ok own) = GoesFurther so_far.Name l (so_far.Section own)
Begins l (Err stop) = StopsAt so_far.Name l stop

-- the first settlement
abbrev pub EndsSection : OwnSection → StatementLine → Result Settlements Stop → Type 0
EndsSection own l (Ok x) = GoesFurther (so_far.Section own) l (so_far.Settlements x)
EndsSection own l (Err stop) = StopsAt (so_far.Section own) l stop

-- a record of the section, or the first settlement
abbrev pub TakesOwn : OwnSection → StatementLine → Result (Option Settlements) Stop → OwnSection → Type 0
TakesOwn own l (Ok None) after = GoesFurther (so_far.Section own) l (so_far.Section after)
TakesOwn own l (Ok (Some x)) after = GoesFurther (so_far.Section own) l (so_far.Settlements x)
TakesOwn own l (Err stop) after = StopsAt (so_far.Section own) l stop

-- ---- the lines so far

-- they pass, and the audit of all lines is that of those which come, from this state on
pub record HasPassed (before : List StatementLine) (a : Auditor) : Type 0 where
  pub state : AuditState
  pub stands : StandsFor a state
  pub line : state.line ≡ suc (length before)
  pub leads : (rest : List StatementLine) (end : Option Failure) → Audited state rest end → IsAudit (before ++ rest) end
  pub paid : paid_in before ≡ paid_by a

abbrev pub Follows : Standing → List StatementLine → Type 0
Follows (Going a) before = HasPassed before a
Follows (Failed place test) before = (rest : List StatementLine) → IsAudit (before ++ rest) (Some (record { line = place; rule = test }))

abbrev pub IsKeptAt : Standing → Type 0
IsKeptAt (Going a) = IsKeptBy a
IsKeptAt (Failed place test) = Unit {0}

-- one more line, which has this number
pub record GoesBehind (number : ℕ) (old : Standing) (l : StatementLine) (new : Standing) : Type 0 where
  pub kept : IsKeptAt new
  pub follows : (before : List StatementLine) → number ≡ suc (length before) → Follows old before → Follows new (before ++ l ∷ [])

-- the answer to whole lines
abbrev pub AnswersLines : List StatementLine → AuditAnswer → Type 0
AnswersLines lines (Yes payment) = IsAudit lines None × (paid_in lines ≡ Some payment)
AnswersLines lines (No place test) = IsAudit lines (Some (record { line = place; rule = test }))
