-- What a line makes of an audit.
use Rattle.std.specs.Prelude.{ℕ, ◌<◌, ◌≡◌, List, ℤ, Option, Some, None, Result, Ok, Err}
use Rattle.ice_defs.specs.Fraction.{Fraction}
use Rattle.ice_journal.specs.Records.{Record}
use Rattle.ice_journal.specs.Records as line
use Rattle.ice_journal_laws.specs.declared.rule.Rule.{Rule}
use Rattle.ice_journal_laws.specs.Tests.{place_of}
use Rattle.ice_statement_laws.specs.Statement.{StatementLine}
use Rattle.ice_statement_laws.specs.Audit.{AuditState, AuditFails, HasOwnVerdict, audit_next}
use Rattle.ice_statement_laws.specs.Texts.{payment_or, payment_in_line}
use Rattle.ice_audit.specs.declared.settlements.Settlements.{Settlements}
use Rattle.ice_audit.specs.Standing.{IsKept, Stands, paid_of}

-- the line passes every test, and leads to this state
pub record Passes (s : AuditState) (l : StatementLine) (after : AuditState) : Type 0 where
  pub none : (x : Rule) → ¬ AuditFails x s l
  pub verdict : HasOwnVerdict s.spot s l
  pub next : audit_next s l ≡ Some after

-- it fails this test first
pub record FailsFirst (s : AuditState) (l : StatementLine) (rule : Rule) : Type 0 where
  pub fails : AuditFails rule s l
  pub first : (y : Rule) → place_of y < place_of rule → ¬ AuditFails y s l

-- the payment that came, behind one more line
abbrev pub paid_after : Option Fraction → StatementLine → Option Fraction
paid_after (Some payment) l = Some payment
paid_after None l = payment_or (payment_in_line l) None

-- ---- behind the section

abbrev pub submit_line : List ℕ → List ℤ → List ℤ → Record
submit_line name lo hi = line.submit (record { name = name; lo = lo; hi = hi })

-- the line passes, and what is kept then stands for the state behind it
pub record Goes (s : AuditState) (l : StatementLine) (after : Settlements) : Type 0 where
  pub state : AuditState
  pub passes : Passes s l state
  pub stands : Stands after state

pub record GoesOn (x : Settlements) (l : StatementLine) (after : Settlements) : Type 0 where
  pub kept : IsKept after
  pub paid : paid_of after.next ≡ paid_after (paid_of x.next) l
  pub goes : (s : AuditState) → Stands x s → Goes s l after

abbrev pub Takes : {X : Type 0} → Settlements → StatementLine → Result X Rule → Settlements → Type 0
Takes x l (Ok unit) after = GoesOn x l after
Takes x l (Err rule) after = (s : AuditState) → Stands x s → FailsFirst s l rule
