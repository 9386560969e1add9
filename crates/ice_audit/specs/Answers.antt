-- The code's answers in the words of the definitions.
use Rattle.std.specs.Prelude.{ℕ, List, Result, Ok, Err}
use Rattle.ice_journal.specs.Journal.{grammar, unended}
use Rattle.ice_journal_laws.specs.declared.answer.CheckEnd.{CheckEnd}
use Rattle.ice_journal_laws.specs.declared.answer.CheckEnd.TheVariants.{Grammar, Unended, OtherKind, NoMemory}
use Rattle.ice_statement_laws.specs.Texts.{yes, no, at_fault, out_of_memory, AuditsBytes}
use Rattle.ice_audit.specs.declared.answer.AuditAnswer.{AuditAnswer}
use Rattle.ice_audit.specs.declared.answer.AuditAnswer.TheVariants.{Yes, No}

-- no statement is of another kind
abbrev pub AnswersAudit : List ℕ → Result AuditAnswer CheckEnd → Type 0
AnswersAudit bytes (Ok (Yes payment)) = AuditsBytes bytes (yes payment)
AnswersAudit bytes (Ok (No place test)) = AuditsBytes bytes (no (record { line = place; rule = test }))
AnswersAudit bytes (Err (Grammar place)) = AuditsBytes bytes (at_fault (grammar place))
AnswersAudit bytes (Err (Unended place)) = AuditsBytes bytes (at_fault (unended place))
AnswersAudit bytes (Err OtherKind) = ⊥
AnswersAudit bytes (Err NoMemory) = AuditsBytes bytes out_of_memory
