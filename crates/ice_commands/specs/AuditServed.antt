-- What `audit` writes at each status: whether a statement passes its tests, or why none is tested.
use Rattle.std.specs.Prelude.{ℕ, ◌≡◌, List, [], ◌∷◌, codes, Err}
use Rattle.ice_edge.specs.declared.status.Status.{Status}
use Rattle.ice_edge.specs.declared.status.Status.TheVariants.{Done, No}
use Rattle.ice_defs.specs.FileFault.{FileFault}
use Rattle.ice_defs.specs.Fraction.{Fraction}
use Rattle.ice_journal.specs.Spelling.{fraction_text}
use Rattle.ice_journal_laws.specs.declared.answer.CheckEnd.{CheckEnd}
use Rattle.ice_journal_laws.specs.Checks.{Failure}
use Rattle.ice_statement_laws.specs.Texts.{AuditAnswer, yes, no, AuditsBytes}
use Rattle.ice_audit.specs.Answers.{AnswersAudit}
use Rattle.ice_command_parts.specs.Call.{Call, journal_limit, OfFile}
use Rattle.ice_command_parts.specs.Lines.{line_text}
use Rattle.ice_commands.specs.Output.{no_line}
use Rattle.ice_commands.specs.Ends.{IsEndFault, RefusesFile}

-- a yes, with the bidder's payment
abbrev pub paid_line : Fraction → List ℕ
paid_line payment = line_text (codes "yes" ∷ fraction_text payment ∷ [])

abbrev pub IsAuditFault : List ℕ → FileFault → Type 0
IsAuditFault bytes fault = (end : CheckEnd) × AnswersAudit bytes (Err end) × IsEndFault end fault

-- this is the audit's answer to the bytes of the file, which are those that are told
abbrev pub HasAudit : Call → List ℕ → AuditAnswer → Type 0
HasAudit call file answer = (bytes : List ℕ) × AuditsBytes bytes answer × OfFile call file journal_limit (λ told. told ≡ bytes)

abbrev pub AuditAnswers : Call → List ℕ → Status → Type 0
AuditAnswers call file Done = (payment : Fraction) × HasAudit call file (yes payment) × (call.text ≡ paid_line payment)
AuditAnswers call file No = (failure : Failure) × HasAudit call file (no failure) × (call.text ≡ no_line failure)
AuditAnswers call file other = RefusesFile call file IsAuditFault other
