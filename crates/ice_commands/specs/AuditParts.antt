-- The answers of the audit's code.
use Rattle.std.specs.Prelude.{ℕ, List, Ok}
use Rattle.ice_edge.specs.declared.status.Status.{Status}
use Rattle.ice_edge.specs.declared.status.Status.TheVariants as status
use Rattle.ice_audit.specs.declared.answer.AuditAnswer.{AuditAnswer}
use Rattle.ice_audit.specs.declared.answer.AuditAnswer.TheVariants as answer
use Rattle.ice_audit.specs.Answers.{AnswersAudit}
use Rattle.ice_commands.specs.AuditServed.{paid_line}
use Rattle.ice_commands.specs.Output.{no_line}

abbrev pub IsAnswerTo : List ℕ → AuditAnswer → Type 0
IsAnswerTo bytes found = AnswersAudit bytes (Ok found)

abbrev pub answer_text : AuditAnswer → List ℕ
answer_text (answer.Yes payment) = paid_line payment
answer_text (answer.No line rule) = no_line (record { line = line; rule = rule })

abbrev pub answer_status : AuditAnswer → Status
answer_status (answer.Yes payment) = status.Done
answer_status (answer.No line rule) = status.No
