-- From the audit's answer on a file to what `audit` answers.
use Rattle.std.proofs.Common.{◌≡◌, ℕ, List}
use Rattle.ice_edge.specs.Told.{Told}
use Rattle.ice_audit.specs.declared.answer.AuditAnswer.{AuditAnswer}
use Rattle.ice_audit.specs.declared.answer.AuditAnswer.TheVariants.{Yes, No}
use Rattle.ice_commands.specs.AuditParts.{IsAnswerTo, answer_text, answer_status}
use Rattle.ice_commands.specs.AuditServed.{AuditAnswers}
use Rattle.ice_command_parts.specs.Call.{journal_limit}
use Rattle.ice_command_parts.specs.Parts.{AreFetched, Answers}
use Rattle.ice_command_parts.proofs.Parts.{told_in_call}

pub answer_answers : (before after : Told) (file : List ℕ) (answer : AuditAnswer) → (bytes : List ℕ) × IsAnswerTo bytes answer × AreFetched before file journal_limit bytes
    → Answers (λ call. AuditAnswers call file) before after (answer_text answer) (answer_status answer)
answer_answers before after file (Yes payment) (bytes, is, told) call part text =
    (payment, (bytes, is, told_in_call call before after file journal_limit (λ other. other ≡ bytes) part told), text)
answer_answers before after file (No line rule) (bytes, is, told) call part text =
    (record { line = line; rule = rule }, (bytes, is, told_in_call call before after file journal_limit (λ other. other ≡ bytes) part told), text)
