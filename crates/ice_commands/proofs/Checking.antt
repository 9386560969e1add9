-- From the checker's answer on a file to what `check` answers.
use Rattle.std.proofs.Common.{◌≡◌, refl, ℕ, List, Ok}
use Rattle.ice_journal_laws.specs.declared.answer.Answer.{Answer}
use Rattle.ice_journal_laws.specs.declared.answer.Answer.TheVariants.{Assign, Regret, Closed, No}
use Rattle.ice_journal_laws.specs.Answers.{AnswersBytes}
use Rattle.ice_edge.specs.Told.{Told}
use Rattle.ice_command_parts.specs.Call.{journal_limit}
use Rattle.ice_commands.specs.CheckServed.{CheckAnswers, answer_line, answer_status}
use Rattle.ice_command_parts.specs.Parts.{AreFetched, Answers}
use Rattle.ice_command_parts.proofs.Parts.{told_in_call}

pub answer_answers : (before after : Told) (file : List ℕ) (answer : Answer) → (bytes : List ℕ) × AnswersBytes bytes (Ok answer) × AreFetched before file journal_limit bytes
    → Answers (λ call. CheckAnswers call file) before after (answer_line answer) (answer_status answer)
answer_answers before after file (Assign value) (bytes, is, told) call part text =
    (Assign value, (bytes, is, told_in_call call before after file journal_limit (λ other. other ≡ bytes) part told), refl, text)
answer_answers before after file (Regret amount) (bytes, is, told) call part text =
    (Regret amount, (bytes, is, told_in_call call before after file journal_limit (λ other. other ≡ bytes) part told), refl, text)
answer_answers before after file (Closed regret surplus) (bytes, is, told) call part text =
    (Closed regret surplus, (bytes, is, told_in_call call before after file journal_limit (λ other. other ≡ bytes) part told), refl, text)
answer_answers before after file (No line rule) (bytes, is, told) call part text =
    (No line rule, (bytes, is, told_in_call call before after file journal_limit (λ other. other ≡ bytes) part told), refl, text)
