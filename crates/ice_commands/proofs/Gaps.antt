-- From the gap that a file states to what `gap` answers.
use Rattle.std.proofs.Common.{◌≡◌, refl, ℕ, List, Ok}
use Rattle.ice_gap_laws.specs.declared.answer.GapAnswer.{GapAnswer}
use Rattle.ice_gap_laws.specs.declared.answer.GapAnswer.TheVariants.{Gap, No, NoGap}
use Rattle.ice_gap_laws.specs.Answers.{AnswersGap}
use Rattle.ice_edge.specs.Told.{Told}
use Rattle.ice_command_parts.specs.Call.{journal_limit}
use Rattle.ice_commands.specs.GapServed.{GapAnswers, gap_line, gap_status}
use Rattle.ice_command_parts.specs.Parts.{AreFetched, Answers}
use Rattle.ice_command_parts.proofs.Parts.{told_in_call}

pub gap_answers : (before after : Told) (file : List ℕ) (answer : GapAnswer) → (bytes : List ℕ) × AnswersGap bytes (Ok answer) × AreFetched before file journal_limit bytes
    → Answers (λ call. GapAnswers call file) before after (gap_line answer) (gap_status answer)
gap_answers before after file (Gap group value bound) (bytes, is, told) call part text =
    (Gap group value bound, (bytes, is, told_in_call call before after file journal_limit (λ other. other ≡ bytes) part told), refl, text)
gap_answers before after file (No line rule) (bytes, is, told) call part text =
    (No line rule, (bytes, is, told_in_call call before after file journal_limit (λ other. other ≡ bytes) part told), refl, text)
gap_answers before after file (NoGap line) (bytes, is, told) call part text =
    (NoGap line, (bytes, is, told_in_call call before after file journal_limit (λ other. other ≡ bytes) part told), refl, text)
