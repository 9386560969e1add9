-- What `check` writes at each status: what the checker says of the bytes.
use Rattle.std.specs.Prelude.{ℕ, ◌≡◌, List, Ok, Err}
use Rattle.ice_edge.specs.declared.status.Status.{Status}
use Rattle.ice_edge.specs.declared.status.Status.TheVariants.{Done, No}
use Rattle.ice_defs.specs.FileFault.{FileFault}
use Rattle.ice_journal_laws.specs.declared.answer.Answer.{Answer}
use Rattle.ice_journal_laws.specs.declared.answer.Answer.TheVariants as answer
use Rattle.ice_journal_laws.specs.declared.answer.CheckEnd.{CheckEnd}
use Rattle.ice_journal_laws.specs.Theorems.{of_assigned, of_regret, of_session}
use Rattle.ice_journal_laws.specs.Answers.{AnswersBytes}
use Rattle.ice_command_parts.specs.Call.{Call, journal_limit, OfFile}
use Rattle.ice_commands.specs.Output.{yes_line, no_line}
use Rattle.ice_commands.specs.Ends.{IsEndFault, RefusesFile}

abbrev pub IsCheckFault : List ℕ → FileFault → Type 0
IsCheckFault bytes fault = (end : CheckEnd) × AnswersBytes bytes (Err end) × IsEndFault end fault

abbrev pub answer_line : Answer → List ℕ
answer_line (answer.Assign value) = yes_line (of_assigned value)
answer_line (answer.Regret amount) = yes_line (of_regret amount)
answer_line (answer.Closed regret surplus) = yes_line (of_session regret surplus)
answer_line (answer.No line rule) = no_line (record { line = line; rule = rule })

abbrev pub answer_status : Answer → Status
answer_status (answer.Assign value) = Done
answer_status (answer.Regret amount) = Done
answer_status (answer.Closed regret surplus) = Done
answer_status (answer.No line rule) = No

-- the checker has this answer to the bytes of the file, which are those that are told
abbrev pub HasAnswer : Call → List ℕ → Answer → Type 0
HasAnswer call file answer = (bytes : List ℕ) × AnswersBytes bytes (Ok answer) × OfFile call file journal_limit (λ told. told ≡ bytes)

-- the checker's answer is written, and it is one of this status
abbrev pub WritesAnswer : Call → List ℕ → Status → Type 0
WritesAnswer call file status = (answer : Answer) × HasAnswer call file answer × (answer_status answer ≡ status)
    × (call.text ≡ answer_line answer)

abbrev pub CheckAnswers : Call → List ℕ → Status → Type 0
CheckAnswers call file Done = WritesAnswer call file Done
CheckAnswers call file No = WritesAnswer call file No
CheckAnswers call file other = RefusesFile call file IsCheckFault other
