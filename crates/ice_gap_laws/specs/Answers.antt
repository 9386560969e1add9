-- What `gap` answers of the bytes of a journal.
use Rattle.std.specs.Prelude.{ℕ, ◌≡◌, List, Result, Ok, Err}
use Rattle.ice_journal.specs.Records.{Record}
use Rattle.ice_journal_laws.specs.declared.answer.CheckEnd.{CheckEnd}
use Rattle.ice_journal_laws.specs.declared.answer.CheckEnd.TheVariants.{OtherKind, NoMemory}
use Rattle.ice_journal_laws.specs.declared.rule.Rule.TheVariants as rule
use Rattle.ice_journal_laws.specs.State.{Place, done, State}
use Rattle.ice_journal_laws.specs.Progress.{nothing, other_kind, passing, failed, out_of_memory}
use Rattle.ice_journal_laws.specs.Answers.{AnswersBytes, OfJournal}
use Rattle.ice_gap_laws.specs.declared.answer.GapAnswer.{GapAnswer}
use Rattle.ice_gap_laws.specs.declared.answer.GapAnswer.TheVariants.{Gap, No, NoGap}
use Rattle.ice_gap_laws.specs.Gap.{GapProgress, checking, in_group, at_close, ended, no_gap, GapLeads}

-- where a whole journal ends no gap is stated; any other ends early
abbrev pub answer_at_end : State → Place → GapAnswer
answer_at_end s done = NoGap s.line
answer_at_end s place = No s.line rule.Short

-- what is answered where the records end
abbrev pub gap_answer : GapProgress → Result GapAnswer CheckEnd
gap_answer (checking nothing) = Err OtherKind
gap_answer (checking other_kind) = Err OtherKind
gap_answer (checking out_of_memory) = Err NoMemory
gap_answer (checking (failed failure)) = Ok (No failure.line failure.rule)
gap_answer (checking (passing s)) = Ok (answer_at_end s s.place)
gap_answer (in_group gap s) = Ok (No s.line rule.Short)
gap_answer (at_close gap line) = Ok (No line rule.Short)
gap_answer (ended gap line) = Ok (Gap gap.group gap.value gap.bound)
gap_answer (no_gap line) = Ok (NoGap line)

-- the records of a journal give this answer
abbrev pub GivesGap : List Record → GapAnswer → Type 0
GivesGap journal answer = (p : GapProgress) × GapLeads (checking nothing) journal p × (gap_answer p ≡ Ok answer)

-- what has no answer, has none as `check` has none
abbrev pub AnswersGap : List ℕ → Result GapAnswer CheckEnd → Type 0
AnswersGap bytes (Ok answer) = OfJournal bytes (λ journal. GivesGap journal answer)
AnswersGap bytes (Err end) = AnswersBytes bytes (Err end)
