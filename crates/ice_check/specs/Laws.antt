-- Laws of what is answered.
use Rattle.std.specs.Prelude.{ℕ, List, ℤ, Ok}
use Rattle.ice_defs.specs.Fraction.{Fraction}
use Rattle.ice_journal.specs.Records.{Record}
use Rattle.ice_journal.specs.Journal.{IsJournal}
use Rattle.ice_journal_laws.specs.declared.answer.Answer.TheVariants.{Closed}
use Rattle.ice_journal_laws.specs.Answers.{AnswersBytes}
use Rattle.ice_journal_laws.specs.Reordering.{Reordered}

-- sessions that differ only in the order of the submissions of different bidders, each with its
-- verdict, have the same yes
abbrev pub OrderOfRoundsKeepsYes : Type 0
OrderOfRoundsKeepsYes = (bytes more : List ℕ) (one other : List Record) (regret : ℤ) (surplus : Fraction)
    → IsJournal bytes one → IsJournal more other → Reordered one other
    → AnswersBytes bytes (Ok (Closed regret surplus)) → AnswersBytes more (Ok (Closed regret surplus))
