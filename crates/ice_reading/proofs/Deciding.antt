-- But for want of memory bytes have one answer, where each journal has one.
use Rattle.std.proofs.Common.{◌≡◌, ◌≢◌, ℕ, List, refl, subst}
use Rattle.std.specs.Prelude.{Ok, Err}
use Rattle.ice_journal.specs.Records.{Record}
use Rattle.ice_journal.specs.Journal.{LinesFault, grammar, unended, IsJournal, IsLinesFault}
use Rattle.ice_journal.proofs.Journals.{one_answer as bytes_tell}
use Rattle.ice_journal_laws.specs.declared.answer.CheckEnd.{CheckEnd}
use Rattle.ice_journal_laws.specs.declared.answer.CheckEnd.TheVariants.{Grammar, Unended, OtherKind, NoMemory}
use Rattle.ice_journal_laws.specs.declared.rule.Rule.{Rule}
use Rattle.ice_journal_laws.specs.Checks.{Failure}
use Rattle.ice_journal_laws.proofs.Answered.{ok_same, ok_err, err_same}
use Rattle.ice_reading.specs.declared.end.JournalEnd.{JournalEnd}
use Rattle.ice_reading.specs.declared.end.JournalEnd.TheVariants.{Unjudged, FailsTest}
use Rattle.ice_reading.specs.Ends.{EndsBytes}

abbrev end_of_lines : LinesFault → CheckEnd
end_of_lines (grammar line) = Grammar line
end_of_lines (unended line) = Unended line

-- the answers of a journal, and how a journal end is said among them
module _ {A : Type 0} (said : JournalEnd → A) (Gives : List Record → A → Type 0) where
  -- bytes answer that a line is at fault, or what their journal answers, or that memory is wanting
  pub data Finds (bytes : List ℕ) : A → Type 0 where
    at_lines : (fault : LinesFault) → IsLinesFault bytes fault → Finds bytes (said (Unjudged (end_of_lines fault)))
    of_journal : (journal : List Record) (answer : A) → IsJournal bytes journal → Gives journal answer → Finds bytes answer
    in_want : Finds bytes (said (Unjudged NoMemory))

  -- a journal end is found
  pub end_found : (IsOther : List Record → Type 0) (Fails : List Record → Failure → Type 0)
      → ((journal : List Record) → IsOther journal → Gives journal (said (Unjudged OtherKind)))
      → ((journal : List Record) (line : ℕ) (rule : Rule) → Fails journal (record { line = line; rule = rule }) → Gives journal (said (FailsTest line rule)))
      → (bytes : List ℕ) (end : JournalEnd) → EndsBytes IsOther Fails bytes end → Finds bytes (said end)
  end_found IsOther Fails other fails bytes (Unjudged (Grammar line)) h = at_lines (grammar line) h
  end_found IsOther Fails other fails bytes (Unjudged (Unended line)) h = at_lines (unended line) h
  end_found IsOther Fails other fails bytes (Unjudged OtherKind) (journal, is, h) = of_journal journal (said (Unjudged OtherKind)) is (other journal h)
  end_found IsOther Fails other fails bytes (Unjudged NoMemory) h = in_want
  end_found IsOther Fails other fails bytes (FailsTest line rule) (journal, is, h) = of_journal journal (said (FailsTest line rule)) is (fails journal line rule h)

  module _ (Same : A → A → Type 0) (as_itself : (end : JournalEnd) → Same (said end) (said end)) (one : (journal : List Record) (a b : A) → Gives journal a → Gives journal b → Same a b) where
    same_fault : (f g : LinesFault) → f ≡ g → Same (said (Unjudged (end_of_lines f))) (said (Unjudged (end_of_lines g)))
    same_fault f g e = subst (λ (x : LinesFault). Same (said (Unjudged (end_of_lines f))) (said (Unjudged (end_of_lines x)))) e (as_itself (Unjudged (end_of_lines f)))

    pub one_found : (bytes : List ℕ) (a b : A) → Finds bytes a → Finds bytes b → a ≢ said (Unjudged NoMemory) → b ≢ said (Unjudged NoMemory) → Same a b
    one_found bytes _ _ (at_lines f h) (at_lines g k) n m = same_fault f g (err_same f g (bytes_tell bytes (Err f) (Err g) h k))
    one_found bytes _ _ (at_lines f h) (of_journal j answer is k) n m = absurd (ok_err j f (bytes_tell bytes (Ok j) (Err f) is h))
    one_found bytes _ _ (of_journal j answer is h) (at_lines f k) n m = absurd (ok_err j f (bytes_tell bytes (Ok j) (Err f) is k))
    one_found bytes _ _ (of_journal j a is h) (of_journal k b is' g) n m =
        one k a b (subst (λ (x : List Record). Gives x a) (ok_same j k (bytes_tell bytes (Ok j) (Ok k) is is')) h) g
    one_found bytes _ _ in_want b n m = absurd (n refl)
    one_found bytes _ _ a in_want n m = absurd (m refl)
