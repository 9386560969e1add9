-- What is found of the bytes of a session journal.
use Rattle.std.proofs.Common.{◌≡◌, ◌≢◌, ◌∙◌, refl, ap, sym, subst, ℕ, Bool, true, false, List, [], ◌∷◌}
use Rattle.std.specs.Prelude.{Option, Some, None}
use Rattle.std.proofs.lemmas.Bool.{false≢true}
use Rattle.ice_journal.specs.declared.line.Line.{Line}
use Rattle.ice_journal.specs.Records.{Record, version_1, version_2, session_kind}
use Rattle.ice_journal.specs.Records as line
use Rattle.ice_journal.specs.Lines.{record_of}
use Rattle.ice_journal.specs.Journal.{IsJournal}
use Rattle.ice_journal_laws.specs.declared.answer.Answer.{Answer}
use Rattle.ice_journal_laws.specs.declared.answer.Answer.TheVariants.{Assign, Regret, Closed, No}
use Rattle.ice_journal_laws.specs.Checks.{IsChecked, Checks}
use Rattle.ice_journal_laws.specs.Answers.{AnswersJournal}
use Rattle.ice_journal_laws.specs.Theorems.{HasKind}
use Rattle.ice_journal_laws.proofs.SessionRight.{checked_is_right}
use Rattle.ice_reading.specs.Records.{Starts}
use Rattle.ice_statement.specs.Judging.{is_session, end_at, answer_or, has_bidder, HasStatement, HasNoBidder}
use Rattle.ice_statement.proofs.Named.{has_own, has_none}

-- ---- the first record

pub session_first : (journal : List Record) (line : Line) (after : List ℕ) (is : Bool) → Starts journal (Some line) after → ((rest : List Record) → is_session (record_of line ∷ rest) ≡ is) → is_session journal ≡ is
session_first [] line after is starts tells = absurd starts
session_first (r ∷ rest) line after is starts tells = subst (λ (x : Record). is_session (x ∷ rest) ≡ is) starts.0 (tells rest)

pub none_first : (journal : List Record) (after : List ℕ) → Starts journal None after → is_session journal ≡ false
none_first [] after starts = refl
none_first (r ∷ rest) after starts = absurd starts

-- ---- the search for the bidder

-- the records that are still to come tell it
pub record Searches (name rest : List ℕ) (journal : List Record) : Type 0 where
  pub left : List Record
  pub is : IsJournal rest left
  pub same : has_bidder name left ≡ has_bidder name journal

pub search_begins : (name bytes : List ℕ) (journal : List Record) → IsJournal bytes journal → Searches name bytes journal
search_begins name bytes journal is = record { left = journal; is = is; same = refl }

module _ (name rest after : List ℕ) (journal : List Record) where
  -- one more record, which is the first that is still to come
  pub search_goes_on : (line : Line) → ((left : List Record) → IsJournal rest left → Starts left (Some line) after) → end_at name (record_of line) ≡ None → Searches name rest journal → Searches name after journal
  search_goes_on line starts passed s = by s.left (starts s.left s.is) s.same
    where
      by : (left : List Record) → Starts left (Some line) after → has_bidder name left ≡ has_bidder name journal → Searches name after journal
      by [] h same = absurd h
      by (r ∷ more) h same = record { left = more; is = h.1; same = sym (ap (λ (o : Option Bool). answer_or o (has_bidder name more)) (ap (end_at name) (sym h.0) ∙ passed)) ∙ same }

  pub search_ends : (line : Line) (found : Bool) → ((left : List Record) → IsJournal rest left → Starts left (Some line) after) → end_at name (record_of line) ≡ Some found → Searches name rest journal → has_bidder name journal ≡ found
  search_ends line found starts at s = by s.left (starts s.left s.is) s.same
    where
      by : (left : List Record) → Starts left (Some line) after → has_bidder name left ≡ has_bidder name journal → has_bidder name journal ≡ found
      by [] h same = absurd h
      by (r ∷ more) h same = sym same ∙ ap (λ (o : Option Bool). answer_or o (has_bidder name more)) (ap (end_at name) (sym h.0) ∙ at)

  pub search_is_over : ((left : List Record) → IsJournal rest left → Starts left None after) → Searches name rest journal → has_bidder name journal ≡ false
  search_is_over starts s = by s.left (starts s.left s.is) s.same
    where
      by : (left : List Record) → Starts left None after → has_bidder name left ≡ has_bidder name journal → has_bidder name journal ≡ false
      by [] h same = sym same
      by (r ∷ more) h same = absurd h

-- ---- the answer

has_kind : (journal : List Record) → is_session journal ≡ true → HasKind session_kind journal
has_kind (line.head version session_kind ∷ rest) e = refl
has_kind other e = absurd (false≢true e)

pub yes_checks : (journal : List Record) (answer : Answer) → ((place : ℕ) (test : _) → answer ≢ No place test) → AnswersJournal journal answer → Checks journal
yes_checks journal (Assign value) other is = is.0
yes_checks journal (Regret amount) other is = is.0
yes_checks journal (Closed regret surplus) other is = is.0
yes_checks journal (No place test) other is = absurd (other place test refl)

pub has_statement : (bytes name : List ℕ) (journal : List Record) → IsJournal bytes journal → is_session journal ≡ true → Checks journal → has_bidder name journal ≡ true → HasStatement name journal
has_statement bytes name journal is session checks found =
    let (x, says, right) = checked_is_right journal (has_kind journal session) is.lawful checks in
    let (own, own_is) = has_own journal name x says right found in
    record { checks = checks; own = own; is = own_is }

pub has_no_bidder : (name : List ℕ) (journal : List Record) → is_session journal ≡ true → Checks journal → has_bidder name journal ≡ false → HasNoBidder name journal
has_no_bidder name journal session checks none = record { session = session; checks = checks; none = λ own. has_none journal name own none }

-- ---- no answer

pub unchecked : (journal : List Record) → ¬ IsChecked journal → is_session journal ≡ false
unchecked (line.head version_1 session_kind ∷ rest) none = absurd (none refl)
unchecked (line.head version_2 session_kind ∷ rest) none = absurd (none refl)
unchecked other none = refl
