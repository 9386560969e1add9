-- The first line of the bytes of a journal is the text of its first record.
use Rattle.std.proofs.Common.{◌≡◌, ℕ, List, [], ◌∷◌, ◌++◌, Contains, length, take, ◌+◌, sym, ap, ◌∙◌, append_assoc}
use Rattle.std.specs.Prelude.{Option, Some, None, IfSome, option_map}
use Rattle.std.specs.Borrow.{Bor}
use Rattle.std.proofs.Math.Seq.{take-append-add}
use Rattle.std.proofs.lemmas.List.Concat.{flat_map-cons}
use Rattle.ice_line.specs.Reading.{Reads}
use Rattle.ice_journal.specs.declared.line.Line.{Line}
use Rattle.ice_journal.specs.Records.{Record}
use Rattle.ice_journal.specs.Ranges.{IsRecord}
use Rattle.ice_journal.specs.Spelling.{text_of, line_of}
use Rattle.ice_journal.specs.Journal.{bytes_of, IsJournal}
use Rattle.ice_journal.specs.Lines.{record_of}
use Rattle.ice_journal.proofs.Journals.{one_line, record_line, first_line, some_line}
use Rattle.ice_reading.specs.Records.{Starts, HasLine, StartsWithLine}

opened : (bytes : List ℕ) (r : Record) (rest : List Record) → IsJournal bytes (r ∷ rest) → bytes ≡ text_of r ++ 10 ∷ bytes_of rest
opened bytes r rest is = is.spelled ∙ flat_map-cons line_of r rest ∙ append_assoc (text_of r) (10 ∷ []) (bytes_of rest)

spelled : (r : Record) (text : List ℕ) (found : Option Line) → IsRecord r → text ≡ text_of r → Reads (option_map record_of found) IsRecord text_of text → (after : List ℕ) (rest : List Record) → IsJournal after rest → Starts (r ∷ rest) found after
spelled r text None lawful is reads after rest journal = absurd (reads r lawful is)
spelled r text (Some found) lawful is reads after rest journal = (sym (reads.2 r lawful is), journal)

-- a line is there, and it is read
pub starts : (bytes text after : List ℕ) (found : Option Line) → bytes ≡ text ++ 10 ∷ after → ¬ Contains text 10 → Reads (option_map record_of found) IsRecord text_of text
    → (left : List Record) → IsJournal bytes left → Starts left found after
starts bytes text after found parts one reads [] is = absurd (some_line text after (sym is.spelled ∙ parts))
starts bytes text after found parts one reads (r ∷ rest) is =
    let both = first_line text (text_of r) after (bytes_of rest) (one_line text one) (record_line r is.lawful.0) (sym parts ∙ opened bytes r rest is) in
    spelled r text found is.lawful.0 both.0 reads after rest (record { lawful = is.lawful.1; spelled = both.1 })

-- a line is there, with its newline
pub has_line : (bytes text after : List ℕ) (found : Bor (List ℕ)) → bytes ≡ text ++ 10 ∷ after → ¬ Contains text 10 → found.now ≡ text ++ 10 ∷ []
    → (left : List Record) → IsJournal bytes left → HasLine left (Some found) after
has_line bytes text after found parts one whole [] is = absurd (some_line text after (sym is.spelled ∙ parts))
has_line bytes text after found parts one whole (r ∷ rest) is =
    let both = first_line text (text_of r) after (bytes_of rest) (one_line text one) (record_line r is.lawful.0) (sym parts ∙ opened bytes r rest is) in
    (is.lawful.0, whole ∙ ap (λ (l : List ℕ). l ++ 10 ∷ []) both.0, record { lawful = is.lawful.1; spelled = both.1 })

-- the bytes up to the first newline, with it
pub cut_line : (bytes text after : List ℕ) (n : ℕ) → bytes ≡ text ++ 10 ∷ after → n ≡ length text + 1 → take n bytes ≡ text ++ 10 ∷ []
cut_line bytes text after n parts count = ap (λ (k : ℕ). take k bytes) count ∙ ap (take (length text + 1)) parts ∙ take-append-add text (10 ∷ after) 1

-- a line that is read is that of a record
pub reads_lawful : (text : List ℕ) (found : Option Line) → Reads (option_map record_of found) IsRecord text_of text → IfSome found (λ l. IsRecord (record_of l))
reads_lawful text None reads = tt
reads_lawful text (Some l) reads = reads.0

-- a record and its line are those that the records start with
pub with_line : (left : List Record) (first : Line) (line : Bor (List ℕ)) (after : List ℕ) → Starts left (Some first) after → StartsWithLine left (Some (first, line)) after
with_line [] first line after h = h
with_line (r ∷ rest) first line after h = h

pub without_line : (left : List Record) (after : List ℕ) → Starts left None after → StartsWithLine left None after
without_line [] after h = h
without_line (r ∷ rest) after h = h
