-- The records that are read so far, and what is known of them.
use Rattle.std.proofs.Common.{◌≡◌, ◌<◌, ◌≤◌, ◌+◌, ℕ, List, [], ◌∷◌, ◌++◌, length, Contains, refl, sym, ◌∙◌, ap, arith, length-append, append_assoc}
use Rattle.std.specs.List.{AllByRecursion}
use Rattle.std.proofs.lemmas.List.{append-nil}
use Rattle.std.proofs.lemmas.Grind.{flat_map-append}
use Rattle.ice_defs.proofs.Lists.{all_push}
use Rattle.ice_journal.specs.Records.{Record}
use Rattle.ice_journal.specs.Ranges.{IsRecord}
use Rattle.ice_journal.specs.Spelling.{text_of, line_of}
use Rattle.ice_journal.specs.declared.lines.BadLine.TheVariants.{NoRecord, NotEnded}
use Rattle.ice_journal.specs.Ends.{IsBadLine}
use Rattle.ice_journal.specs.Journal.{bytes_of, IsJournal, IsNoRecord, grammar, unended, IsLinesFault}

pub record HasRead (Known : List Record → Type 0) (bytes rest : List ℕ) (count : ℕ) : Type 0 where
  pub records : List Record
  pub lawful : AllByRecursion IsRecord records
  pub count_is : count ≡ length records
  pub bytes_are : bytes ≡ bytes_of records ++ rest
  pub known : Known records

pub none_read : {Known : List Record → Type 0} (bytes : List ℕ) → Known [] → HasRead Known bytes bytes 0
none_read bytes known = record { records = []; lawful = tt; count_is = refl; bytes_are = refl; known = known }

bytes_more : (records : List Record) (r : Record) → bytes_of (records ++ r ∷ []) ≡ bytes_of records ++ line_of r
bytes_more records r = flat_map-append line_of records (r ∷ []) ∙ ap (λ (l : List ℕ). bytes_of records ++ l) (append-nil (line_of r))

-- one more line is that of a record
pub one_read : {Known Next : List Record → Type 0} (bytes rest after : List ℕ) (count : ℕ) (r : Record) → HasRead Known bytes rest count → IsRecord r → rest ≡ line_of r ++ after
    → ((records : List Record) → Known records → Next (records ++ r ∷ [])) → HasRead Next bytes after (count + 1)
one_read bytes rest after count r h is parts goes = record {
  records = h.records ++ r ∷ [];
  lawful = all_push IsRecord h.records r h.lawful is;
  count_is = omega (arith, h.count_is, length-append h.records (r ∷ []));
  bytes_are =
      h.bytes_are ∙ ap (λ (l : List ℕ). bytes_of h.records ++ l) parts
      ∙ sym (append_assoc (bytes_of h.records) (line_of r) after)
      ∙ ap (λ (l : List ℕ). l ++ after) (sym (bytes_more h.records r));
  known = goes h.records h.known;
}

-- each line has a byte at least
pub line_length : (rest after : List ℕ) (r : Record) → rest ≡ line_of r ++ after → length after + 1 ≤ length rest
line_length rest after r parts = omega (arith, ap length parts, length-append (line_of r) after, length-append (text_of r) (10 ∷ []))

-- the next line is no record
pub grammar_fault : {Known : List Record → Type 0} (bytes rest text after : List ℕ) (count : ℕ) → HasRead Known bytes rest count → rest ≡ text ++ 10 ∷ after → ¬ Contains text 10 → IsNoRecord text
    → IsLinesFault bytes (grammar (count + 1))
grammar_fault bytes rest text after count h parts one_line no_record = (
  text,
  after,
  record {
    before = h.records;
    lawful = h.lawful;
    number_is = omega (arith, h.count_is);
    bytes_are = h.bytes_are ∙ ap (λ (l : List ℕ). bytes_of h.records ++ l) parts;
    one_line = one_line;
  },
  no_record,
)

-- the next line has no newline
pub unended_fault : {Known : List Record → Type 0} (bytes rest : List ℕ) (count : ℕ) → HasRead Known bytes rest count → ¬ Contains rest 10 → 0 < length rest → IsLinesFault bytes (unended (count + 1))
unended_fault bytes rest count h one_line some = (
  rest,
  record {
    before = h.records;
    lawful = h.lawful;
    number_is = omega (arith, h.count_is);
    bytes_are = h.bytes_are ∙ ap (λ (l : List ℕ). bytes_of h.records ++ l) (sym (append-nil rest));
    one_line = one_line;
  },
  some,
)

pub all_read : {Known : List Record → Type 0} (bytes rest : List ℕ) (count : ℕ) (h : HasRead Known bytes rest count) → rest ≡ [] → IsJournal bytes h.records
all_read bytes rest count h none = record { lawful = h.lawful; spelled = h.bytes_are ∙ ap (λ (l : List ℕ). bytes_of h.records ++ l) none ∙ append-nil (bytes_of h.records) }

-- ---- what is wrong with the first line of what is left

pub no_record_fault : {Known : List Record → Type 0} (bytes rest : List ℕ) (count : ℕ) → HasRead Known bytes rest count → IsBadLine rest NoRecord → IsLinesFault bytes (grammar (count + 1))
no_record_fault bytes rest count h (text, after, parts, one_line, none) = grammar_fault bytes rest text after count h parts one_line none

pub not_ended_fault : {Known : List Record → Type 0} (bytes rest : List ℕ) (count : ℕ) → HasRead Known bytes rest count → IsBadLine rest NotEnded → IsLinesFault bytes (unended (count + 1))
not_ended_fault bytes rest count h (some, one_line) = unended_fault bytes rest count h one_line some
