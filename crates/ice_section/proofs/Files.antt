-- A file in line form, of which so many lines were read.
use Rattle.std.proofs.Common.{ℕ, ◌+◌, ◌≤◌, ◌≡◌, List, [], ◌∷◌, ◌++◌, length, Option, Some, None, true, Result, Ok, Err, refl, arith, ap, sym, ◌∙◌, subst, length-append, append_assoc}
use Rattle.std.specs.Prelude.{is_some}
use Rattle.std.specs.Option.{unwrap_or}
use Rattle.std.specs.List.{AllByRecursion}
use Rattle.std.proofs.lemmas.List.{append-nil, length_push}
use Rattle.std.proofs.lemmas.List.Concat.{flat_map-append}
use Rattle.ice_defs.specs.FileFault.{FileFault, at_line}
use Rattle.ice_defs.proofs.Lists.{all_push}
use Rattle.ice_journal.specs.Records.{Record}
use Rattle.ice_journal.specs.Ranges.{IsRecord}
use Rattle.ice_journal.specs.Spelling.{text_of, line_of}
use Rattle.ice_journal.specs.declared.lines.BadLine.{BadLine}
use Rattle.ice_journal.specs.declared.lines.BadLine.TheVariants.{NoRecord, NotEnded}
use Rattle.ice_journal.specs.Ends.{IsBadLine}
use Rattle.ice_journal.specs.Journal.{bytes_of, LinesFault, grammar, unended, IsJournalOf}
use Rattle.ice_section.specs.declared.faults.LineCause.{LineCause}
use Rattle.ice_section.specs.declared.faults.LineCause.TheVariants.{Misplaced}
use Rattle.ice_section.specs.declared.faults.LineFileFault.{LineFileFault}
use Rattle.ice_section.specs.declared.faults.LineFileFault.TheVariants.{Fault, NoMemory}
use Rattle.ice_section.specs.FaultNumbers.{line_cause_number, cause_of}
use Rattle.ice_section.specs.FileStates.{IsFaultOf, IsFaultFrom}
use Rattle.ice_section.specs.LineFile.{of_lines}

-- the records of these lines, and what the others would give
pub record HasRead {X : Type 0} (whole left : List Record → Result X FileFault) (bytes rest : List ℕ) (lines : ℕ) : Type 0 where
  pub before : List Record
  pub lawful : AllByRecursion IsRecord before
  pub bytes_are : bytes ≡ bytes_of before ++ rest
  pub counted : lines ≡ length before
  pub room : lines + length rest ≤ length bytes
  pub same : (later : List Record) → whole (before ++ later) ≡ left later

-- ---- faults

-- at this line another record belongs
pub is_misplaced : {X : Type 0} (found : Result X FileFault) (line : ℕ) (fault : LineFileFault) → fault ≡ Fault Misplaced line → found ≡ Err (at_line 50 line) → IsFaultOf found fault
is_misplaced found line fault is e = subst (IsFaultOf found) (sym is) (50, refl, e)

-- a fault that was kept
pub kept_fault : {X : Type 0} (found : Result X FileFault) (cause : LineCause) (line : ℕ) → is_some (line_cause_number cause) ≡ true → found ≡ Err (at_line (unwrap_or (line_cause_number cause) 0) line)
    → IsFaultOf found (Fault cause line)
kept_fault found cause line some e = by (line_cause_number cause) refl some e
  where
    by : (o : Option ℕ) → line_cause_number cause ≡ o → is_some o ≡ true → found ≡ Err (at_line (unwrap_or o 0) line) → (number : ℕ) × (line_cause_number cause ≡ Some number) × (found ≡ Err (at_line number line))
    by None is some e = absurd cc
    by (Some number) is some e = (number, is, e)

-- ---- lines

-- what the bytes are found to describe
abbrev pub IsOfLines : {X : Type 0} → (List Record → Result X FileFault) → List ℕ → Result X FileFault → Type 0
IsOfLines whole bytes found = (lines : Result (List Record) LinesFault) × IsJournalOf bytes lines × (found ≡ of_lines whole lines)

module _ {X : Type 0} (whole : List Record → Result X FileFault) (bytes : List ℕ) where
  pub read_more : (left next : List Record → Result X FileFault) (rest after : List ℕ) (lines : ℕ) (r : Record) → HasRead whole left bytes rest lines → IsRecord r → rest ≡ line_of r ++ after
      → ((later : List Record) → left (r ∷ later) ≡ next later) → HasRead whole next bytes after (lines + 1)
  read_more left next rest after lines r h is e step = record {
    before = h.before ++ r ∷ [];
    lawful = all_push IsRecord h.before r h.lawful is;
    bytes_are = h.bytes_are ∙ ap (λ l. bytes_of h.before ++ l) e ∙ sym (append_assoc (bytes_of h.before) (line_of r) after)
        ∙ ap (λ l. l ++ after) (ap (λ l. bytes_of h.before ++ l) (sym (append-nil (line_of r))) ∙ sym (flat_map-append line_of h.before (r ∷ [])));
    counted = omega (arith, h.counted, length_push h.before r);
    room = omega (arith, h.room, ap length e, length-append (line_of r) after, length-append (text_of r) (10 ∷ []));
    same = λ later. ap whole (append_assoc h.before (r ∷ []) later) ∙ h.same (r ∷ later) ∙ step later;
  }

  pub read_all : (left : List Record → Result X FileFault) (rest : List ℕ) (lines : ℕ) (found : Result X FileFault) → HasRead whole left bytes rest lines → rest ≡ [] → left [] ≡ found → IsOfLines whole bytes found
  read_all left rest lines found h none e = (
    Ok h.before,
    record { lawful = h.lawful; spelled = h.bytes_are ∙ ap (λ l. bytes_of h.before ++ l) none ∙ append-nil (bytes_of h.before) },
    sym e ∙ sym (h.same []) ∙ ap whole (append-nil h.before),
  )

  pub read_fault : (left : List Record → Result X FileFault) (rest : List ℕ) (lines : ℕ) (f : LineFileFault) → HasRead whole left bytes rest lines → rest ≡ [] → IsFaultOf (left []) f → IsFaultFrom (IsOfLines whole bytes) f
  read_fault left rest lines (Fault cause line) h none (number, numbered, e) = (number, numbered, read_all left rest lines (Err (at_line number line)) h none e)
  read_fault left rest lines NoMemory h none e = tt

  pub read_bad : (left : List Record → Result X FileFault) (rest : List ℕ) (lines : ℕ) (bad : BadLine) → HasRead whole left bytes rest lines → IsBadLine rest bad
      → IsFaultFrom (IsOfLines whole bytes) (Fault (cause_of bad) (lines + 1))
  read_bad left rest lines NoRecord h (text, after, are, one, none) = (
    50,
    refl,
    (
      Err (grammar (lines + 1)),
      (text, after, record { before = h.before; lawful = h.lawful; number_is = omega (arith, h.counted); bytes_are = h.bytes_are ∙ ap (λ l. bytes_of h.before ++ l) are; one_line = one }, none),
      refl,
    ),
  )
  read_bad left rest lines NotEnded h (some, one) = (
    51,
    refl,
    (
      Err (unended (lines + 1)),
      (rest, record { before = h.before; lawful = h.lawful; number_is = omega (arith, h.counted); bytes_are = h.bytes_are ∙ ap (λ l. bytes_of h.before ++ l) (sym (append-nil rest)); one_line = one }, some),
      refl,
    ),
  )
