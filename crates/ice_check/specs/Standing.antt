-- What a checker of bytes is seen as, and for which bytes it stands.
use Rattle.std.specs.Prelude.{ℕ, suc, ◌≡◌, ◌<◌, ◌≤◌, ◌⊎◌, Bool, true, false, IsTrue, List, [], ◌∷◌, ◌++◌, length, Contains, Option}
use Rattle.ice_line.specs.Reading.{Reads}
use Rattle.ice_journal.specs.Records.{Record}
use Rattle.ice_journal.specs.Ranges.{IsRecord}
use Rattle.ice_journal.specs.Spelling.{text_of}
use Rattle.ice_journal.specs.Journal.{IsJournal, grammar, IsLinesFault}
use Rattle.ice_journal_laws.specs.Progress.{Progress, nothing, out_of_memory, is_ready, Leads}
use Rattle.ice_journal_laws.specs.Answers.{HoldsJournal}
use Rattle.ice_check_records.specs.Checking.{HasCome, is_ready_checker}
use Rattle.ice_check_records.specs.Checking as records
use Rattle.ice_check.specs.declared.begun.Begun.{Begun}
use Rattle.ice_check.specs.declared.lines.Lines.{Lines}
use Rattle.ice_check.specs.declared.lines.Lines.TheVariants as known

-- how many bytes were taken, what is kept of the line that has begun, and what is known of the
-- whole lines
pub record Checking : Type 0 where
  pub count : ℕ
  pub begun : Begun
  pub lines : Lines

-- ---- the line that has begun

-- the most bytes of a record's text
abbrev pub longest : ℕ
longest = 8192

abbrev pub RecordsAreShort : Type 0
RecordsAreShort = (r : Record) → IsRecord r → length (text_of r) ≤ longest

-- the text is kept, or that it is longer than any record's
abbrev pub IsKeptText : Bool → List ℕ → List ℕ → Type 0
IsKeptText false kept text = text ≡ kept
IsKeptText true kept text = longest < length text

abbrev pub IsTextOf : Begun → List ℕ → Type 0
IsTextOf b text = IsKeptText b.is_long b.text.items text

-- ---- whole lines

-- they are records, which the checker of records has taken
pub record AreTaken (c : records.Checking) (whole : List ℕ) : Type 0 where
  pub journal : List Record
  pub spelled : IsJournal whole journal
  pub line : c.line ≡ suc (length journal)
  pub progress : Progress
  pub leads : Leads nothing journal progress
  pub come : HasCome c progress

abbrev pub AreRead : Lines → List ℕ → Type 0
AreRead (known.Records checker) whole = AreTaken checker whole
AreRead (known.Grammar line) whole = IsLinesFault whole (grammar line)

-- one more line is read: that of this record, or of none
abbrev pub ReadsOn : Lines → Option Record → Lines → Type 0
ReadsOn lines r next = (whole text : List ℕ) → AreRead lines whole → ¬ Contains text 10
    → Reads r IsRecord text_of text → AreRead next (whole ++ (text ++ 10 ∷ []))

-- the next line's number is at most this
abbrev pub IsWithin : ℕ → Lines → Type 0
IsWithin n (known.Records checker) = checker.line ≤ n
IsWithin n (known.Grammar line) = Unit {0}

abbrev pub is_ready_lines : Lines → Bool
is_ready_lines (known.Records checker) = is_ready_checker checker
is_ready_lines (known.Grammar line) = true

-- no memory was left for one of them
abbrev pub AreStopped : Lines → Type 0
AreStopped (known.Records checker) = HasCome checker out_of_memory
AreStopped (known.Grammar line) = ⊥

-- ---- all bytes

-- the bytes are whole lines, of which this holds, and then the text of a line that has begun
pub record Ends (P Q : List ℕ → Type 0) (bytes : List ℕ) : Type 0 where
  pub whole : List ℕ
  pub begun : List ℕ
  pub cut : bytes ≡ whole ++ begun
  pub one_line : ¬ Contains begun 10
  pub lines : P whole
  pub text : Q begun

-- the checker stands for these bytes
pub record StandsFor (c : Checking) (bytes : List ℕ) : Type 0 where
  pub count : length bytes ≡ c.count
  pub ends : Ends (AreRead c.lines) (IsTextOf c.begun) bytes

-- memory ran out: it stands for no bytes
abbrev pub IsStopped : Checking → Type 0
IsStopped c = AreStopped c.lines

-- the next bytes want no memory
abbrev pub is_ready_at : Checking → Bool
is_ready_at c = is_ready_lines c.lines

-- a whole line is no record; or the records of all lead to where the exchange and one record after
-- it are taken, or no record matters any more
abbrev pub WantNoMemory : List ℕ → Type 0
WantNoMemory whole = ((line : ℕ) × IsLinesFault whole (grammar line)) ⊎ ((p : Progress) × HoldsJournal whole p × IsTrue (is_ready p))

-- the records of all lead to where more memory may be wanted
abbrev pub MayWantMemory : List ℕ → Type 0
MayWantMemory whole = (p : Progress) × HoldsJournal whole p × (is_ready p ≡ false)

abbrev pub AreReadiness : List ℕ → Bool → Type 0
AreReadiness whole true = WantNoMemory whole
AreReadiness whole false = MayWantMemory whole

abbrev pub IsAnyText : List ℕ → Type 0
IsAnyText text = Unit {0}

abbrev pub IsReadiness : List ℕ → Bool → Type 0
IsReadiness bytes ready = Ends (λ whole. AreReadiness whole ready) IsAnyText bytes
