-- Statements and their audit over bytes.
use Rattle.std.specs.Prelude.{◌≡◌, ℕ, ◌+◌, ◌<◌, List, [], ◌∷◌, ◌++◌, length, Contains, Option, Some, None}
use Rattle.std.specs.List.{AllByRecursion, flat_map}
use Rattle.ice_defs.specs.Fraction.{Fraction}
use Rattle.ice_defs.specs.Session.{Payment, Session}
use Rattle.ice_headline_laws.specs.Right.{IsRight}
use Rattle.ice_journal.specs.Records.{Record}
use Rattle.ice_journal.specs.Ranges.{IsName, IsBits, IsRecord}
use Rattle.ice_journal.specs.Journal.{LinesFault, grammar, unended, IsJournal}
use Rattle.ice_journal_laws.specs.Fields.{payment_in}
use Rattle.ice_journal_laws.specs.Checks.{Failure, Checks}
use Rattle.ice_journal_laws.specs.Theorems.{Says}
use Rattle.ice_journal_laws.specs.Written.{session_records}
use Rattle.ice_statement_laws.specs.Statement.{public_records, Own, IsOwn, StatementLine, named, shown, kept, offered, ended}
use Rattle.ice_statement_laws.specs.Statement.{statement_of, statement_text}
use Rattle.ice_statement_laws.specs.Audit.{IsAudit}

-- ---- the statement of a journal

-- the journal says a right session, of which this is the named bidder's own
pub record IsOwnOf (journal : List Record) (name : List ℕ) (own : Own) : Type 0 where
  pub session : Session
  pub says : Says journal (session_records session)
  pub right : IsRight session
  pub is_own : IsOwn session name own

-- the bytes are a closed journal that passes every test, and this
-- text is its statement for the named bidder, whose own this is
pub record States (bytes : List ℕ) (name : List ℕ) (own : Own) (text : List ℕ) : Type 0 where
  pub journal : List Record
  pub spelled : IsJournal bytes journal
  pub checks : Checks journal
  pub own_is : IsOwnOf journal name own
  pub text_is : text ≡ statement_of (public_records journal) own

-- ---- the lines of a statement

-- in the ranges of their fields
abbrev pub IsLine : StatementLine → Type 0
IsLine (named name) = IsName name
IsLine (shown r) = IsRecord r
IsLine (kept s) = IsBits s
IsLine (offered s) = IsBits s
IsLine ended = Unit {0}

abbrev pub line_text : StatementLine → List ℕ
line_text l = statement_text l ++ 10 ∷ []

abbrev pub bytes_of_lines : List StatementLine → List ℕ
bytes_of_lines lines = flat_map line_text lines

-- the bytes are these lines
pub record AreLines (bytes : List ℕ) (lines : List StatementLine) : Type 0 where
  pub lawful : AllByRecursion IsLine lines
  pub spelled : bytes ≡ bytes_of_lines lines

abbrev pub IsNoLine : List ℕ → Type 0
IsNoLine text = (l : StatementLine) → IsLine l → text ≡ statement_text l → ⊥

-- before this line stand lines of a statement, then this text and what comes after it
pub record LinesComeTo (bytes : List ℕ) (number : ℕ) (text after : List ℕ) : Type 0 where
  pub before : List StatementLine
  pub lawful : AllByRecursion IsLine before
  pub number_is : number ≡ length before + 1
  pub bytes_are : bytes ≡ bytes_of_lines before ++ (text ++ after)
  pub one_line : ¬ Contains text 10

-- the least line at fault
abbrev pub IsLineFault : List ℕ → LinesFault → Type 0
IsLineFault bytes (grammar number) = (text : List ℕ) × (after : List ℕ) × LinesComeTo bytes number text (10 ∷ after) × IsNoLine text
IsLineFault bytes (unended number) = (text : List ℕ) × LinesComeTo bytes number text [] × (0 < length text)

-- ---- the audit

-- the payment that is stated
abbrev pub record_of_line : StatementLine → Option Record
record_of_line (shown r) = Some r
record_of_line other = None

abbrev pub payment_or : Option Payment → Option Fraction → Option Fraction
payment_or (Some p) later = Some p.payment
payment_or None later = later

abbrev pub payment_in_line : StatementLine → Option Payment
payment_in_line (shown r) = payment_in r
payment_in_line other = None

abbrev pub paid_in : List StatementLine → Option Fraction
paid_in [] = None
paid_in (l ∷ rest) = payment_or (payment_in_line l) (paid_in rest)

pub data AuditAnswer : Type 0 where
  yes : (payment : Fraction) → AuditAnswer
  no : Failure → AuditAnswer
  at_fault : LinesFault → AuditAnswer
  out_of_memory : AuditAnswer

-- the least line at fault comes first, then the first failed test, or none; want of memory is free
abbrev pub AuditsBytes : List ℕ → AuditAnswer → Type 0
AuditsBytes bytes (yes payment) = (lines : List StatementLine) × AreLines bytes lines × IsAudit lines None × (paid_in lines ≡ Some payment)
AuditsBytes bytes (no failure) = (lines : List StatementLine) × AreLines bytes lines × IsAudit lines (Some failure)
AuditsBytes bytes (at_fault fault) = IsLineFault bytes fault
AuditsBytes bytes out_of_memory = Unit {0}
