-- Laws of statements and of their audit.
use Rattle.std.specs.Prelude.{◌≡◌, ◌≢◌, ℕ, List, Option, None}
use Rattle.std.specs.List.{AllByRecursion}
use Rattle.ice_defs.specs.Fraction.{Fraction}
use Rattle.ice_journal.specs.Records.{Record}
use Rattle.ice_journal.specs.Ranges.{IsRecord}
use Rattle.ice_journal.specs.Spelling.{text_of}
use Rattle.ice_journal.specs.Journal.{IsJournal}
use Rattle.ice_journal_laws.specs.Checks.{Failure, Checks}
use Rattle.ice_statement_laws.specs.Statement.{public_records, Own, StatementLine, statement_lines}
use Rattle.ice_statement_laws.specs.Audit.{IsAudit}
use Rattle.ice_statement_laws.specs.Own.{OwnSession, own_lines, IsRightOwn}
use Rattle.ice_statement_laws.specs.Texts.{IsOwnOf, States, AreLines, AuditAnswer, yes, out_of_memory, AuditsBytes}

-- the audit passes the lines of a right part
abbrev pub RightPartsPass : Type 0
RightPartsPass = (x : OwnSession) → IsRightOwn x → IsAudit (own_lines x) None

-- every statement of a closed journal that passes every test passes the audit
abbrev pub StatementsPass : Type 0
StatementsPass = (journal : List Record) (name : List ℕ) (own : Own) → Checks journal → IsOwnOf journal name own
    → IsAudit (statement_lines (public_records journal) own) None

-- the audit has one outcome
abbrev pub AuditIsOne : Type 0
AuditIsOne = (lines : List StatementLine) (one other : Option Failure) → IsAudit lines one → IsAudit lines other → one ≡ other

-- so has the audit of bytes, but for want of memory
abbrev pub AnswerIsOne : Type 0
AnswerIsOne = (bytes : List ℕ) (one other : AuditAnswer) → AuditsBytes bytes one → AuditsBytes bytes other → one ≢ out_of_memory
    → other ≢ out_of_memory → one ≡ other

-- to every text that a statement has the audit says yes,
-- with the bidder's payment, or answers want of memory
abbrev pub AuditSaysYes : Type 0
AuditSaysYes = (bytes name text : List ℕ) (own : Own) (answer : AuditAnswer) → States bytes name own text → AuditsBytes text answer
    → answer ≢ out_of_memory → answer ≡ yes own.payment.payment

-- two closed journals that agree in what is published and in
-- what is the bidder's own give it the same bytes
abbrev pub StatementHidesOthers : Type 0
StatementHidesOthers = (one other name s t : List ℕ) (a b : Own) (here : States one name a s) (there : States other name b t)
    → public_records here.journal ≡ public_records there.journal → a ≡ b → s ≡ t

-- what the audit says yes to is the lines of a right part: so its verdicts are those of the
-- rules, and the payment is at most what the kept set is worth at the last lower values
abbrev pub YesIsRight : Type 0
YesIsRight = (bytes : List ℕ) (payment : Fraction) → AuditsBytes bytes (yes payment)
    → (x : OwnSession) × IsRightOwn x × AreLines bytes (own_lines x) × (payment ≡ x.closed.payment.payment)

-- bytes have one statement for a name
abbrev pub StatementIsOne : Type 0
StatementIsOne = (bytes name s t : List ℕ) (a b : Own) → States bytes name a s → States bytes name b t → s ≡ t

-- what the laws stand on that other crates prove: each text is that of
-- one record and has no newline, and bytes are one journal
abbrev pub TextsTellRecords : Type 0
TextsTellRecords = (a b : Record) → IsRecord a → IsRecord b → text_of a ≡ text_of b → a ≡ b

abbrev pub TextsAreOneLine : Type 0
TextsAreOneLine = (r : Record) → IsRecord r → AllByRecursion (λ b. b ≡ 10 → ⊥) (text_of r)

abbrev pub BytesTellJournals : Type 0
BytesTellJournals = (bytes : List ℕ) (one other : List Record) → IsJournal bytes one → IsJournal bytes other → one ≡ other
