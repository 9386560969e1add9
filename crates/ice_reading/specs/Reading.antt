-- What the records of bytes make of a reader.
use Rattle.std.specs.Prelude.{ℕ, List, [], ◌∷◌, Result, Ok, Err}
use Rattle.ice_journal.specs.Records.{Record}
use Rattle.ice_journal.specs.Journal.{grammar, unended, IsJournal, IsLinesFault}
use Rattle.ice_journal_laws.specs.declared.answer.CheckEnd.{CheckEnd}
use Rattle.ice_journal_laws.specs.declared.answer.CheckEnd.TheVariants.{Grammar, Unended, OtherKind, NoMemory}

-- the records, one step each, lead from one state to another
pub data Runs {S : Type 0} (Step : S → Record → S → Type 0) : S → List Record → S → Type 0 where
  stays : {s : S} → Runs Step s [] s
  goes : {s t end : S} {r : Record} {rest : List Record} → Step s r t → Runs Step t rest end → Runs Step s (r ∷ rest) end

-- the bytes are a journal, and its records lead from one state to another
pub record IsRead {S : Type 0} (Step : S → Record → S → Type 0) (bytes : List ℕ) (s end : S) : Type 0 where
  pub journal : List Record
  pub spelled : IsJournal bytes journal
  pub runs : Runs Step s journal end

-- they are read to their end, or the least line at fault comes first; want of memory is free
abbrev pub ReadsAll : {S : Type 0} → (S → Record → S → Type 0) → List ℕ → S → Result (Unit {0}) CheckEnd → S → Type 0
ReadsAll Step bytes s (Ok unit) end = IsRead Step bytes s end
ReadsAll Step bytes s (Err (Grammar line)) end = IsLinesFault bytes (grammar line)
ReadsAll Step bytes s (Err (Unended line)) end = IsLinesFault bytes (unended line)
ReadsAll Step bytes s (Err OtherKind) end = ⊥
ReadsAll Step bytes s (Err NoMemory) end = Unit {0}
