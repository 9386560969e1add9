-- The records of bytes, taken one after another.
use Rattle.std.specs.Prelude.{ℕ, ◌≡◌, ◌<◌, ◌≤◌, List, [], ◌∷◌, length, Option, Some, None}
use Rattle.std.specs.Borrow.{Bor}
use Rattle.ice_journal.specs.declared.line.Line.{Line}
use Rattle.ice_journal.specs.Records.{Record}
use Rattle.ice_journal.specs.Ranges.{IsRecord}
use Rattle.ice_journal.specs.Spelling.{line_of}
use Rattle.ice_journal.specs.Journal.{IsJournal}
use Rattle.ice_journal.specs.Lines.{record_of}

-- the first of the records, where there is one, and the bytes of the others
abbrev pub Starts : List Record → Option Line → List ℕ → Type 0
Starts [] None after = IsJournal after []
Starts [] (Some first) after = ⊥
Starts (r ∷ rest) None after = ⊥
Starts (r ∷ rest) (Some first) after = (record_of first ≡ r) × IsJournal after rest

-- the line of the first of the records, where there is one, and the bytes of the others
abbrev pub HasLine : List Record → Option (Bor (List ℕ)) → List ℕ → Type 0
HasLine [] None after = IsJournal after []
HasLine [] (Some text) after = ⊥
HasLine (r ∷ rest) None after = ⊥
HasLine (r ∷ rest) (Some text) after = IsRecord r × (text.now ≡ line_of r) × IsJournal after rest

-- both
abbrev pub StartsWithLine : List Record → Option (Line × Bor (List ℕ)) → List ℕ → Type 0
StartsWithLine [] None after = IsJournal after []
StartsWithLine [] (Some both) after = ⊥
StartsWithLine (r ∷ rest) None after = ⊥
StartsWithLine (r ∷ rest) (Some both) after = (record_of both.0 ≡ r) × IsJournal after rest

-- bytes are taken for a record, and none are where there is none
abbrev pub Shortens : {X : Type 0} → List ℕ → Option X → List ℕ → Type 0
Shortens before None after = length after ≤ length before
Shortens before (Some first) after = length after < length before
