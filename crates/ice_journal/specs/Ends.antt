-- What is wrong with the first line of bytes.
use Rattle.std.specs.Prelude.{◌≡◌, ◌<◌, ℕ, List, ◌∷◌, ◌++◌, length, Contains}
use Rattle.ice_journal.specs.declared.lines.BadLine.{BadLine}
use Rattle.ice_journal.specs.declared.lines.BadLine.TheVariants.{NoRecord, NotEnded}
use Rattle.ice_journal.specs.Journal.{IsNoRecord}

-- what is wrong with the first line of these bytes
abbrev pub IsBadLine : List ℕ → BadLine → Type 0
IsBadLine bytes NoRecord = (text : List ℕ) × (after : List ℕ) × (bytes ≡ text ++ 10 ∷ after) × ¬ Contains text 10 × IsNoRecord text
IsBadLine bytes NotEnded = (0 < length bytes) × ¬ Contains bytes 10
