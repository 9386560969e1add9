-- What a command that writes a journal may have written so far, and what its steps write.
use Rattle.std.specs.Prelude.{ℕ, ◌<◌, ◌⊎◌, List, ◌∷◌, ◌++◌, Ok}
use Rattle.ice_edge.specs.declared.status.Status.{Status}
use Rattle.ice_edge.specs.Taken.{Taken}
use Rattle.ice_defs.specs.Exchange.{Exchange}
use Rattle.ice_journal.specs.Records.{Record, Kind, version_2}
use Rattle.ice_journal.specs.Records as line
use Rattle.ice_journal.specs.Journal.{bytes_of}
use Rattle.ice_section.specs.Described.{section_records}
use Rattle.ice_command_parts.specs.Call.{Call, file_limit, OfFile, IsPrefix}
use Rattle.ice_command_parts.specs.Files.{IsExchangeOf}
use Rattle.ice_command_parts.specs.Parts.{IsSaid}

-- one is a front of the other
abbrev pub Agree : {X : Type 0} → List X → List X → Type 0
Agree xs ys = IsPrefix xs ys ⊎ IsPrefix ys xs

-- the journal's exchange, as far as it is written, is that of the file
abbrev pub HasExchangeOf : Call → List ℕ → Kind → List Record → Type 0
HasExchangeOf call name kind journal =
    OfFile call name file_limit (λ bytes. (ex : Exchange) × IsExchangeOf bytes (Ok ex)
    × Agree journal (line.head version_2 kind ∷ section_records ex))

-- the exchange of the file has fewer branches than these
abbrev pub HasFewerThan : Call → List ℕ → (Exchange → ℕ) → Type 0
HasFewerThan call name enough =
    OfFile call name file_limit (λ bytes. (ex : Exchange) × IsExchangeOf bytes (Ok ex) × (ex.settings.branches < enough ex))

-- behind these records the rest of a journal is put, which ends with
-- a status; or the sink failed, and took a front of the rest
abbrev pub WritesBehind : List Record → (List Record → Status → Type 0) → Taken → Taken → Status → Type 0
WritesBehind front IsJournal old new result =
    (rest : List Record) × (status : Status) × IsJournal (front ++ rest) status × IsSaid (bytes_of rest) status old new result
