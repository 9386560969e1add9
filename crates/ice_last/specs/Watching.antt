-- What is known of a journal while its records are read.
use Rattle.std.specs.Prelude.{◌≡◌, List, [], ◌∷◌, ◌++◌}
use Rattle.ice_defs.specs.Fraction.{Fraction}
use Rattle.ice_defs.specs.Session.{Payment}
use Rattle.ice_journal.specs.Records.{Record}
use Rattle.ice_last_laws.specs.Last.{paid_after, payments_said, amounts}
use Rattle.ice_last.specs.declared.watch.Watch.{Watch}
use Rattle.ice_last.specs.declared.watch.Watch.TheVariants.{Start, Other, Session}
use Rattle.ice_last.specs.Lasts.{IsSession}

-- the record is the head of a session
abbrev pub IsSessionHead : Record → Type 0
IsSessionHead r = IsSession (r ∷ [])

-- a record makes one list of amounts of the other, whatever else the payments say
abbrev pub PaysOn : List Fraction → Record → List Fraction → Type 0
PaysOn before r after = (payments : List Payment) → before ≡ amounts payments → after ≡ amounts (paid_after payments r)

-- what is known behind these records
abbrev pub IsWatched : Watch → List Record → Type 0
IsWatched Start records = records ≡ []
IsWatched Other records = (r : Record) × (rest : List Record) × (records ≡ r ∷ rest) × ¬ IsSession records
IsWatched (Session payments) records = IsSession records × (payments.items ≡ amounts (payments_said records))

-- a record more makes one of the other
abbrev pub WatchesOn : Watch → Record → Watch → Type 0
WatchesOn w r after = (records : List Record) → IsWatched w records → IsWatched after (records ++ r ∷ [])
