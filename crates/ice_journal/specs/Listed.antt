-- What a list of numbers is of: how many there may be, and the ranges of each.
use Rattle.std.specs.Prelude.{ℕ}
use Rattle.ice_journal.specs.Records.{Numbered}
use Rattle.ice_journal.specs.Ranges.{IsToll, IsAmount}
use Rattle.ice_journal.specs.declared.numbered.Listed.{Listed}
use Rattle.ice_journal.specs.declared.numbered.Listed.TheVariants as listed

abbrev pub least_of : Listed → ℕ
least_of listed.Tolls = 0
least_of listed.Amounts = 1

abbrev pub most_of : Listed → ℕ
most_of listed.Tolls = 300
most_of listed.Amounts = 200

abbrev pub IsOf : Listed → Numbered → Type 0
IsOf listed.Tolls n = IsToll n
IsOf listed.Amounts n = IsAmount n
