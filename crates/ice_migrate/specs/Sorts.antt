-- What the migration of a record goes by.
use Rattle.std.specs.Prelude.{ℕ, ◌==◌, ◌&&◌, if◌then◌else◌}
use Rattle.ice_defs.specs.Steps.{branch, leaf, dead}
use Rattle.ice_journal.specs.Records.{Record}
use Rattle.ice_journal.specs.Records as line
use Rattle.ice_migrate.specs.declared.sort.Sort.{Sort}
use Rattle.ice_migrate.specs.declared.sort.Sort.TheVariants.{Good, Bidder, Leaf, Step, Other}

abbrev pub sort_of : Record → Sort
sort_of (line.good name) = Good
sort_of (line.exact name) = Good
sort_of (line.bidder name own) = Bidder
sort_of (line.step (leaf m)) = Leaf
sort_of (line.step (branch b n)) = Step
sort_of (line.step (dead b)) = Step
sort_of other = Other

-- by the first and the third byte of a line: `good`, `exact`, `bidder`, `leaf`, `branch` or `dead`
abbrev pub sort_by : ℕ → ℕ → Sort
sort_by first third =
    if first == 103 && third == 111 then Good else
    if first == 101 && third == 97 then Good else
    if first == 98 && third == 100 then Bidder else
    if first == 108 && third == 97 then Leaf else
    if first == 98 && third == 97 then Step else
    if first == 100 && third == 97 then Step else Other
