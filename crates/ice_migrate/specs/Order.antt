-- Whether each record of a journal may stand in its place, also behind a stop, and whether the
-- journal ends where it may.
use Rattle.std.specs.Prelude.{List, [], ◌∷◌, Option, Some, None}
use Rattle.ice_journal.specs.Records.{Record}
use Rattle.ice_journal.specs.Records as line
use Rattle.ice_journal_laws.specs.declared.rule.Rule.TheVariants as rule
use Rattle.ice_journal_laws.specs.State.{Place, done, State, begun}
use Rattle.ice_journal_laws.specs.Next.{next}
use Rattle.ice_journal_laws.specs.Checks.{Failure}

abbrev pub short_unless : State → Place → Option Failure
short_unless s done = None
short_unless s other = Some (record { line = s.line; rule = rule.Short })

abbrev pub order_or : State → Option State → (State → Option Failure) → Option Failure
order_or s None later = Some (record { line = s.line; rule = rule.Order })
order_or s (Some after) later = later after

-- the first record that may not stand in its place, or the want of one at the end
abbrev pub order_from : State → List Record → Option Failure
order_from s [] = short_unless s s.place
order_from s (r ∷ rest) = order_or s (next s r) (λ after. order_from after rest)

abbrev pub order_failure : List Record → Option Failure
order_failure (line.head version kind ∷ rest) = order_from (begun version kind) rest
order_failure other = None
