use Rattle.std.proofs.Common.{◌+◌, ◌<◌, ◌≤◌, ◌^◌, List, length}
use Rattle.ice_journal.specs.Records.{Record}
use Rattle.ice_journal.specs.Journal.{IsJournal}
use Rattle.ice_journal_laws.specs.State.{State}
use Rattle.ice_migrate.specs.Order.{order_from}
use Rattle.ice_migrate.specs.Stopped.{count_at, StandsAt}
use Rattle.ice_migrate.proofs.Ordering.{Comes}
use Rattle.ice_migrate.proofs.behind.first_out_of_order.Given as goal

abbrev pub invariant-loop-record : goal.invariant-loop-record
invariant-loop-record l = record {
  few : l.number + length l.records < 2 ^ 63 + 2;
  low : count_at l.here ≤ l.number;
  comes : (s : State) (left : List Record) → IsJournal l.initial.records left → StandsAt s l.counts l.initial.here l.initial.number → Comes l.records l.counts l.here l.number (order_from s left);
}

abbrev pub decreases-loop-record : goal.decreases-loop-record
decreases-loop-record l = length l.records
