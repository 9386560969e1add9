use Rattle.std.proofs.Common.{◌≡◌, ◌+◌, ◌≤◌, ◌++◌, List, length}
use Rattle.ice_journal.specs.Records.{Record}
use Rattle.ice_journal.specs.Journal.{IsJournal}
use Rattle.ice_migrate.proofs.Coming.{IsLeft}
use Rattle.ice_migrate.proofs.counts.Counts.of_first.Given as goal

abbrev pub invariant-loop : goal.invariant-loop
invariant-loop l = record {
  few : l.counts.goods + l.counts.bidders ≤ l.counter;
  shorter : l.counter + length l.records ≤ length l.initial.records;
  left : (before after : List Record) → IsJournal l.initial.records (before ++ after) → length before ≡ l.lines → IsLeft l.records l.counts l.counter before after;
}
