use Rattle.std.proofs.Common.{List, ◌+◌, ◌≤◌, length}
use Rattle.ice_journal.specs.Records.{Record}
use Rattle.ice_journal.specs.Journal.{IsJournal}
use Rattle.ice_statement_laws.specs.Gathering.{new_gathering}
use Rattle.ice_statement.proofs.Gathers.{HasPut}
use Rattle.ice_statement.proofs.putting.put_gathered.Given as goal

abbrev pub invariant-loop-record : goal.invariant-loop-record
invariant-loop-record g l = record {
  bidders : l.gathering.bidders + length l.records ≤ length l.bytes;
  sets : l.gathering.sets + length l.records ≤ length l.bytes;
  put : (journal : List Record) → IsJournal l.bytes journal → HasPut (new_gathering l.name) l.gathering l.records journal (g.K.Sink.taken l.initial.out) (g.K.Sink.taken l.out);
}

abbrev pub decreases-loop-record : goal.decreases-loop-record
decreases-loop-record g l = length l.records
