use Rattle.std.proofs.Common.{List, length}
use Rattle.ice_journal.specs.Records.{Record}
use Rattle.ice_journal.specs.Journal.{IsJournal}
use Rattle.ice_statement.proofs.Judged.{Searches}
use Rattle.ice_statement.proofs.judging.has_bidder.Given as goal

abbrev pub invariant-loop-line : goal.invariant-loop-line
invariant-loop-line l = (journal : List Record) → IsJournal l.bytes journal → Searches l.name l.records journal

abbrev pub decreases-loop-line : goal.decreases-loop-line
decreases-loop-line l = length l.records
