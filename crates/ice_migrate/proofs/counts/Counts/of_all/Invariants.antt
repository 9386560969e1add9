use Rattle.std.proofs.Common.{◌≡◌, ◌+◌, ◌≤◌, List, length}
use Rattle.ice_journal.specs.Records.{Record}
use Rattle.ice_journal.specs.Journal.{IsJournal}
use Rattle.ice_journal.specs.Plain.{goods_in}
use Rattle.ice_migrate.proofs.counts.Counts.of_all.Given as goal

abbrev pub invariant-loop-line : goal.invariant-loop-line
invariant-loop-line l = record {
  few : l.counts.goods + l.counts.bidders + length l.records ≤ length l.bytes;
  left : (journal : List Record) → IsJournal l.bytes journal → (rest : List Record) × IsJournal l.records rest × (l.counts.goods + goods_in rest ≡ goods_in journal);
}

abbrev pub decreases-loop-line : goal.decreases-loop-line
decreases-loop-line l = length l.records
