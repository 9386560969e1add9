use Rattle.std.proofs.Common.{◌≡◌, List, length}
use Rattle.ice_journal.specs.Records.{Record}
use Rattle.ice_journal.specs.Journal.{IsJournal}
use Rattle.ice_migrate.proofs.Puts.{IsPutSoFar}
use Rattle.ice_migrate.proofs.packing.put_behind_head.Given as goal

abbrev pub invariant-loop-line : goal.invariant-loop-line
invariant-loop-line g l = record {
  goods : l.packing.goods ≡ l.goods;
  left : (left : List Record) → IsJournal l.initial.records left
      → IsPutSoFar l.goods l.packing l.gathered l.records left (g.K.Sink.taken l.initial.out) (g.K.Sink.taken l.out);
}

abbrev pub decreases-loop-line : goal.decreases-loop-line
decreases-loop-line g l = length l.records
