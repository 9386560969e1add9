use Rattle.std.proofs.Common.{◌≡◌, length, drop}
use Rattle.std.specs.List.{AllByRecursion}
use Rattle.ice_edge.specs.Puts.{TakesAllBut}
use Rattle.ice_refute.specs.Code.{CountsGoods}
use Rattle.ice_journal.specs.Records.{version_2}
use Rattle.ice_journal.specs.Ranges.{IsStepRecord}
use Rattle.ice_journal.specs.Plain.{all_zero}
use Rattle.ice_journal.specs.Journal.{bytes_of}
use Rattle.ice_journal_laws.specs.Showing.{step_records}
use Rattle.ice_write.proofs.group.put_steps.Given as goal

abbrev pub invariant-loop-step : goal.invariant-loop-step
invariant-loop-step g l = record {
  count : length l.multipliers ≡ l.goods;
  counts : AllByRecursion (CountsGoods l.goods) (drop l.step-index l.log);
  steps : AllByRecursion IsStepRecord (drop l.step-index l.log);
  left : TakesAllBut (bytes_of (step_records version_2 l.multipliers (drop l.step-index l.log))) (bytes_of (step_records version_2 (all_zero l.goods) l.log))
      (g.K.Sink.taken l.initial.out) (g.K.Sink.taken l.out);
}
