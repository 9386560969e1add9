use Rattle.std.proofs.Common.{arith}
use Rattle.ice_journal.specs.Plain.{goods_in}
use Rattle.ice_migrate.proofs.Coming.{one_counted}
use Rattle.ice_migrate.proofs.counts.Counts.of_all.Goals as goal

pub loop-line-preserved : goal.loop-line-preserved
loop-line-preserved c = record {
  few = omega (arith, c.loop-line.invariant.few, c.in-Some.ensures.shorter, c.with-counts.ensures.more);
  left = λ journal is.
      one_counted c.loop-line.records c.next_line.new.self c.loop-line.counts.goods c.with-counts.result.goods (goods_in journal) c.in-Some.line (c.loop-line.invariant.left journal is) c.in-Some.ensures.next c.with-counts.ensures.goods;
}
