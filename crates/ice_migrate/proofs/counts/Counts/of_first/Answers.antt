use Rattle.std.proofs.Common.{arith}
use Rattle.ice_migrate.proofs.Coming.{one_less, not_none}
use Rattle.ice_migrate.proofs.counts.Counts.of_first.Goals as goal

pub returns-in_err-line-clause-counts : goal.returns-in_err-line-clause-counts
returns-in_err-line-clause-counts c = λ before after is count.
    absurd (not_none c.loop.records c.next_line.new.self c.loop.counts c.loop.counter before after (omega (arith, count, c.loop-test.true)) (c.loop.invariant.left before after is count) c.in_err-line.ensures.next)

pub loop-preserved : goal.loop-preserved
loop-preserved c = record {
  few = omega (arith, c.loop.invariant.few, c.with-counts.ensures.more);
  shorter = omega (arith, c.loop.invariant.shorter, c.in_ok-line.ensures.shorter);
  left = λ before after is count.
      one_less c.loop.records c.next_line.new.self c.loop.counts c.with-counts.result c.loop.counter before after c.in_ok-line.line (omega (arith, count, c.loop-test.true)) (c.loop.invariant.left before after is count) c.in_ok-line.ensures.next
      c.with-counts.ensures.goods c.with-counts.ensures.bidders;
}
