use Rattle.std.proofs.Common.{arith}
use Rattle.ice_bound.proofs.Living.{live_not_dead}
use Rattle.ice_mult.proofs.sweep.sweep.Goals as goal

pub invariant_of-moving : goal.invariant_of-moving
invariant_of-moving c = record {
  few = c.requires.few;
  weighted = c.requires.weights;
  marked = c.requires.fixings;
  live = λ (b, (there, dead)). live_not_dead c.args.trees.now c.args.fixings.now b c.requires.live there dead;
  there = omega (arith, c.loop-good-test.true, c.goods-good-end.ensures.value, c.loop-good.invariant.goods);
}
