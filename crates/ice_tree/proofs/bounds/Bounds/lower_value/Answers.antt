use Rattle.std.proofs.Common.{arith, cond, pos}
use Rattle.std.proofs.lemmas.Int.{ints}
use Rattle.ice_defs.specs.Set.{has, weight_of}
use Rattle.ice_defs.proofs.Sums.{sum_below_more}
use Rattle.ice_tree.proofs.bounds.Bounds.lower_value.Goals as goal

pub loop-node-preserved : goal.loop-node-preserved
loop-node-preserved c =
    let more = sum_below_more (λ n. cond (has c.args.set.now n) (weight_of c.args.self.now.lo n) (pos 0)) c.loop-node.node in
    let low = c.lower_inside-sum.ensures.low in
    let high = c.lower_inside-sum.ensures.high in
    record {
      sum = omega (arith, ints, more, c.lower_inside-sum.ensures.value);
      low = omega (arith, ints);
      high = omega (arith, ints);
    }
