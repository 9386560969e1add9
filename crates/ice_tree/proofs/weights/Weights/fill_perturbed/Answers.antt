use Rattle.std.proofs.Common.{arith}
use Rattle.ice_tree.proofs.Filling.{perturbed_filled}
use Rattle.ice_tree.proofs.weights.Weights.fill_perturbed.Goals as goal

pub returns-clause-value : goal.returns-clause-value
returns-clause-value c =
    perturbed_filled c.args.chosen.now c.loop-node.self c.args.bounds.now.lo c.args.bounds.now.hi c.loop-node.invariant.same c.len-node-end.ensures.bounds.hi_count
    (λ k h. c.loop-node.invariant.filled k (omega arith))
