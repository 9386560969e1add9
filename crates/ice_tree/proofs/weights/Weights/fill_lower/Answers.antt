use Rattle.std.proofs.Common.{arith}
use Rattle.ice_tree.proofs.Filling.{lower_filled}
use Rattle.ice_tree.proofs.weights.Weights.fill_lower.Goals as goal

pub returns-clause-value : goal.returns-clause-value
returns-clause-value c = lower_filled c.loop-node.self c.args.bounds.now.lo c.loop-node.invariant.same (λ k h. c.loop-node.invariant.filled k (omega arith))
