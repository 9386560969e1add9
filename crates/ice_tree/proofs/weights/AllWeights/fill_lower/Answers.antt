use Rattle.std.proofs.Common.{◌∙◌, length, sym, arith}
use Rattle.ice_defs.specs.Weighing.{lower_weights}
use Rattle.ice_tree.proofs.Filling.{all_filled, length-lower}
use Rattle.ice_defs.proofs.Weights.{weights_of-lower}
use Rattle.ice_tree.proofs.weights.AllWeights.fill_lower.Goals as goal

pub returns-clause-value : goal.returns-clause-value
returns-clause-value c =
    all_filled c.loop-bidder.self-inside.weights.items (lower_weights c.args.bounds.now) (length c.args.bounds.now) c.loop-bidder.invariant.count (length-lower c.args.bounds.now)
    (λ b h. c.loop-bidder.invariant.filled b (omega arith) ∙ sym (weights_of-lower c.args.bounds.now b h))
