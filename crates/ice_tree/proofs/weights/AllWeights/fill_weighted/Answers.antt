use Rattle.std.proofs.Common.{◌∙◌, length, sym, arith}
use Rattle.ice_defs.specs.Weighing.{weighted_weights}
use Rattle.ice_tree.proofs.Filling.{all_filled, length-weighted, weights_of-weighted}
use Rattle.ice_tree.proofs.weights.AllWeights.fill_weighted.Goals as goal

pub returns-clause-value : goal.returns-clause-value
returns-clause-value c =
    all_filled c.loop-bidder.self-inside.weights.items (weighted_weights c.args.weight c.args.bounds.now) (length c.args.bounds.now) c.loop-bidder.invariant.count (length-weighted c.args.weight c.args.bounds.now)
    (λ b h. c.loop-bidder.invariant.filled b (omega arith) ∙ sym (weights_of-weighted c.args.weight c.args.bounds.now b h))
