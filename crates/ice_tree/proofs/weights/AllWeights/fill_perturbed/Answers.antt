use Rattle.std.proofs.Common.{◌∙◌, length, sym, arith}
use Rattle.ice_defs.specs.Weighing.{perturbed_weights}
use Rattle.ice_tree.proofs.Filling.{all_filled}
use Rattle.ice_defs.proofs.Weights.{length-perturbed, weights_of-perturbed}
use Rattle.ice_tree.proofs.weights.AllWeights.fill_perturbed.Goals as goal

pub returns-clause-value : goal.returns-clause-value
returns-clause-value c =
    all_filled c.loop-bidder.self-inside.weights.items (perturbed_weights c.args.chosen.now c.args.bounds.now) (length c.args.bounds.now) c.loop-bidder.invariant.count (length-perturbed c.args.chosen.now c.args.bounds.now)
    (λ b h. c.loop-bidder.invariant.filled b (omega arith) ∙ sym (weights_of-perturbed c.args.chosen.now c.args.bounds.now b h))
