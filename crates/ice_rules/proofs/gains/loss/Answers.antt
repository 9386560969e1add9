use Rattle.std.proofs.Common.{◌≡◌, ◌-ℤ◌, arith, rules, sym, ◌∙◌, ap, subst, to_z, of_z}
use mir.Syntax.{w128}
use Rattle.std.proofs.lemmas.Int.{ints}
use Rattle.ice_defs.specs.Rules.{IsLoss}
use Rattle.ice_rules.proofs.Losses.{loss_is, loss_not_negative}
use Rattle.ice_rules.proofs.gains.loss.Goals as goal

pub returns-clause-loss : goal.returns-clause-loss
returns-clause-loss c =
    let same : to_z w128 (of_z w128 (to_z w128 (of_z w128 c.best_at_prices-best.result.net) -ℤ to_z w128 (of_z w128 c.net.result))) ≡ c.best_at_prices-best.result.net -ℤ c.net.result = search rules in
    subst (λ z. IsLoss c.args.at.now.tree.now c.args.at.now.prices.now c.args.at.now.set.now c.args.at.now.bounds.now z) (sym (same ∙ ap (λ z. c.best_at_prices-best.result.net -ℤ z) c.net.ensures.value))
    (loss_is c.args.at.now.tree.now c.args.at.now.prices.now c.args.at.now.bounds.now c.requires.nodes c.args.at.now.set.now c.against-weights.result c.best_at_prices-best.result.set c.best_at_prices-best.result.net
    c.requires.satisfied c.against-weights.ensures.values c.against-weights.ensures.bounds.ordered c.best_at_prices-best.ensures.best)

pub returns-clause-not_negative : goal.returns-clause-not_negative
returns-clause-not_negative c =
    let same : to_z w128 (of_z w128 (to_z w128 (of_z w128 c.best_at_prices-best.result.net) -ℤ to_z w128 (of_z w128 c.net.result))) ≡ c.best_at_prices-best.result.net -ℤ c.net.result = search rules in
    let low = loss_not_negative c.args.at.now.tree.now c.args.at.now.prices.now c.args.at.now.bounds.now c.requires.nodes c.args.at.now.set.now c.against-weights.result c.best_at_prices-best.result.set
    c.best_at_prices-best.result.net c.requires.satisfied c.best_at_prices-best.ensures.best in
    rw same (omega (arith, ints, low, c.net.ensures.value))
