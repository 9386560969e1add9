use Rattle.std.proofs.Common.{◌≡◌, ◌-ℤ◌, ◌<ℤ◌, rules, sym, ◌∙◌, ap, subst, to_z, of_z}
use mir.Syntax.{w128}
use Rattle.ice_rules.proofs.Losses.{gains_from, gains_give}
use Rattle.ice_rules.proofs.gains.least_gain.Goals as goal

pub returns : goal.returns
returns c = λ least.
    let same : to_z w128 (of_z w128 (to_z w128 (of_z w128 c.best_at_prices-best.result.net) -ℤ to_z w128 (of_z w128 c.net.result))) ≡ c.best_at_prices-best.result.net -ℤ c.net.result = search rules in
    let whole = same ∙ ap (λ z. c.best_at_prices-best.result.net -ℤ z) c.net.ensures.value in (
      λ gains. subst (λ z. least <ℤ z) (sym whole)
          (gains_give c.args.at.now.tree.now c.args.at.now.prices.now c.args.at.now.bounds.now c.requires.nodes c.args.at.now.set.now c.in_favour-weights.result c.best_at_prices-best.result.set c.best_at_prices-best.result.net least
          c.in_favour-weights.ensures.values c.in_favour-weights.ensures.bounds.ordered c.best_at_prices-best.ensures.best gains),
      λ less.
          gains_from c.args.at.now.tree.now c.args.at.now.prices.now c.args.at.now.bounds.now c.requires.nodes c.args.at.now.set.now c.in_favour-weights.result c.best_at_prices-best.result.set c.best_at_prices-best.result.net least
          c.requires.satisfied c.in_favour-weights.ensures.values c.best_at_prices-best.ensures.best (subst (λ z. least <ℤ z) whole less),
    )
