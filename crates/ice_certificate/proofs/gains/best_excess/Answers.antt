use Rattle.std.proofs.Common.{◌≡◌, ◌∙◌, ap, sym, ◌-ℤ◌, arith, to_z, of_z}
use mir.Syntax.{w128}
use Rattle.std.proofs.lemmas.Int.{ints}
use Rattle.ice_defs.specs.Rules.{net_at}
use Rattle.ice_best_at_prices.specs.Net.{IsBestAtPrices}
use Rattle.ice_certificate.proofs.gains.best_excess.Goals as goal

pub returns-clause-greatest : goal.returns-clause-greatest
returns-clause-greatest c =
    let made : to_z w128 (of_z w128 (to_z w128 (of_z w128 c.best_at_prices-best.result.net) -ℤ to_z w128 (of_z w128 c.net.result))) ≡ c.best_at_prices-best.result.net -ℤ c.net.result =
    omega (arith, ints, c.best_at_prices-best.ensures.low, c.best_at_prices-best.ensures.high, c.net.ensures.low, c.net.ensures.high) in
    let best : IsBestAtPrices c.args.tree.now c.args.weights.now 100 c.args.prices.now c.best_at_prices-best.result.set c.best_at_prices-best.result.net = c.best_at_prices-best.ensures.best in
    record {
      satisfied = best.satisfied;
      has = ap (λ z. z -ℤ net_at c.args.tree.now c.args.prices.now 100 c.args.weights.now c.args.own.now) best.has
          ∙ ap (λ z. c.best_at_prices-best.result.net -ℤ z) (sym c.net.ensures.value) ∙ sym made;
      greatest = λ other h. omega (arith, ints, made, best.greatest other h, c.net.ensures.value);
    }
