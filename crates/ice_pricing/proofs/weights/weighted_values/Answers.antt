use Rattle.std.proofs.Common.{◌≡◌, rules, subst}
use Rattle.ice_tree.specs.Alike.{AreAlike}
use Rattle.ice_pricing.proofs.Weighing.{zeros-alike, weighted-nodes, weighted-each}
use Rattle.ice_pricing.proofs.weights.weighted_values.Goals as goal

pub fill_weighted-requires-clause-alike : goal.fill_weighted-requires-clause-alike
fill_weighted-requires-clause-alike c =
    subst (λ ws. AreAlike ws c.args.bounds.now) (let made : _ ≡ c.in_ok-weights.weights = search rules in made) (zeros-alike c.args.exchange.now c.args.bounds.now c.requires)

pub returns-clause-nodes : goal.returns-clause-nodes
returns-clause-nodes c = rw c.fill_weighted-2.ensures.value (weighted-nodes c.args.exchange.now c.args.bounds.now c.fill_weighted.inside.weight c.requires)

pub returns-clause-modest : goal.returns-clause-modest
returns-clause-modest c = rw c.fill_weighted-2.ensures.value (weighted-each c.args.exchange.now c.args.bounds.now c.fill_weighted.inside.weight c.fill_weighted.invariant.weight c.requires)
