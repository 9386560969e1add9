use Rattle.ice_rules.proofs.Reflected.{centre_is_good}
use Rattle.ice_rules.proofs.gains.best_at_centre.Goals as goal

pub returns-clause-good : goal.returns-clause-good
returns-clause-good c =
    centre_is_good c.args.at.now.tree.now c.args.at.now.prices.now c.args.at.now.bounds.now c.centre.result c.best_at_prices.result.set c.best_at_prices.result.net c.requires c.centre.ensures.values c.best_at_prices.ensures.best
