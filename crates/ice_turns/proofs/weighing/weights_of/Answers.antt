use Rattle.std.proofs.Common.{refl, ◌<◌, length, rules}
use Rattle.ice_turns.proofs.LargeWeights.{stop-large}
use Rattle.ice_turns.proofs.weighing.weights_of.Goals as goal

pub returns-in-None-clause-stopped : goal.returns-in-None-clause-stopped
returns-in-None-clause-stopped c =
    let there : c.loop-dual.dual-index < length c.args.duals.now = search rules in
    (refl, stop-large c.args.most c.args.factor c.args.duals.now c.loop-dual.dual-index c.dual-item.result there c.dual-item.is c.in-None.ensures.none)
