use Rattle.std.proofs.Common.{refl, ◌<◌, length, rules}
use Rattle.ice_turns.proofs.LargeWeights.{stop-num}
use Rattle.ice_turns.proofs.weighing.numerators.Goals as goal

pub returns-in-None-clause-stopped : goal.returns-in-None-clause-stopped
returns-in-None-clause-stopped c =
    let there : c.loop-weight.weight-index < length c.args.weights.now = search rules in
    (refl, stop-num c.args.most c.args.den c.args.weights.now c.loop-weight.weight-index c.weight-item.result there c.weight-item.is c.in-None.ensures.none)
