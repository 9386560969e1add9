use Rattle.ice_defs.specs.Sweep.{idle, moves}
use Rattle.ice_mult.proofs.Found.{sum_is_live}
use Rattle.ice_mult.proofs.kept.improve_kept.Goals as goal

pub sweep_kept-requires-clause-live : goal.sweep_kept-requires-clause-live
sweep_kept-requires-clause-live c =
    sum_is_live c.args.kept.now.trees c.args.kept.now.weights c.args.kept.now.multipliers c.args.kept.now.marks c.in-Sum.field-0 c.in-Sum.ensures.answer

pub returns-in-Sum-clause-sweeps : goal.returns-in-Sum-clause-sweeps
returns-in-Sum-clause-sweeps c =
    moves (sum_is_live c.args.kept.now.trees c.args.kept.now.weights c.args.kept.now.multipliers c.args.kept.now.marks c.in-Sum.field-0 c.in-Sum.ensures.answer) c.sweep_kept.ensures.sweeps

pub returns-in-Dead-clause-sweeps : goal.returns-in-Dead-clause-sweeps
returns-in-Dead-clause-sweeps c = idle (c.in-Dead.field-0, (c.in-Dead.ensures.answer.there, c.in-Dead.ensures.answer.dead))
