use Rattle.std.proofs.Common.{arith}
use Rattle.ice_turns.proofs.Multiples.{none_if, large-drop}
use Rattle.ice_turns.proofs.fractions.common_den.Goals as goal

pub returns-in_err-den-clause-none : goal.returns-in_err-den-clause-none
returns-in_err-den-clause-none c =
    none_if c.from_residual.result
    (large-drop c.args.most c.args.fractions.now c.loop-place.place c.index-fractions-place.result c.loop-place.den c.requires.fractions (omega arith) (omega arith) c.index-fractions-place.is c.loop-place.invariant c.in_err-den.ensures.none)
