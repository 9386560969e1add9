use Rattle.std.proofs.Common.{arith}
use Rattle.std.proofs.lemmas.Int.{ints, clamps}
use Rattle.ice_fair.proofs.held.asked_of.Goals as goal

pub returns-clause-value : goal.returns-clause-value
returns-clause-value c = omega (arith, ints, clamps, c.above_zero.ensures, c.requires.held_low, c.requires.held_high, c.requires.low, c.requires.high)

pub returns-clause-low : goal.returns-clause-low
returns-clause-low c = omega (arith, ints, clamps, c.above_zero.ensures, c.requires.held_low, c.requires.held_high, c.requires.low, c.requires.high)

pub returns-clause-high : goal.returns-clause-high
returns-clause-high c = omega (arith, ints, clamps, c.above_zero.ensures, c.requires.held_low, c.requires.held_high, c.requires.low, c.requires.high)
