use Rattle.std.proofs.Common.{pos, ◌<ℤ◌}
use Rattle.ice_cutting_planes.proofs.numbers.divisor_of.Given as goal

abbrev pub invariant-loop-other : goal.invariant-loop-other
invariant-loop-other l = pos 0 <ℤ l.shared
