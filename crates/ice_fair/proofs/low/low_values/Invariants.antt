use Rattle.std.proofs.Common.{◌≡◌, take}
use Rattle.ice_fair.proofs.low.low_values.Given as goal

abbrev pub invariant-loop-node : goal.invariant-loop-node
invariant-loop-node l = l.values.items ≡ take l.node l.bounds.lo
