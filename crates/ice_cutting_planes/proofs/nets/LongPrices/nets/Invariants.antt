use Rattle.std.proofs.Common.{◌≡◌, length}
use Rattle.ice_cutting_planes.proofs.nets.LongPrices.nets.Given as goal

abbrev pub invariant-loop-node : goal.invariant-loop-node
invariant-loop-node l = length l.nets ≡ length l.tree
