use Rattle.std.proofs.Common.{◌≡◌, ℕ, ◌<◌, None}
use Rattle.ice_defs.specs.SetFault.{fault_at}
use Rattle.ice_tree.proofs.tree.Tree.is_satisfied.Given as goal

abbrev pub invariant-loop-node : goal.invariant-loop-node
invariant-loop-node l = (k : ℕ) → k < l.node → fault_at l.self l.set k ≡ None
