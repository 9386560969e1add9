use Rattle.std.proofs.Common.{ℕ, ◌<◌}
use Rattle.ice_defs.specs.Fixing.{Agrees, mark_of}
use Rattle.ice_defs.specs.Set.{has}
use Rattle.ice_search.proofs.candidates.meets.Given as goal

abbrev pub invariant-loop-node : goal.invariant-loop-node
invariant-loop-node l = (n : ℕ) → n < l.node → Agrees (mark_of l.fixing n) (has l.set n)
