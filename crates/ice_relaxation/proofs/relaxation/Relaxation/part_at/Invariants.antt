use Rattle.std.proofs.Common.{◌≡◌}
use Rattle.std.specs.Prelude.{vec_len}
use Rattle.ice_relaxation.proofs.relaxation.Relaxation.part_at.Given as goal

abbrev pub invariant-loop-tree : goal.invariant-loop-tree
invariant-loop-tree l = vec_len l.self-inside.trees ≡ l.fn.self
