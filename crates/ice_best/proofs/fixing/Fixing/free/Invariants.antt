use Rattle.std.proofs.Common.{◌≡◌}
use Rattle.std.specs.Prelude.{replicate}
use Rattle.ice_defs.specs.declared.Mark.TheVariants.{Free}
use Rattle.ice_best.proofs.fixing.Fixing.free.Given as goal

abbrev pub invariant-loop-node : goal.invariant-loop-node
invariant-loop-node l = l.marks.items ≡ replicate l._node Free
