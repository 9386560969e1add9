use Rattle.std.proofs.Common.{◌≡◌, ◌+◌, length}
use Rattle.ice_bench.proofs.full.drawn.Given as goal

abbrev pub invariant-loop-good : goal.invariant-loop-good
invariant-loop-good l = (length l.program.costs ≡ 33) × (length l.program.rows ≡ l.good)

abbrev pub invariant-loop-set : goal.invariant-loop-set
invariant-loop-set l = (length l.program.costs ≡ 33) × (length l.program.rows ≡ 32 + l._set)
