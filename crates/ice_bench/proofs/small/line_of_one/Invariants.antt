use Rattle.std.proofs.Common.{◌≡◌, length}
use Rattle.ice_bench.proofs.small.line_of_one.Given as goal

abbrev pub invariant-loop-row : goal.invariant-loop-row
invariant-loop-row l = (length l.program.costs ≡ l.columns) × (length l.program.rows ≡ l._row)
