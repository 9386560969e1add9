use Rattle.std.proofs.Common.{◌≡◌, length, All}
use Rattle.ice_lp.specs.Limits.{IsNumber}
use Rattle.ice_bench.proofs.full.cap_row.Given as goal

abbrev pub invariant-loop-column : goal.invariant-loop-column
invariant-loop-column l = (length l.made.items ≡ l.column) × All IsNumber l.made.items
