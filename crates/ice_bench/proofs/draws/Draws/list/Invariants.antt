use Rattle.std.proofs.Common.{◌≡◌, length, All}
use Rattle.ice_lp.specs.Limits.{IsNumber}
use Rattle.ice_bench.proofs.draws.Draws.list.Given as goal

abbrev pub invariant-loop-place : goal.invariant-loop-place
invariant-loop-place l = (length l.made.items ≡ l._place) × All IsNumber l.made.items
