use Rattle.std.proofs.Common.{◌≡◌, length, All}
use Rattle.ice_lp.specs.Limits.{IsNumber}
use Rattle.ice_bench.proofs.full.set_row.Given as goal

abbrev pub invariant-loop-price : goal.invariant-loop-price
invariant-loop-price l = (length l.made.items ≡ l.price-index) × All IsNumber l.made.items
