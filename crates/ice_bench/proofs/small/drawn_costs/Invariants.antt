use Rattle.std.proofs.Common.{◌≡◌, length, pos, All, ◌≤ℤ◌}
use Rattle.ice_lp.specs.Limits.{IsNumber}
use Rattle.ice_bench.proofs.small.drawn_costs.Given as goal

abbrev pub invariant-loop-column : goal.invariant-loop-column
invariant-loop-column l = (length l.made.items ≡ l._column) × All IsNumber l.made.items × All (λ c. pos 0 ≤ℤ c) l.made.items
