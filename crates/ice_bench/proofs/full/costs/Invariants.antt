use Rattle.std.proofs.Common.{◌≡◌, length, pos, All, ◌≤ℤ◌}
use Rattle.ice_lp.specs.Limits.{IsNumber}
use Rattle.ice_bench.proofs.full.costs.Given as goal

abbrev pub invariant-loop-good : goal.invariant-loop-good
invariant-loop-good l = (length l.made.items ≡ l._good) × All IsNumber l.made.items × All (λ c. pos 0 ≤ℤ c) l.made.items
