use Rattle.std.proofs.Common.{◌≡◌, ◌*◌, ◌^◌, pos, ◌≤ℤ◌}
use Rattle.std.specs.Int.{int_max}
use Rattle.ice_defs.specs.Sum.{sum_below}
use Rattle.ice_defs.specs.Set.{weight_of}
use Rattle.ice_certificate.proofs.sums.sum_above_zero.Given as goal

abbrev pub invariant-loop-good : goal.invariant-loop-good
invariant-loop-good l = record {
  sum : l.sum ≡ sum_below (λ g. int_max (weight_of l.sums g) (pos 0)) l.good;
  low : pos 0 ≤ℤ l.sum;
  high : l.sum ≤ℤ pos (l.good * 2 ^ 59);
}
