use Rattle.std.proofs.Common.{◌≡◌, ◌*◌, ◌^◌, pos, ◌+ℤ◌, ◌≤ℤ◌, drop}
use Rattle.ice_defs.specs.Sum.{sum_over}
use Rattle.ice_threshold.specs.CutOff.{cut_num}
use Rattle.ice_threshold.proofs.payments.sum_cut_off.Given as goal

abbrev pub invariant-loop-discount : goal.invariant-loop-discount
invariant-loop-discount l = record {
  sum : l.sum +ℤ sum_over (cut_num l.num l.den) (drop l.discount-index l.vickrey) ≡ sum_over (cut_num l.num l.den) l.vickrey;
  low : pos 0 ≤ℤ l.sum;
  high : l.sum ≤ℤ pos (2 ^ 57 * l.discount-index);
}
