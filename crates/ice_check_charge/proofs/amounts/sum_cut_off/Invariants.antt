use Rattle.std.proofs.Common.{◌≡◌, ◌*◌, ◌^◌, pos, ◌+ℤ◌, ◌≤ℤ◌, drop}
use Rattle.ice_defs.specs.Sum.{sum_over}
use Rattle.ice_threshold.specs.CutOff.{cut_num}
use Rattle.ice_check_charge.specs.Tests.{vickreys_of}
use Rattle.ice_check_charge.proofs.amounts.sum_cut_off.Given as goal

abbrev pub invariant-loop-without : goal.invariant-loop-without
invariant-loop-without l = record {
  sum : l.sum +ℤ sum_over (cut_num l.cut.num l.cut.den) (vickreys_of l.total (drop l.without-index l.withouts)) ≡ sum_over (cut_num l.cut.num l.cut.den) (vickreys_of l.total l.withouts);
  low : pos 0 ≤ℤ l.sum;
  high : l.sum ≤ℤ pos (2 ^ 82 * l.without-index);
}
