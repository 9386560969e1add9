use Rattle.std.proofs.Common.{◌≡◌, ◌^◌, fold, take, pos, ◌≤ℤ◌}
use Rattle.std.specs.Int.{int_max}
use Rattle.ice_certificate.proofs.certified.top.Given as goal

abbrev pub invariant-loop-num : goal.invariant-loop-num
invariant-loop-num l = record {
  top : l.top ≡ fold int_max (pos 0) (take l.num-index l.num-items);
  low : pos 0 ≤ℤ l.top;
  high : l.top ≤ℤ pos (2 ^ 63);
}
