use Rattle.std.proofs.Common.{◌≡◌, ◌≤◌, ◌+◌, ◌*◌, ◌^◌, pos, ◌+ℤ◌, ◌≤ℤ◌, drop}
use Rattle.ice_threshold.specs.Level.{level_sum, level_count}
use Rattle.ice_threshold.proofs.cut.at_or_above.Given as goal

abbrev pub invariant-loop-discount : goal.invariant-loop-discount
invariant-loop-discount l = record {
  sum : l.level.sum +ℤ level_sum l.least (drop l.discount-index l.vickrey) ≡ level_sum l.least l.vickrey;
  count : l.level.count + level_count l.least (drop l.discount-index l.vickrey) ≡ level_count l.least l.vickrey;
  low : pos 0 ≤ℤ l.level.sum;
  high : l.level.sum ≤ℤ pos (10 ^ 15 * l.discount-index);
  few : l.level.count ≤ l.discount-index;
}
