use Rattle.std.proofs.Common.{◌≡◌, ◌*◌, ◌^◌, pos, ◌≤ℤ◌, ◌+ℤ◌, ◌*ℤ◌}
use Rattle.std.specs.Int.{int_max}
use Rattle.ice_defs.specs.Sum.{sum_below}
use Rattle.ice_row_laws.specs.Sums.{units_in}
use Rattle.ice_fair.specs.Trades.{held_units_by}
use Rattle.ice_fair.proofs.held.asked.Given as goal

abbrev pub invariant-loop-good : goal.invariant-loop-good
invariant-loop-good l = record {
  sum : l.sum ≡ sum_below (λ g. int_max (held_units_by l.trade l.low l.high g +ℤ (pos 100 *ℤ units_in l.sums g)) (pos 0)) l.good;
  low : pos 0 ≤ℤ l.sum;
  high : l.sum ≤ℤ pos (l.good * 2 ^ 66);
}
