use Rattle.std.proofs.Common.{◌≡◌, ◌*◌, ◌^◌, pos, neg_ℤ, ◌≤ℤ◌, ◌*ℤ◌}
use Rattle.ice_defs.specs.Sum.{sum_below}
use Rattle.ice_defs.specs.Prices.{price_of}
use Rattle.ice_defs.specs.Set.{weight_of}
use Rattle.ice_fair.proofs.gaps.own_cost.Given as goal

abbrev pub invariant-loop-good : goal.invariant-loop-good
invariant-loop-good l = record {
  sum : l.sum ≡ sum_below (λ g. price_of l.prices g *ℤ weight_of l.units g) l.good;
  low : neg_ℤ (pos (l.good * 2 ^ 80)) ≤ℤ l.sum;
  high : l.sum ≤ℤ pos (l.good * 2 ^ 80);
}
