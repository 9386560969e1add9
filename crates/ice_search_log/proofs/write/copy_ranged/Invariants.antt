use Rattle.std.proofs.Common.{◌≡◌, ◌<◌, ℕ, length}
use Rattle.ice_bound.specs.Multipliers.{multiplier_of, IsInRange}
use Rattle.ice_search_log.proofs.write.copy_ranged.Given as goal

abbrev pub invariant-loop-good : goal.invariant-loop-good
invariant-loop-good l = record {
  goods : length l.copy ≡ length l.m;
  copied : (g : ℕ) → g < l.good → multiplier_of l.copy g ≡ multiplier_of l.m g;
  ranged : (g : ℕ) → g < l.good → IsInRange (multiplier_of l.copy g);
}
