use Rattle.std.proofs.Common.{◌≡◌, ◌<◌, ℕ, length}
use Rattle.ice_bound.specs.Multipliers.{multiplier_of}
use Rattle.ice_bound.proofs.multipliers.Multipliers.copy.Given as goal

abbrev pub invariant-loop-good : goal.invariant-loop-good
invariant-loop-good l = record {
  goods : length l.copy ≡ length l.self;
  copied : (g : ℕ) → g < l.good → multiplier_of l.copy g ≡ multiplier_of l.self g;
}
