use Rattle.std.proofs.Common.{◌≡◌, ◌<◌, ℕ, false, pos, get_or}
use Rattle.std.specs.Prelude.{◌<ℤ◌}
use Rattle.ice_defs.specs.Trade.{is_exact}
use Rattle.ice_derived.proofs.leaf.has_wrong_rate.Given as goal

abbrev pub invariant-loop-good : goal.invariant-loop-good
invariant-loop-good l = (g : ℕ) → g < l.good → is_exact l.room g ≡ false → get_or l.m g (pos 0) <ℤ pos 0 → ⊥
