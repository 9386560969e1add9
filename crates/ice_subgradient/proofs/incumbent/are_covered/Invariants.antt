use Rattle.std.proofs.Common.{ℕ, ◌<◌, pos}
use Rattle.ice_defs.specs.Trade.{is_exact, IsCovered, total_units}
use Rattle.ice_subgradient.proofs.incumbent.are_covered.Given as goal

abbrev pub invariant-loop-good : goal.invariant-loop-good
invariant-loop-good l = (g : ℕ) → g < l.good → IsCovered (is_exact l.kept.exact g) (total_units l.kept.trees l.kept.sets g) (pos 0)
