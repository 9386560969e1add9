use Rattle.std.proofs.Common.{ℕ, ◌<◌}
use Rattle.ice_defs.specs.Set.{weight_of}
use Rattle.ice_trade.specs.Excess.{IsBalanced}
use Rattle.ice_trade.proofs.feasible.first_excess.Given as goal

abbrev pub invariant-loop-good : goal.invariant-loop-good
invariant-loop-good l = (g : ℕ) → g < l.good → IsBalanced l.exact (weight_of l.units) g
