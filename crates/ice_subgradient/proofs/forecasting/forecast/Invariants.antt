use Rattle.std.proofs.Common.{◌≡◌}
use Rattle.ice_subgradient.proofs.forecasting.forecast.Given as goal

abbrev pub invariant-loop-good : goal.invariant-loop-good
invariant-loop-good l = l.relaxation ≡ l.fn.relaxation
