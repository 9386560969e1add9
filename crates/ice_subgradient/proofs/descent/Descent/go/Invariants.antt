use Rattle.std.proofs.Common.{◌≡◌}
use Rattle.ice_subgradient.proofs.descent.Descent.go.Given as goal

abbrev pub invariant-loop-step : goal.invariant-loop-step
invariant-loop-step l = l.relaxation ≡ l.fn.relaxation
