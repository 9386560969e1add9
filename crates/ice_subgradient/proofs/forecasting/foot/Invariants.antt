use Rattle.std.proofs.Common.{◌≡◌}
use Rattle.ice_subgradient.proofs.forecasting.foot.Given as goal

abbrev pub invariant-loop-stride : goal.invariant-loop-stride
invariant-loop-stride l = l.relaxation ≡ l.fn.relaxation

abbrev pub invariant-loop-crossing : goal.invariant-loop-crossing
invariant-loop-crossing l = l.relaxation ≡ l.fn.relaxation
