use Rattle.std.proofs.Common.{◌≡◌}
use Rattle.ice_subgradient.proofs.trace.Trace.follow.Given as goal

abbrev pub invariant-loop-find : goal.invariant-loop-find
invariant-loop-find l = l.relaxation ≡ l.fn.relaxation
