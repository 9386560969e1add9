use Rattle.std.proofs.Common.{◌≡◌}
use Rattle.ice_subgradient.proofs.trial.most_promising.Given as goal

abbrev pub invariant-loop-candidate : goal.invariant-loop-candidate
invariant-loop-candidate l = l.relaxation ≡ l.fn.relaxation
