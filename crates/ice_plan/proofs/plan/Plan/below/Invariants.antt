use Rattle.std.proofs.Common.{◌≤◌, length}
use Rattle.ice_plan.proofs.plan.Plan.below.Given as goal

abbrev pub invariant-loop-number : goal.invariant-loop-number
invariant-loop-number l = length l.plan ≤ l.number
