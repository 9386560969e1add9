use Rattle.std.proofs.Common.{◌≡◌, drop, reverse}
use Rattle.ice_refute.specs.Code.{steps_of}
use Rattle.ice_plan.specs.Arena.{nodes_of}
use Rattle.ice_planner.specs.Branches.{branches_of}
use Rattle.ice_planner.proofs.from_log.plan_of_log.Given as goal

abbrev pub invariant-loop-number : goal.invariant-loop-number
invariant-loop-number l = nodes_of l.plan ≡ reverse (branches_of (steps_of (drop l.number l.steps)))
