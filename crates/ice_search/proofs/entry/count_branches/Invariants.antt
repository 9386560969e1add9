use Rattle.std.proofs.Common.{◌≡◌, ◌+◌, drop}
use Rattle.ice_defs.specs.Steps.{branch_count}
use Rattle.ice_refute.specs.Code.{steps_of}
use Rattle.ice_search.proofs.entry.count_branches.Given as goal

abbrev pub invariant-loop-step : goal.invariant-loop-step
invariant-loop-step l = l.count + branch_count (steps_of (drop l.step-index l.step-items)) ≡ branch_count l.log
