use Rattle.std.proofs.Common.{◌≤◌}
use Rattle.ice_cutting_planes.proofs.stage.CutSearch.add_sets.Given as goal

abbrev pub invariant-loop-step : goal.invariant-loop-step
invariant-loop-step l = l.added ≤ l.step
