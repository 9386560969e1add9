use Rattle.ice_cutting_planes.specs.Works.{IsMoreWork}
use Rattle.ice_cutting_planes.proofs.stage.CutSearch.run_stage.Given as goal

abbrev pub invariant-loop-turn : goal.invariant-loop-turn
invariant-loop-turn l = IsMoreWork l.fn.work l.work
