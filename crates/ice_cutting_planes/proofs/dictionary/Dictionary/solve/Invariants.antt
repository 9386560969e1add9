use Rattle.ice_cutting_planes.specs.Works.{IsMoreWork}
use Rattle.ice_cutting_planes.proofs.dictionary.Dictionary.solve.Given as goal

abbrev pub invariant-loop-pivot : goal.invariant-loop-pivot
invariant-loop-pivot l = IsMoreWork l.fn.work l.work
