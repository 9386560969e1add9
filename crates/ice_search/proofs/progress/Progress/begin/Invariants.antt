use Rattle.ice_search.specs.Instance.{IsIncumbentOf}
use Rattle.ice_search.proofs.progress.Progress.begin.Given as goal

abbrev pub invariant-loop-candidate : goal.invariant-loop-candidate
invariant-loop-candidate l = IsIncumbentOf l.problem l.incumbent.sets l.incumbent.value
