use Rattle.ice_defs.specs.Conditions.{AreFixingsOf}
use Rattle.ice_tolled_search.proofs.guide.Guide.choose.Given as goal

abbrev pub invariant-loop-one : goal.invariant-loop-one
invariant-loop-one l = AreFixingsOf l.trees l.marks
