use Rattle.ice_defs.specs.Conditions.{AreMultipliersOf}
use Rattle.ice_subgradient.proofs.polishing.multipliers_of.Given as goal

abbrev pub invariant-loop-good : goal.invariant-loop-good
invariant-loop-good l = AreMultipliersOf l.kept.exact l.m
