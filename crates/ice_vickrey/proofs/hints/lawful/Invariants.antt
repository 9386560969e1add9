use Rattle.ice_defs.specs.Conditions.{AreMultipliersOf}
use Rattle.ice_vickrey.proofs.hints.lawful.Given as goal

abbrev pub invariant-loop-good : goal.invariant-loop-good
invariant-loop-good l = AreMultipliersOf l.exact l.made
