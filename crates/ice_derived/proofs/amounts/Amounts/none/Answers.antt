use Rattle.std.proofs.Common.{sym, subst}
use Rattle.ice_derived.specs.Ranges.{AreAllAmounts}
use Rattle.ice_derived.proofs.Fitting.{none_amounts}
use Rattle.ice_derived.proofs.amounts.Amounts.none.Goals as goal

pub invariant_of-result : goal.invariant_of-result
invariant_of-result c = subst AreAllAmounts (sym c.in_ok-rows.ensures) (none_amounts c.args.trees.now)
