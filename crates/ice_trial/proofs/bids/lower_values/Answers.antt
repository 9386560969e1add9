use Rattle.std.proofs.Common.{◌∙◌, sym, subst, arith}
use Rattle.std.proofs.lemmas.List.{take_all}
use Rattle.ice_terms.specs.Bids.{AreValues}
use Rattle.ice_trial.proofs.Bidding.{lower_are_values}
use Rattle.ice_trial.proofs.bids.lower_values.Goals as goal

pub returns-clause-lawful : goal.returns-clause-lawful
returns-clause-lawful c =
    let b = c.args.bounds.now in
    let len = c.len-node-end.ensures in
    subst AreValues (sym (c.loop-node.invariant ∙ take_all c.loop-node.node b.lo (omega (arith, c.loop-node-test.false, len.value)))) (lower_are_values b len.bounds (omega (arith, len.value, len.fits)))
