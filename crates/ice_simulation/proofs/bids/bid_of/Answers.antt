use Rattle.std.proofs.Common.{length, sym, subst, arith}
use Rattle.ice_terms.specs.Bids.{AreValues}
use Rattle.ice_proxy.proofs.Proposals.{lower_are_values, upper_are_values}
use Rattle.ice_simulation.proofs.bids.bid_of.Goals as goal

pub new-requires-clause-lo : goal.new-requires-clause-lo
new-requires-clause-lo c =
    let b = c.args.bounds.now in
    let len = c.len-nodes.ensures in
    subst AreValues (sym c.lower_values-lo.ensures) (record { few = omega (arith, len.value, len.fits); each = lower_are_values (length b.lo) b len.bounds })

pub new-requires-clause-hi : goal.new-requires-clause-hi
new-requires-clause-hi c =
    let b = c.args.bounds.now in
    let len = c.len-nodes.ensures in
    subst AreValues (sym c.upper_values-hi.ensures) (record { few = omega (arith, len.value, len.fits, len.bounds.hi_count); each = upper_are_values (length b.lo) b len.bounds })
