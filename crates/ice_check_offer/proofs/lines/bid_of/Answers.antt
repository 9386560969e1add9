use Rattle.std.proofs.Common.{sym, subst}
use Rattle.ice_terms.specs.Bids.{AreValues}
use Rattle.ice_check_offer.proofs.Values.{are_values}
use Rattle.ice_check_offer.proofs.lines.bid_of.Goals as goal

pub new-requires-clause-lo : goal.new-requires-clause-lo
new-requires-clause-lo c = subst AreValues (sym c.widened.ensures) (are_values c.args.lo.now c.requires.lo_count c.requires.lo)

pub new-requires-clause-hi : goal.new-requires-clause-hi
new-requires-clause-hi c = subst AreValues (sym c.widened-2.ensures) (are_values c.args.hi.now c.requires.hi_count c.requires.hi)
