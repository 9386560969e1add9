use Rattle.ice_bound.proofs.Fixings.{marked_fixings}
use Rattle.ice_test_bound.proofs.duals.mark.Goals as goal

pub returns : goal.returns
returns c = rw c.mark.ensures (marked_fixings c.args.trees.now c.args.marks.now c.args.bidder c.args.node c.args.mark c.requires.marks)
