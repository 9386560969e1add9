use Rattle.ice_fair.specs.Trades.{num_at, paid_by}
use Rattle.ice_fair.proofs.Nearness.{IsGapBelow}
use Rattle.ice_fair.proofs.gaps.greatest_gap.Given as goal

abbrev pub invariant-loop-bidder : goal.invariant-loop-bidder
invariant-loop-bidder l = IsGapBelow (paid_by l.paid.trade l.paid.cut l.paid.nums.now) l.prices l.paid.cut (num_at l.paid.nums.now) l.bidder l.greatest
