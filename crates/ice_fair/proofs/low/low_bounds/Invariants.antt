use Rattle.std.proofs.Common.{◌≡◌, take}
use Rattle.ice_fair_laws.specs.Fair.{low_bounds}
use Rattle.ice_fair.proofs.low.low_bounds.Given as goal

abbrev pub invariant-loop-bidder : goal.invariant-loop-bidder
invariant-loop-bidder l = l.low.items ≡ take l.bidder (low_bounds l.bounds)
