use Rattle.std.proofs.Common.{take}
use Rattle.ice_pricing.proofs.Divisors.{IsShared}
use Rattle.ice_pricing.proofs.limits.are_lowest.Given as goal

abbrev pub invariant-loop-num : goal.invariant-loop-num
invariant-loop-num l = IsShared l.prices.den (take l.num-index l.num-items) l.shared
