use Rattle.std.proofs.Common.{◌≡◌, map, take}
use Rattle.ice_defs.specs.PricingRun.{num_over}
use Rattle.ice_fair.proofs.last.nums_of.Given as goal

abbrev pub invariant-loop-payment : goal.invariant-loop-payment
invariant-loop-payment l = l.nums.items ≡ map (num_over l.cut) (take l.payment-index l.payments)
