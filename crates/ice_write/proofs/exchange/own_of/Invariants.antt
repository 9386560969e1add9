use Rattle.std.proofs.Common.{◌≡◌, ◌≤◌, length, take}
use Rattle.std.specs.List.{AllByRecursion}
use Rattle.ice_write.specs.Bidders.{bidder_of}
use Rattle.ice_write.proofs.exchange.own_of.Given as goal

abbrev pub invariant-loop-good : goal.invariant-loop-good
invariant-loop-good l =
    (l.own.items ≡ take l.good (bidder_of l.exchange l.bidder).own) × (length l.own.items ≡ l.good) × AllByRecursion (λ amount. amount ≤ 1000000) l.own.items
