use Rattle.ice_pricing.proofs.Violations.{IsGreatestBelow}
use Rattle.ice_pricing.proofs.provisional.Provisional.violation.Given as goal

abbrev pub invariant-loop-bidder : goal.invariant-loop-bidder
invariant-loop-bidder l = IsGreatestBelow l.self l.prices l.bidder l.greatest
