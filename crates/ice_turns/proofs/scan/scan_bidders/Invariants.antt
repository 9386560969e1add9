use Rattle.ice_turns.specs.Scans.{AreAllowed}
use Rattle.ice_turns.proofs.scan.scan_bidders.Given as goal

abbrev pub invariant-loop-bidder : goal.invariant-loop-bidder
invariant-loop-bidder l = AreAllowed l.trade l.prices l.most l.bidder
