use Rattle.std.proofs.Common.{◌≡◌, take}
use Rattle.ice_defs.specs.Exchange.{names_of}
use Rattle.ice_trial.specs.Truths.{truth_bids}
use Rattle.ice_trial.proofs.bids.truth_bids.Given as goal

abbrev pub invariant-loop-bidder : goal.invariant-loop-bidder
invariant-loop-bidder l = l.bids.items ≡ take l.bidder (truth_bids (names_of l.exchange) l.truths)
