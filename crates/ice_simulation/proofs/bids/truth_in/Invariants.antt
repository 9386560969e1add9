use Rattle.std.proofs.Common.{◌≡◌, drop}
use Rattle.ice_simulation.specs.TruthFile.{truth_in}
use Rattle.ice_simulation.proofs.bids.truth_in.Given as goal

abbrev pub invariant-loop-bid : goal.invariant-loop-bid
invariant-loop-bid l = truth_in l.bids l.name ≡ truth_in (drop l.bid-index l.bids) l.name
