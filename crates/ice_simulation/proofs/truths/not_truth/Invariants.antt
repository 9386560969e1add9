use Rattle.std.proofs.Common.{◌≡◌, take, drop, []}
use Rattle.ice_simulation.specs.TruthFile.{not_truth_from}
use Rattle.ice_simulation.proofs.truths.not_truth.Given as goal

abbrev pub invariant-loop-index : goal.invariant-loop-index
invariant-loop-index l = not_truth_from l.exchange 0 [] l.bids ≡ not_truth_from l.exchange l.index (take l.index l.bids) (drop l.index l.bids)
