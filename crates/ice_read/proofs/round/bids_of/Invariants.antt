use Rattle.std.specs.Prelude.{codes, []}
use Rattle.serde_json.specs.View.{view}
use Rattle.ice_read.specs.Values.{at_member}
use Rattle.ice_read.specs.RoundFile.{bid_at, bids_of_value}
use Rattle.ice_read.proofs.ArrayElements.{SoFar}
use Rattle.ice_read.proofs.round.bids_of.Given as goal

abbrev pub invariant-loop-index : goal.invariant-loop-index
invariant-loop-index l = SoFar bid_at (bids_of_value (view l.file)) (at_member [] (codes "bids")) l.item-items l.index l.bids.items
