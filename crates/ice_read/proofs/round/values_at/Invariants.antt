use Rattle.serde_json.specs.View.{view}
use Rattle.ice_read.proofs.RoundParts.{AreReadSoFar}
use Rattle.ice_read.proofs.round.values_at.Given as goal

abbrev pub invariant-loop-index : goal.invariant-loop-index
invariant-loop-index l = AreReadSoFar (view l.value) l.item-items l.index l.values.items
