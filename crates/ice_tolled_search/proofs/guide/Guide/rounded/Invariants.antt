use Rattle.std.proofs.Common.{◌≡◌, length}
use Rattle.ice_tree.specs.Alike.{HasSetPerTree}
use Rattle.ice_tolled_search.proofs.guide.Guide.rounded.Given as goal

abbrev pub invariant-loop-node : goal.invariant-loop-node
invariant-loop-node l = length l.set ≡ l.nodes

abbrev pub invariant-loop-bidder : goal.invariant-loop-bidder
invariant-loop-bidder l = HasSetPerTree l.trees l.sets
