use Rattle.std.proofs.Common.{ℕ, ◌<◌, ◌≡◌, length}
use Rattle.ice_search.specs.Nodes.{IsSameStanding, HasNoNodeOf}
use Rattle.ice_search.proofs.node.find.Given as goal

abbrev pub invariant-loop-bidder : goal.invariant-loop-bidder
invariant-loop-bidder l = record {
  same : IsSameStanding l.initial.kept l.kept;
  last : l.bidder-end ≡ length l.initial.kept.trees;
  none : (b : ℕ) → b < l.bidder → HasNoNodeOf l.initial.kept.trees l.initial.kept.marks b;
}
