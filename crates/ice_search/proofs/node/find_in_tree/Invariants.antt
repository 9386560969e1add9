use Rattle.std.proofs.Common.{ℕ, ◌<◌, ◌≡◌, length}
use Rattle.ice_defs.specs.declared.Mark.TheVariants.{Must, Never}
use Rattle.ice_defs.specs.Log.{IsFreeNode}
use Rattle.ice_defs.specs.Steps.{with_mark}
use Rattle.ice_defs.specs.Sweep.{IsLive}
use Rattle.ice_defs.specs.Trade.{tree_of}
use Rattle.ice_search.specs.Nodes.{IsSameStanding}
use Rattle.ice_search.proofs.node.find_in_tree.Given as goal

abbrev pub invariant-loop-node : goal.invariant-loop-node
invariant-loop-node l = record {
  same : IsSameStanding l.initial.kept l.kept;
  last : l.node-end ≡ length (tree_of l.initial.kept.trees l.bidder);
  none : (n : ℕ) → n < l.node → IsFreeNode l.initial.kept.trees l.initial.kept.marks l.bidder n → IsLive l.initial.kept.trees (with_mark l.initial.kept.marks l.bidder n Must)
      → ¬ IsLive l.initial.kept.trees (with_mark l.initial.kept.marks l.bidder n Never);
}
