use borrow.Author.Count.{below_more}
use Rattle.ice_search.proofs.Splitting.{same_still, none_back}
use Rattle.ice_search.proofs.node.find_in_tree.Goals as goal

pub loop-node-preserved : goal.loop-node-preserved
loop-node-preserved c = record {
  same = same_still c.args.kept.now c.loop-node.kept c.splits.new.kept c.loop-node.invariant.same c.splits.ensures.same;
  last = c.loop-node.invariant.last;
  none = below_more _ _ c.loop-node.invariant.none (none_back c.args.kept.now c.loop-node.kept c.args.bidder c.loop-node.node c.loop-node.invariant.same (c.splits.ensures.no c.if-splits.false));
}
