use Rattle.std.proofs.Common.{arith, ap}
use mir.Syntax.{w128}
use mir.Val.{to_z}
use Rattle.ice_best.proofs.Following.{all_right}
use Rattle.ice_best.proofs.table.Table.renew.Goals as goal

pub returns-after-loop-at : goal.returns-after-loop-at
returns-after-loop-at c = record {
  tree = c.nodes-nodes.ensures.tree.tree;
  entries = all_right c.args.tree.now c.args.weights.now c.args.fixing.now c.loop-at.self c.loop-at.at (to_z w128 c.loop-at.more-bits) c.loop-at.invariant.followed
      (λ inner. absurd (omega (arith, inner, c.loop-at-test.false)));
}

pub returns-else-more-ne0 : goal.returns-else-more-ne0
returns-else-more-ne0 c = record {
  tree = c.nodes-nodes.ensures.tree.tree;
  entries = all_right c.args.tree.now c.args.weights.now c.args.fixing.now c.loop-at.self c.loop-at.at (to_z w128 c.loop-at.more-bits) c.loop-at.invariant.followed
      (λ inner. ap (to_z w128) c.if-more-ne0.false);
}
