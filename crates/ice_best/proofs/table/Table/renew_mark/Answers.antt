use Rattle.std.proofs.Common.{arith}
use Rattle.ice_best.proofs.Renewing.{others_at_mark, others_above, all_right}
use Rattle.ice_best.proofs.table.Table.renew_mark.Goals as goal

pub loop-at-init : goal.loop-at-init
loop-at-init c = record {
  inside = omega arith;
  others = others_at_mark c.args.tree.now c.args.weights.now c.requires.before.0 c.args.fixing.now c.args.self.now c.args.node c.requires.before.1 c.requires.before.2;
}

pub loop-at-preserved : goal.loop-at-preserved
loop-at-preserved c = record {
  inside = c.parent-at.ensures.inside;
  others = rw c.parent-at.ensures.value
      (others_above c.args.tree.now c.args.weights.now c.args.fixing.now c.loop-at.self c.refill.new.table c.loop-at.at
      c.nodes-nodes.ensures.tree.tree c.refill.ensures.changes c.loop-at.invariant.others c.refill.ensures.entries);
}

-- the root is filled anew
pub returns-else-at-gt0 : goal.returns-else-at-gt0
returns-else-at-gt0 c = record {
  tree = c.nodes-nodes.ensures.tree.tree;
  entries = λ k h l. c.refill.ensures.entries k (omega (arith, c.if-at-gt0.false)) l;
}

-- or a node that is seen as before
pub returns-after-loop-at : goal.returns-after-loop-at
returns-after-loop-at c = record {
  tree = c.nodes-nodes.ensures.tree.tree;
  entries = all_right c.args.tree.now c.args.weights.now c.args.fixing.now c.loop-at.self c.refill.new.table c.loop-at.at
      c.nodes-nodes.ensures.tree.tree c.refill.ensures.changes c.loop-at.invariant.others c.refill.ensures.entries (c.refill.ensures.same c.loop-at-test.false);
}
