use Rattle.std.proofs.Common.{arith, ◌<◌, ◌+◌, length}
use Rattle.ice_bound.proofs.Tables.{none_moved, all_moved, others_stay, one_moves}
use Rattle.ice_bound.proofs.net_table.NetTable.renew_good.Goals as goal

pub loop-leaf-init : goal.loop-leaf-init
loop-leaf-init c =
    let t = c.args.marked.now.tree.now in
    let w = c.args.marked.now.weights.now in
    let m = c.args.m.now in
    let x = c.args.marked.now.fixing.now in
    let is = c.first-leaf.ensures t c.args.marked.now.leaved in
    record {
      moving = λ before table differ. others_stay t w before m x c.args.self.now c.args.good 0 c.first-leaf.result (omega arith) is.inside differ is.none_between (none_moved t w before m x c.args.self.now table);
      inside = is.inside;
      is_leaf = is.is_leaf;
    }

pub put-requires-clause-entries : goal.put-requires-clause-entries
put-requires-clause-entries c = (c.loop-leaf.invariant.moving c.requires.before.0 c.requires.before.1 c.requires.before.2).entries

pub loop-leaf-preserved : goal.loop-leaf-preserved
loop-leaf-preserved c =
    let t = c.args.marked.now.tree.now in
    let w = c.args.marked.now.weights.now in
    let m = c.args.m.now in
    let x = c.args.marked.now.fixing.now in
    let n = c.loop-leaf.leaf in
    let there : n < length t = omega (arith, c.loop-leaf-test.true, c.nodes-nodes.ensures.value) in
    let is = c.next-leaf.ensures t c.args.good c.args.marked.now.leaved there (c.loop-leaf.invariant.is_leaf there) in
    record {
      moving = λ before table differ.
          others_stay t w before m x c.put.new.self c.args.good (n + 1) c.next-leaf.result is.behind is.inside differ is.none_between
          (one_moves t w before m x c.loop-leaf.self c.put.new.self n there c.put.ensures.net c.put.ensures.small c.put.ensures.entries (c.loop-leaf.invariant.moving before table differ));
      inside = is.inside;
      is_leaf = is.is_leaf;
    }

pub returns : goal.returns
returns c =
    let before = c.requires.before in
    all_moved c.args.marked.now.tree.now c.args.marked.now.weights.now before.0 c.args.m.now c.args.marked.now.fixing.now c.loop-leaf.self c.loop-leaf.leaf
    (omega (arith, c.loop-leaf-test.false, c.nodes-nodes.ensures.value)) (c.loop-leaf.invariant.moving before.0 before.1 before.2)
