use Rattle.std.proofs.Common.{rules, refl, arith, ◌≡◌, ◌+◌, ◌-◌, subst, true}
use Rattle.ice_defs.specs.Tree.{kind_of}
use Rattle.ice_bound.specs.Leaves.{is_leaf_of}
use Rattle.ice_bound.proofs.NextLeaves.{AreLeavesFrom, no_leaves, one_leaf_more}
use Rattle.ice_bound.proofs.leaves.Leaves.of.Goals as goal

pub loop-node-init : goal.loop-node-init
loop-node-init c = no_leaves c.args.tree.now c.nodes-nodes.result c.nodes-nodes.ensures.value

pub loop-node-preserved : goal.loop-node-preserved
loop-node-preserved c =
    let t = c.args.tree.now in
    let n = c.loop-node.node - 1 in
    let back : c.loop-node.node ≡ n + 1 = omega (arith, c.loop-node-test.true) in
    let before = subst (AreLeavesFrom t c.loop-node.leaves) back c.loop-node.invariant in
    let leaf : is_leaf_of (kind_of t n) c.in-Some.good ≡ true = search rules in
    one_leaf_more t c.loop-node.leaves c.put.new.self n c.in-Some.good (omega arith) (omega arith) (c.in-Some.ensures.fits c.in-Some.good refl) leaf c.put.ensures.first c.put.ensures.next before
