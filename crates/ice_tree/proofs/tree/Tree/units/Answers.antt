use Rattle.std.proofs.Common.{◌≡◌, ◌∙◌, ◌<◌, ℕ, ◌+ℤ◌, sym, arith}
use Rattle.ice_defs.specs.Tree.{kind_of}
use Rattle.ice_defs.specs.Set.{weight_of, leaf_units}
use Rattle.ice_tree.proofs.Adding.{sums-inside, sums-outside, within-inside, within-outside}
use Rattle.ice_tree.proofs.tree.Tree.units.Goals as goal
use Rattle.ice_tree.proofs.tree.Tree.units.Goals.{then-has, else-has}

pub loop-node-preserved : goal.loop-node-preserved
loop-node-preserved c =
    let t = c.args.self.now in
    let s = c.args.set.now in
    let n = c.loop-node.node in
    let i = c.loop-node.invariant in
    let limited = c.nodes-node-end.ensures.tree.kinds n (omega arith) in
    elim c.if-has.branch [
      | then-has w ↦
          let e = sym c.has.ensures ∙ w.if-has.true in
          let added : (g : ℕ) → g < 32 → weight_of c.if-has.sums g ≡ weight_of c.loop-node.sums g +ℤ leaf_units (kind_of t n) g = λ g h. rw (w.sums-is, ← w.kind.ensures) (w.add_units.ensures g h) in
          record { sums_are = sums-inside t s n c.loop-node.sums c.if-has.sums i.sums_are e added; within = within-inside t s n c.loop-node.sums c.if-has.sums i.within limited added }
      | else-has w ↦
          let e = sym c.has.ensures ∙ w.if-has.false in
          record {
            sums_are = rw w.sums-is (sums-outside t s n c.loop-node.sums c.loop-node.sums i.sums_are e);
            within = rw w.sums-is (within-outside t s n c.loop-node.sums c.loop-node.sums i.within);
          }
    ]
