use Rattle.std.proofs.Common.{arith, rules, ◌≡◌, ◌∙◌, refl, subst, length-set, pos, neg_ℤ, ◌≤ℤ◌, to_z, of_z}
use mir.Syntax.{w128}
use Rattle.ice_defs.specs.Tree.{kind_of}
use Rattle.ice_defs.specs.Set.{leaf_units}
use Rattle.ice_best.proofs.Sales.{put_each}
use Rattle.ice_best.proofs.sale.sale_weights.Goals as goal

pub loop-node-preserved : goal.loop-node-preserved
loop-node-preserved c =
    let w = c.loop-node.weights in
    let n = c.loop-node.node in
    let i = c.loop-node.invariant in
    let same : c.sold_units.result ≡ neg_ℤ (leaf_units (kind_of c.args.tree.now c.loop-node.node) c.args.good) = search rules in
    let value : to_z w128 (of_z w128 c.sold_units.result) ≡ neg_ℤ (leaf_units (kind_of c.args.tree.now c.loop-node.node) c.args.good) = search rules in
    rw (c.put.ensures, value) (record {
      len = length-set w n _ ∙ i.len;
      each = put_each w n _ (λ k z. z ≡ neg_ℤ (leaf_units (kind_of c.args.tree.now k) c.args.good)) (omega (arith, i.len)) i.each refl;
      low = put_each w n _ (λ k z. neg_ℤ (pos 65535) ≤ℤ z) (omega (arith, i.len)) i.low (subst (λ z. neg_ℤ (pos 65535) ≤ℤ z) same c.sold_units.ensures.low);
      high = put_each w n _ (λ k z. z ≤ℤ pos 65535) (omega (arith, i.len)) i.high (subst (λ z. z ≤ℤ pos 65535) same c.sold_units.ensures.high);
    })
