use Rattle.std.proofs.Common.{◌≡◌, ◌∙◌, cond, pos, neg_ℤ, ◌≤ℤ◌, arith, rules, refl, subst, length-set, to_z, of_z}
use mir.Syntax.{w128}
use Rattle.std.proofs.lemmas.Int.{ints}
use Rattle.ice_defs.specs.Set.{has, weight_of}
use Rattle.ice_best.proofs.Sales.{put_each}
use Rattle.ice_rules.proofs.profiles.in_favour.Goals as goal

pub loop-node-preserved : goal.loop-node-preserved
loop-node-preserved c =
    let w = c.loop-node.weights in
    let n = c.loop-node.node in
    let i = c.loop-node.invariant in
    let same : c.upper_where.result ≡ cond (has c.args.set.now c.loop-node.node) (weight_of c.args.bounds.now.hi c.loop-node.node) (weight_of c.args.bounds.now.lo c.loop-node.node) = search rules in
    let value : to_z w128 (of_z w128 c.upper_where.result) ≡ cond (has c.args.set.now c.loop-node.node) (weight_of c.args.bounds.now.hi c.loop-node.node) (weight_of c.args.bounds.now.lo c.loop-node.node) = search rules in
    rw (c.put.ensures, value) (record {
      nodes = length-set w n _ ∙ i.nodes;
      each = put_each w n _ (λ k z. z ≡ cond (has c.args.set.now k) (weight_of c.args.bounds.now.hi k) (weight_of c.args.bounds.now.lo k)) (omega (arith, i.nodes)) i.each refl;
      low = put_each w n _ (λ k z. neg_ℤ (pos 1000000000000) ≤ℤ z) (omega (arith, i.nodes)) i.low (subst (λ z. neg_ℤ (pos 1000000000000) ≤ℤ z) same (omega (arith, ints, c.upper_where.ensures.low)));
      high = put_each w n _ (λ k z. z ≤ℤ pos 1000000000000) (omega (arith, i.nodes)) i.high (subst (λ z. z ≤ℤ pos 1000000000000) same (omega (arith, ints, c.upper_where.ensures.high)));
    })
