use Rattle.std.proofs.Common.{arith, rules, ℕ, ◌+◌, ◌≡◌, ◌<◌, cond, length, ℤ, pos, neg_ℤ, ◌+ℤ◌, ◌≤ℤ◌, to_z, w64}
use Rattle.std.proofs.lemmas.Int.{ints, to_z-of_z}
use mir.Val.{SFits}
use Rattle.ice_defs.specs.Set.{has, leaf_units}
use Rattle.ice_defs.specs.Tree.{kind_of}
use Rattle.ice_defs.proofs.Sums.{sum_below_more}
use Rattle.ice_bound.proofs.NextLeaves.{others_no_units}
use Rattle.ice_bound.proofs.beside.units_of_set.Goals as goal

sum_fits : (v : ℤ) → neg_ℤ (pos 13200000) ≤ℤ v → v ≤ℤ pos 13200000 → SFits w64 v
sum_fits v low high = record { sfits = grind (arith, ints, low, high) }

pub loop-leaf-init : goal.loop-leaf-init
loop-leaf-init c =
    let is = c.first-leaf.ensures c.args.tree.now c.requires.leaves in
    record {
      sum = others_no_units c.args.tree.now c.args.set.now c.args.good 0 c.first-leaf.result (omega arith) is.none_between;
      low = omega (arith, ints);
      high = omega (arith, ints);
      inside = is.inside;
      is_leaf = is.is_leaf;
    }

pub loop-leaf-preserved : goal.loop-leaf-preserved
loop-leaf-preserved c =
    let t = c.args.tree.now in
    let n = c.loop-leaf.leaf in
    let there : n < length t = omega (arith, c.loop-leaf-test.true, c.nodes-nodes.ensures.value) in
    let is = c.next-leaf.ensures t c.args.good c.requires.leaves there (c.loop-leaf.invariant.is_leaf there) in
    let term = λ (k : ℕ). cond (has c.args.set.now k) (leaf_units (kind_of t k) c.args.good) (pos 0) in
    let low = c.units_inside-sum.ensures.low in
    let high = c.units_inside-sum.ensures.high in
    let here : c.units_inside-sum.result ≡ term n = rw (c.kind.ensures) at c.units_inside-sum.ensures.value in
    let others = others_no_units t c.args.set.now c.args.good (n + 1) c.next-leaf.result is.behind is.none_between in
    let units_fit : SFits w64 c.units_inside-sum.result = search rules in
    let few = c.nodes-nodes.ensures.fits in
    let fits : SFits w64 (to_z w64 c.loop-leaf.sum-bits +ℤ c.units_inside-sum.result) = sum_fits _ (omega (arith, ints, low, high, few, there)) (omega (arith, ints, low, high, few, there)) in
    rw (to_z-of_z w64 c.units_inside-sum.result units_fit, to_z-of_z w64 (to_z w64 c.loop-leaf.sum-bits +ℤ c.units_inside-sum.result) fits) (record {
      sum = omega (arith, ints, others, sum_below_more term n, c.loop-leaf.invariant.sum, here);
      low = omega (arith, ints, low, high, is.behind);
      high = omega (arith, ints, low, high, is.behind);
      inside = is.inside;
      is_leaf = is.is_leaf;
    })
