use Rattle.std.proofs.Common.{◌≡◌, ◌≤ℤ◌, ℕ, false, true, refl, sym, arith, rules, below_more, to_z, of_z}
use mir.Syntax.{w64}
use mir.Val.{SFits}
use Rattle.std.proofs.lemmas.Int.{ints, to_z-of_z}
use Rattle.ice_defs.specs.Set.{weight_of}
use Rattle.ice_simulation.specs.TruthFile.{are_inside}
use Rattle.ice_simulation.proofs.Telling.{comes_false, are_inside-is, are_inside-from}
use Rattle.ice_simulation.proofs.truths.are_inside.Goals as goal

pub returns-then-values-nodes : goal.returns-then-values-nodes
returns-then-values-nodes c =
    comes_false (are_inside c.args.bounds.now.lo c.args.values.now c.args.bounds.now.hi)
    (λ e. let are = are_inside-is c.args.bounds.now.lo c.args.values.now c.args.bounds.now.hi e in c.if-values-nodes.true (omega (arith, are.count, c.len-nodes.ensures.value)))

pub returns-then-not-is_inside : goal.returns-then-not-is_inside
returns-then-not-is_inside c =
    let fits : SFits w64 (weight_of c.args.values.now c.loop-node.node) = search rules in
    let back : to_z w64 (of_z w64 (weight_of c.args.values.now c.loop-node.node)) ≡ weight_of c.args.values.now c.loop-node.node = to_z-of_z w64 (weight_of c.args.values.now c.loop-node.node) fits in
    comes_false (are_inside c.args.bounds.now.lo c.args.values.now c.args.bounds.now.hi)
    (λ e.
    let are = are_inside-is c.args.bounds.now.lo c.args.values.now c.args.bounds.now.hi e in
    let low = are.low c.loop-node.node (omega (arith, c.loop-node-test.true, c.if-values-nodes.false)) in
    let high = are.high c.loop-node.node (omega (arith, c.loop-node-test.true, c.if-values-nodes.false)) in
    let h : false ≡ true = c.if-not-is_inside.ensures.no (omega (arith, ints, back, low)) (omega (arith, ints, back, high)) in
    absurd (cc))

pub loop-node-preserved : goal.loop-node-preserved
loop-node-preserved c =
    let fits : SFits w64 (weight_of c.args.values.now c.loop-node.node) = search rules in
    let back : to_z w64 (of_z w64 (weight_of c.args.values.now c.loop-node.node)) ≡ weight_of c.args.values.now c.loop-node.node = to_z-of_z w64 (weight_of c.args.values.now c.loop-node.node) fits in
    let both = c.if-not-is_inside.ensures.yes refl in
    record {
      low = below_more (λ (k : ℕ). weight_of c.args.bounds.now.lo k ≤ℤ weight_of c.args.values.now k) c.loop-node.node c.loop-node.invariant.low (omega (arith, ints, back, both.0));
      high = below_more (λ (k : ℕ). weight_of c.args.values.now k ≤ℤ weight_of c.args.bounds.now.hi k) c.loop-node.node c.loop-node.invariant.high (omega (arith, ints, back, both.1));
    }

pub returns : goal.returns
returns c =
    let are = c.len-nodes.ensures in
    sym (are_inside-from c.args.bounds.now.lo c.args.values.now c.args.bounds.now.hi (record {
      count = omega (arith, c.if-values-nodes.false, are.value);
      hi_count = are.bounds.hi_count;
      low = λ n h. c.loop-node.invariant.low n (omega (arith, h, c.loop-node-test.false, c.if-values-nodes.false));
      high = λ n h. c.loop-node.invariant.high n (omega (arith, h, c.loop-node-test.false, c.if-values-nodes.false));
    }))
