use Rattle.std.proofs.Common.{arith, rules, ◌≡◌, ◌∙◌, ap, length, replicate, subst, sym, pos, ◌≤ℤ◌}
use Rattle.std.proofs.lemmas.Int.{to_z-of_z}
use mir.Syntax.{w64, w128}
use mir.Val.{SFits}
use Rattle.ice_defs.specs.declared.Mark.TheVariants.{Free}
use Rattle.ice_best.proofs.Sales.{empty_open, sale_greatest, sale-small, sale_fits, greatest_unique, greatest_sale-greatest, greatest_sale-not_negative}
use Rattle.ice_best.proofs.sale.greatest_sale.Goals as goal

pub unreachable-requires : goal.unreachable-requires
unreachable-requires c =
    let free : c.free-fixing.result ≡ replicate (length c.args.tree.now) Free = c.free-fixing.ensures ∙ ap (λ n. replicate n Free) c.nodes-nodes.ensures.value in
    c.in_default.ensures.none _ (empty_open c.args.tree.now c.free-fixing.result free)

pub overflow_cast-result : goal.overflow_cast-result
overflow_cast-result c =
    let fits : SFits w128 c.in-Some.sale = search rules in
    let small = sale-small c.args.tree.now c.sale_weights-weights.result c.free-fixing.result c.in-Some.sale (omega arith)
    c.sale_weights-weights.ensures.low c.sale_weights-weights.ensures.high c.in-Some.ensures.greatest in
    rw (to_z-of_z w128 c.in-Some.sale fits) (sale_fits c.in-Some.sale small.0 small.1)

pub returns-clause-greatest : goal.returns-clause-greatest
returns-clause-greatest c =
    let free : c.free-fixing.result ≡ replicate (length c.args.tree.now) Free = c.free-fixing.ensures ∙ ap (λ n. replicate n Free) c.nodes-nodes.ensures.value in
    let wide : SFits w128 c.in-Some.sale = search rules in
    let small = sale-small c.args.tree.now c.sale_weights-weights.result c.free-fixing.result c.in-Some.sale (omega arith)
    c.sale_weights-weights.ensures.low c.sale_weights-weights.ensures.high c.in-Some.ensures.greatest in
    let fits : SFits w64 c.in-Some.sale = sale_fits c.in-Some.sale small.0 small.1 in
    rw (to_z-of_z w128 c.in-Some.sale wide, to_z-of_z w64 c.in-Some.sale fits)
    (sale_greatest c.args.tree.now c.sale_weights-weights.result c.free-fixing.result c.args.good c.in-Some.sale c.sale_weights-weights.ensures.each free c.in-Some.ensures.greatest)

pub returns-clause-value : goal.returns-clause-value
returns-clause-value c = greatest_unique _ _ (returns-clause-greatest c) (greatest_sale-greatest c.args.tree.now c.args.good)

pub returns-clause-not_negative : goal.returns-clause-not_negative
returns-clause-not_negative c = subst (λ z. pos 0 ≤ℤ z) (sym (returns-clause-value c)) (greatest_sale-not_negative c.args.tree.now c.args.good)
