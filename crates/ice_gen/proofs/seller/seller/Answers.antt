use Rattle.std.proofs.Common.{rules, ◌≡◌, ◌+◌, length, None, arith, ap, sym, ◌∙◌, subst}
use Rattle.std.specs.Prelude.{true}
use Rattle.ice_defs.specs.Making.{is_complete}
use Rattle.ice_tree.specs.Making.{draft_close_refusal, all_but_first}
use Rattle.ice_gen.specs.Generated.{bounds_of_values, truth_of_values}
use Rattle.ice_gen.specs.Growing.{ValuedDraft, draft_of}
use Rattle.ice_gen.proofs.Selling.{sold_by, sale_state, sold_by-none, sale_state-none, sale-more, opened-sold_by, length-sold_by, unfinished, closes, complete-sold, tree-sold, values-sold, sale_state-all}
use Rattle.ice_gen.proofs.seller.seller.Goals as goal

pub loop-sale-init : goal.loop-sale-init
loop-sale-init c = (search (rules, sold_by-none), sym (sale_state-none _))

pub leaf-requires-clause-unfinished : goal.leaf-requires-clause-unfinished
leaf-requires-clause-unfinished c = unfinished c.loop-sale.maker (ap (λ (d : ValuedDraft). d.opened) c.loop-sale.invariant.0 ∙ opened-sold_by _ _ _)

pub leaf-requires-clause-few : goal.leaf-requires-clause-few
leaf-requires-clause-few c =
    let tree : length c.loop-sale.maker.tree ≡ c.loop-sale.sale + 1 = ap (λ (d : ValuedDraft). length d.tree) c.loop-sale.invariant.0 ∙ length-sold_by _ _ _ in
    omega arith

pub leaf-requires-clause-shallow : goal.leaf-requires-clause-shallow
leaf-requires-clause-shallow c =
    let opened : length c.loop-sale.maker.opened ≡ 1 = ap (λ (d : ValuedDraft). length d.opened) c.loop-sale.invariant.0 ∙ ap length (opened-sold_by _ _ _) in
    omega arith

pub loop-sale-preserved : goal.loop-sale-preserved
loop-sale-preserved c = sale-more _ _ _ _ _ _ _ _ c.loop-sale.invariant.0 c.loop-sale.invariant.1 c.sale_value-value.ensures.value c.sale_value-value.ensures.state c.leaf.ensures

pub close-requires : goal.close-requires
close-requires c =
    let all : c.loop-sale.sale ≡ 3 = omega arith in
    let is : c.loop-sale.maker ≡ sold_by c.args.number 3 c.args.generator.now = c.loop-sale.invariant.0 ∙ ap (λ n. sold_by c.args.number n c.args.generator.now) all in
    subst (λ d. draft_close_refusal (draft_of d) ≡ None) (sym is) (closes _ _)

pub finish-requires : goal.finish-requires
finish-requires c =
    let all : c.loop-sale.sale ≡ 3 = omega arith in
    let is : c.loop-sale.maker ≡ sold_by c.args.number 3 c.args.generator.now = c.loop-sale.invariant.0 ∙ ap (λ n. sold_by c.args.number n c.args.generator.now) all in
    let closed = c.close.ensures ∙ ap (λ (d : ValuedDraft). let e : ValuedDraft = record d { opened = all_but_first d.opened } in e) is in
    subst (λ d. is_complete (draft_of d) ≡ true) (sym closed) (complete-sold _ _)

pub returns-clause-tree : goal.returns-clause-tree
returns-clause-tree c =
    let all : c.loop-sale.sale ≡ 3 = omega arith in
    let is : c.loop-sale.maker ≡ sold_by c.args.number 3 c.args.generator.now = c.loop-sale.invariant.0 ∙ ap (λ n. sold_by c.args.number n c.args.generator.now) all in
    c.finish.ensures.tree ∙ ap (λ (d : ValuedDraft). d.tree) c.close.ensures ∙ ap (λ (d : ValuedDraft). d.tree) is ∙ tree-sold _ _

pub returns-clause-bounds : goal.returns-clause-bounds
returns-clause-bounds c =
    let all : c.loop-sale.sale ≡ 3 = omega arith in
    let is : c.loop-sale.maker ≡ sold_by c.args.number 3 c.args.generator.now = c.loop-sale.invariant.0 ∙ ap (λ n. sold_by c.args.number n c.args.generator.now) all in
    c.finish.ensures.bounds ∙ ap bounds_of_values (ap (λ (d : ValuedDraft). d.values) c.close.ensures ∙ ap (λ (d : ValuedDraft). d.values) is ∙ values-sold _ _)

pub returns-clause-truth : goal.returns-clause-truth
returns-clause-truth c =
    let all : c.loop-sale.sale ≡ 3 = omega arith in
    let is : c.loop-sale.maker ≡ sold_by c.args.number 3 c.args.generator.now = c.loop-sale.invariant.0 ∙ ap (λ n. sold_by c.args.number n c.args.generator.now) all in
    c.finish.ensures.truth ∙ ap truth_of_values (ap (λ (d : ValuedDraft). d.values) c.close.ensures ∙ ap (λ (d : ValuedDraft). d.values) is ∙ values-sold _ _)

pub returns-clause-state : goal.returns-clause-state
returns-clause-state c =
    let all : c.loop-sale.sale ≡ 3 = omega arith in
    c.loop-sale.invariant.1 ∙ ap (λ n. sale_state n c.args.generator.now) all ∙ sale_state-all _
