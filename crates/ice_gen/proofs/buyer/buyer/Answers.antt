use Rattle.std.proofs.Common.{◌≡◌, ◌+◌, ◌-◌, ◌<◌, ◌≤◌, None, true, arith, ap, sym, ◌∙◌, subst}
use Rattle.ice_defs.specs.declared.NodeKind.TheVariants.{Choose}
use Rattle.ice_defs.specs.Making.{is_complete}
use Rattle.ice_tree.specs.Making.{draft_close_refusal, all_but_first}
use Rattle.ice_gen.specs.Generated.{no_value, bounds_of_values, truth_of_values}
use Rattle.ice_gen.specs.Growing.{ValuedDraft, draft_of, with_choose}
use Rattle.ice_gen.proofs.Packaging.{bought_by, package_state, bought_by-none, package_state-none, opened-bought_by, MayGrow, MayGrow-bought_by, package-more, closes-bought, complete-bought, tree-bought, values-bought, package_state-all}
use Rattle.ice_gen.proofs.buyer.buyer.Goals as goal

pub loop-goods-init : goal.loop-goods-init
loop-goods-init c = (
  c.choose.ensures ∙ ap (λ d. with_choose d (Choose 0 1) no_value) c.new-maker.ensures ∙ sym (bought_by-none c.args.generator.now),
  sym (package_state-none c.args.generator.now),
)

pub add_package-requires-clause-root : goal.add_package-requires-clause-root
add_package-requires-clause-root c = ap (λ (d : ValuedDraft). d.opened) c.loop-goods.invariant.0 ∙ opened-bought_by _ _

pub add_package-requires-clause-begun : goal.add_package-requires-clause-begun
add_package-requires-clause-begun c =
    let less : c.loop-goods.goods - 2 < 3 = omega arith in
    let grows : MayGrow c.loop-goods.maker (c.loop-goods.goods - 2 + 2) = subst (λ d. MayGrow d (c.loop-goods.goods - 2 + 2)) (sym c.loop-goods.invariant.0) (MayGrow-bought_by _ _ less) in
    grows.begun

pub add_package-requires-clause-room : goal.add_package-requires-clause-room
add_package-requires-clause-room c =
    let less : c.loop-goods.goods - 2 < 3 = omega arith in
    let grows : MayGrow c.loop-goods.maker (c.loop-goods.goods - 2 + 2) = subst (λ d. MayGrow d (c.loop-goods.goods - 2 + 2)) (sym c.loop-goods.invariant.0) (MayGrow-bought_by _ _ less) in
    omega (arith, grows.room, c.loop-goods.auto.goods)

pub add_package-requires-clause-parents : goal.add_package-requires-clause-parents
add_package-requires-clause-parents c =
    let less : c.loop-goods.goods - 2 < 3 = omega arith in
    let grows : MayGrow c.loop-goods.maker (c.loop-goods.goods - 2 + 2) = subst (λ d. MayGrow d (c.loop-goods.goods - 2 + 2)) (sym c.loop-goods.invariant.0) (MayGrow-bought_by _ _ less) in
    grows.parents

pub loop-goods-preserved : goal.loop-goods-preserved
loop-goods-preserved c =
    let k_is : c.loop-goods.goods ≡ c.loop-goods.goods - 2 + 2 = omega (arith, c.loop-goods.auto.goods) in
    let n_is : c.loop-goods.goods + 1 - 2 ≡ c.loop-goods.goods - 2 + 1 = omega (arith, c.loop-goods.auto.goods) in
    let e = c.add_package.ensures in
    package-more _ _ _ _ c.loop-goods.maker c.add_package.new.maker _ _ k_is n_is c.loop-goods.invariant.0 c.loop-goods.invariant.1 e.tree e.values e.opened e.state

pub close-requires : goal.close-requires
close-requires c =
    let end : c.loop-goods.goods ≤ 5 = c.loop-goods.auto.goods-end (omega arith) in
    let all : c.loop-goods.goods - 2 ≡ 3 = omega arith in
    let is : c.loop-goods.maker ≡ bought_by 3 c.args.generator.now = c.loop-goods.invariant.0 ∙ ap (λ n. bought_by n c.args.generator.now) all in
    subst (λ d. draft_close_refusal (draft_of d) ≡ None) (sym is) (closes-bought _)

pub finish-requires : goal.finish-requires
finish-requires c =
    let end : c.loop-goods.goods ≤ 5 = c.loop-goods.auto.goods-end (omega arith) in
    let all : c.loop-goods.goods - 2 ≡ 3 = omega arith in
    let is : c.loop-goods.maker ≡ bought_by 3 c.args.generator.now = c.loop-goods.invariant.0 ∙ ap (λ n. bought_by n c.args.generator.now) all in
    let closed = c.close.ensures ∙ ap (λ (d : ValuedDraft). let e : ValuedDraft = record d { opened = all_but_first d.opened } in e) is in
    subst (λ d. is_complete (draft_of d) ≡ true) (sym closed) (complete-bought _)

pub returns-clause-tree : goal.returns-clause-tree
returns-clause-tree c =
    let end : c.loop-goods.goods ≤ 5 = c.loop-goods.auto.goods-end (omega arith) in
    let all : c.loop-goods.goods - 2 ≡ 3 = omega arith in
    let is : c.loop-goods.maker ≡ bought_by 3 c.args.generator.now = c.loop-goods.invariant.0 ∙ ap (λ n. bought_by n c.args.generator.now) all in
    c.finish.ensures.tree ∙ ap (λ (d : ValuedDraft). d.tree) c.close.ensures ∙ ap (λ (d : ValuedDraft). d.tree) is ∙ tree-bought _

pub returns-clause-bounds : goal.returns-clause-bounds
returns-clause-bounds c =
    let end : c.loop-goods.goods ≤ 5 = c.loop-goods.auto.goods-end (omega arith) in
    let all : c.loop-goods.goods - 2 ≡ 3 = omega arith in
    let is : c.loop-goods.maker ≡ bought_by 3 c.args.generator.now = c.loop-goods.invariant.0 ∙ ap (λ n. bought_by n c.args.generator.now) all in
    c.finish.ensures.bounds ∙ ap bounds_of_values (ap (λ (d : ValuedDraft). d.values) c.close.ensures ∙ ap (λ (d : ValuedDraft). d.values) is ∙ values-bought _)

pub returns-clause-truth : goal.returns-clause-truth
returns-clause-truth c =
    let end : c.loop-goods.goods ≤ 5 = c.loop-goods.auto.goods-end (omega arith) in
    let all : c.loop-goods.goods - 2 ≡ 3 = omega arith in
    let is : c.loop-goods.maker ≡ bought_by 3 c.args.generator.now = c.loop-goods.invariant.0 ∙ ap (λ n. bought_by n c.args.generator.now) all in
    c.finish.ensures.truth ∙ ap truth_of_values (ap (λ (d : ValuedDraft). d.values) c.close.ensures ∙ ap (λ (d : ValuedDraft). d.values) is ∙ values-bought _)

pub returns-clause-state : goal.returns-clause-state
returns-clause-state c =
    let end : c.loop-goods.goods ≤ 5 = c.loop-goods.auto.goods-end (omega arith) in
    let all : c.loop-goods.goods - 2 ≡ 3 = omega arith in
    c.loop-goods.invariant.1 ∙ ap (λ n. package_state n c.args.generator.now) all ∙ package_state-all _
