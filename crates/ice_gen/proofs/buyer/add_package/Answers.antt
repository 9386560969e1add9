use Rattle.std.proofs.Common.{◌≡◌, ◌+◌, ◌∷◌, length, None, arith, ap, sym, ◌∙◌, subst}
use Rattle.ice_defs.specs.declared.NodeKind.TheVariants.{Choose}
use Rattle.ice_tree.specs.Making.{draft_close_refusal, all_but_first}
use Rattle.ice_gen.specs.Drawing.{state_after}
use Rattle.ice_gen.specs.Growing.{ValuedDraft, draft_of, with_choose}
use Rattle.ice_gen.proofs.Drawing.{state_after-first}
use Rattle.ice_gen.proofs.Packaging.{leaves, leaves-none, leaves-more, packed, opened-packed, length-packed, closes-packed, unfinished-packed, worth-from, tree-whole, values-whole}
use Rattle.ice_gen.proofs.buyer.add_package.Goals as goal

pub loop-place-init : goal.loop-place-init
loop-place-init c = leaves-none c.choose.new.self c.draw-first.result

pub leaf-requires-clause-unfinished : goal.leaf-requires-clause-unfinished
leaf-requires-clause-unfinished c =
    let chosen : c.choose.new.self ≡ with_choose c.args.maker.now (Choose c.args.goods c.args.goods) c.package_value-value.result = cc in
    let is : c.loop-place.maker ≡ packed c.args.maker.now c.args.goods c.draw-first.result c.package_value-value.result c.loop-place.place =
    c.loop-place.invariant ∙ ap (λ d. leaves d c.draw-first.result c.loop-place.place) chosen in
    unfinished-packed c.loop-place.maker (length c.args.maker.now.tree) c.args.maker.now.opened (ap (λ (d : ValuedDraft). d.opened) is ∙ opened-packed _ _ _ _ _)

pub leaf-requires-clause-few : goal.leaf-requires-clause-few
leaf-requires-clause-few c =
    let chosen : c.choose.new.self ≡ with_choose c.args.maker.now (Choose c.args.goods c.args.goods) c.package_value-value.result = cc in
    let is : c.loop-place.maker ≡ packed c.args.maker.now c.args.goods c.draw-first.result c.package_value-value.result c.loop-place.place =
    c.loop-place.invariant ∙ ap (λ d. leaves d c.draw-first.result c.loop-place.place) chosen in
    let count : length c.loop-place.maker.tree ≡ length c.args.maker.now.tree + 1 + c.loop-place.place = ap (λ (d : ValuedDraft). length d.tree) is ∙ length-packed c.args.maker.now c.args.goods c.draw-first.result c.package_value-value.result c.loop-place.place in
    omega arith

pub leaf-requires-clause-shallow : goal.leaf-requires-clause-shallow
leaf-requires-clause-shallow c =
    let chosen : c.choose.new.self ≡ with_choose c.args.maker.now (Choose c.args.goods c.args.goods) c.package_value-value.result = cc in
    let is : c.loop-place.maker ≡ packed c.args.maker.now c.args.goods c.draw-first.result c.package_value-value.result c.loop-place.place =
    c.loop-place.invariant ∙ ap (λ d. leaves d c.draw-first.result c.loop-place.place) chosen in
    let opened : c.loop-place.maker.opened ≡ length c.args.maker.now.tree ∷ c.args.maker.now.opened = ap (λ (d : ValuedDraft). d.opened) is ∙ opened-packed _ _ _ _ _ in
    let two : length c.loop-place.maker.opened ≡ 2 = ap length (opened ∙ ap (λ l. length c.args.maker.now.tree ∷ l) c.requires.root) in
    omega arith

pub loop-place-preserved : goal.loop-place-preserved
loop-place-preserved c = leaves-more c.choose.new.self c.loop-place.maker c.leaf.new.self c.draw-first.result c.loop-place.place c.loop-place.invariant c.leaf.ensures

pub close-requires : goal.close-requires
close-requires c =
    let chosen : c.choose.new.self ≡ with_choose c.args.maker.now (Choose c.args.goods c.args.goods) c.package_value-value.result = cc in
    let all : c.loop-place.place ≡ c.args.goods = omega arith in
    let is : c.loop-place.maker ≡ packed c.args.maker.now c.args.goods c.draw-first.result c.package_value-value.result c.args.goods =
    c.loop-place.invariant ∙ ap (λ d. leaves d c.draw-first.result c.loop-place.place) chosen ∙ ap (packed c.args.maker.now c.args.goods c.draw-first.result c.package_value-value.result) all in
    subst (λ d. draft_close_refusal (draft_of d) ≡ None) (sym is) (closes-packed _ _ _ _ c.requires.begun c.requires.root c.requires.parents (omega arith))

pub returns-clause-tree : goal.returns-clause-tree
returns-clause-tree c =
    let chosen : c.choose.new.self ≡ with_choose c.args.maker.now (Choose c.args.goods c.args.goods) c.package_value-value.result = cc in
    let all : c.loop-place.place ≡ c.args.goods = omega arith in
    let is : c.loop-place.maker ≡ packed c.args.maker.now c.args.goods c.draw-first.result c.package_value-value.result c.args.goods =
    c.loop-place.invariant ∙ ap (λ d. leaves d c.draw-first.result c.loop-place.place) chosen ∙ ap (packed c.args.maker.now c.args.goods c.draw-first.result c.package_value-value.result) all in
    ap (λ (d : ValuedDraft). d.tree) c.close.ensures ∙ ap (λ (d : ValuedDraft). d.tree) is ∙ tree-whole c.args.maker.now c.args.goods c.draw-first.result c.package_value-value.result c.args.generator.now c.requires.root c.draw-first.ensures.value

pub returns-clause-values : goal.returns-clause-values
returns-clause-values c =
    let chosen : c.choose.new.self ≡ with_choose c.args.maker.now (Choose c.args.goods c.args.goods) c.package_value-value.result = cc in
    let all : c.loop-place.place ≡ c.args.goods = omega arith in
    let is : c.loop-place.maker ≡ packed c.args.maker.now c.args.goods c.draw-first.result c.package_value-value.result c.args.goods =
    c.loop-place.invariant ∙ ap (λ d. leaves d c.draw-first.result c.loop-place.place) chosen ∙ ap (packed c.args.maker.now c.args.goods c.draw-first.result c.package_value-value.result) all in
    let e = c.package_value-value.ensures in
    let worth = worth-from c.package_value-value.result c.args.goods c.args.generator.now c.draw-first.new.self c.draw-first.ensures.state e.truth e.below e.above in
    ap (λ (d : ValuedDraft). d.values) c.close.ensures ∙ ap (λ (d : ValuedDraft). d.values) is ∙ values-whole c.args.maker.now c.args.goods c.draw-first.result c.package_value-value.result c.args.generator.now c.requires.some c.requires.few worth

pub returns-clause-opened : goal.returns-clause-opened
returns-clause-opened c =
    let chosen : c.choose.new.self ≡ with_choose c.args.maker.now (Choose c.args.goods c.args.goods) c.package_value-value.result = cc in
    let is : c.loop-place.maker ≡ packed c.args.maker.now c.args.goods c.draw-first.result c.package_value-value.result c.loop-place.place =
    c.loop-place.invariant ∙ ap (λ d. leaves d c.draw-first.result c.loop-place.place) chosen in
    ap (λ (d : ValuedDraft). d.opened) c.close.ensures ∙ ap all_but_first (ap (λ (d : ValuedDraft). d.opened) is ∙ opened-packed _ _ _ _ _)

pub returns-clause-state : goal.returns-clause-state
returns-clause-state c =
    let three : c.args.goods + 2 + 1 ≡ c.args.goods + 3 = omega arith in
    c.package_value-value.ensures.state
    ∙ ap (state_after (c.args.goods + 2)) c.draw-first.ensures.state
    ∙ sym (state_after-first (c.args.goods + 2) c.args.generator.now)
    ∙ ap (λ n. state_after n c.args.generator.now) three
