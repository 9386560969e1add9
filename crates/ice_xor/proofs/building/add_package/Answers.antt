use Rattle.std.proofs.Common.{◌≡◌, ◌+◌, ◌≤◌, ◌∙◌, length, get_or, min, None, pos, w64, to_z, of_z, refl, sym, ap, subst, arith, rules}
use Rattle.std.proofs.lemmas.Result.{err_from_is_err_and}
use Rattle.ice_defs.specs.declared.NodeKind.TheVariants.{Choose}
use Rattle.ice_defs.specs.Making.{TreeDraft, draft_refusal, with_node, with_open}
use Rattle.ice_tree.specs.Making.{Making, draft_close_refusal, with_closed}
use Rattle.ice_xor.specs.FlatBids.{leaf_kind}
use Rattle.ice_xor.proofs.Packing.{no_units, IsPacking, packing-unopened, packing-begun, packing-refused, packing-more, packing-closes, packing-allowed, packing-done}
use Rattle.ice_xor.proofs.building.add_package.Goals as goal

pub returns-in_err-open_choose-clause-refused : goal.returns-in_err-open_choose-clause-refused
returns-in_err-open_choose-clause-refused c =
    let p = err_from_is_err_and c.from_residual.result c.from_residual.ensures.1 in
    let goods = c.args.maker.now.goods in
    let d = c.args.maker.now.draft in
    let most = c.choice_of-all.result in
    let lo : to_z w64 (of_z w64 c.lo.result) ≡ c.args.added.now.lo = search rules in
    let hi : to_z w64 (of_z w64 c.hi.result) ≡ c.args.added.now.hi = search rules in
    let refused = ap (λ z. draft_refusal goods d (Choose most most) z c.args.added.now.hi) (sym lo) ∙ ap (λ z. draft_refusal goods d (Choose most most) (to_z w64 (of_z w64 c.lo.result)) z) (sym hi) ∙ c.in_err-open_choose.ensures.refused in
    rw (p.1, p.2) (packing-unopened goods d most c.args.added.now c.requires.root _ refused)

pub returns-in_err-leaf-clause-refused : goal.returns-in_err-leaf-clause-refused
returns-in_err-leaf-clause-refused c =
    let p = err_from_is_err_and c.from_residual-in_err-leaf.result c.from_residual-in_err-leaf.ensures.1 in
    let goods = c.args.maker.now.goods in
    let now = c.loop-units.maker.draft in
    let i = c.loop-units.units-index in
    let u = get_or c.args.added.now.units i no_units in
    let kind : c.kind_of.result ≡ leaf_kind u = c.kind_of.ensures.kind ∙ ap (λ xs. leaf_kind (get_or xs i no_units)) c.units-units-items.ensures in
    let refused = ap (λ g. draft_refusal g now (leaf_kind u) (pos 0) (pos 0)) (sym c.loop-units.invariant.goods) ∙ ap (λ k. draft_refusal c.loop-units.maker.goods now k (pos 0) (pos 0)) (sym kind) ∙ c.in_err-leaf.ensures.refused in
    rw (p.1, p.2) (packing-refused goods c.args.maker.now.draft c.choice_of-all.result c.args.added.now c.requires.root now i u _ c.loop-units.invariant.packing (omega (arith, ap length c.units-units-items.ensures)) refl refused)

pub loop-units-init : goal.loop-units-init
loop-units-init c =
    let goods = c.args.maker.now.goods in
    let d = c.args.maker.now.draft in
    let most = c.choice_of-all.result in
    let lo : to_z w64 (of_z w64 c.lo.result) ≡ c.args.added.now.lo = search rules in
    let hi : to_z w64 (of_z w64 c.hi.result) ≡ c.args.added.now.hi = search rules in
    let opened : draft_refusal goods d (Choose most most) c.args.added.now.lo c.args.added.now.hi ≡ None =
    ap (λ z. draft_refusal goods d (Choose most most) z c.args.added.now.hi) (sym lo) ∙ ap (λ z. draft_refusal goods d (Choose most most) (to_z w64 (of_z w64 c.lo.result)) z) (sym hi) ∙ c.in_ok-open_choose.ensures.refused in
    let draft : c.open_choose.new.self.draft ≡ with_open d (Choose most most) c.args.added.now.lo c.args.added.now.hi =
    ap (λ (m : Making). m.draft) c.in_ok-open_choose.ensures.made ∙ ap (λ z. with_open d (Choose most most) z (to_z w64 (of_z w64 c.hi.result))) lo ∙ ap (λ z. with_open d (Choose most most) c.args.added.now.lo z) hi in
    record {
      goods = ap (λ (m : Making). m.goods) c.in_ok-open_choose.ensures.made;
      packing = subst (λ (x : TreeDraft). IsPacking goods d most c.args.added.now x 0) (sym draft) (packing-begun goods d most c.args.added.now c.requires.root opened);
    }

pub loop-units-preserved : goal.loop-units-preserved
loop-units-preserved c =
    let goods = c.args.maker.now.goods in
    let d = c.args.maker.now.draft in
    let most = c.choice_of-all.result in
    let now = c.loop-units.maker.draft in
    let i = c.loop-units.units-index in
    let u = get_or c.args.added.now.units i no_units in
    let kind : c.kind_of.result ≡ leaf_kind u = c.kind_of.ensures.kind ∙ ap (λ xs. leaf_kind (get_or xs i no_units)) c.units-units-items.ensures in
    let taken : draft_refusal goods now (leaf_kind u) (pos 0) (pos 0) ≡ None =
    ap (λ g. draft_refusal g now (leaf_kind u) (pos 0) (pos 0)) (sym c.loop-units.invariant.goods) ∙ ap (λ k. draft_refusal c.loop-units.maker.goods now k (pos 0) (pos 0)) (sym kind) ∙ c.in_ok-leaf.ensures.refused in
    let draft : c.leaf.new.self.draft ≡ with_node now (leaf_kind u) (pos 0) (pos 0) = ap (λ (m : Making). m.draft) c.in_ok-leaf.ensures.made ∙ ap (λ k. with_node now k (pos 0) (pos 0)) kind in
    record {
      goods = ap (λ (m : Making). m.goods) c.in_ok-leaf.ensures.made ∙ c.loop-units.invariant.goods;
      packing = subst (λ (x : TreeDraft). IsPacking goods d most c.args.added.now x (i + 1)) (sym draft)
          (packing-more goods d most c.args.added.now c.requires.root now i u c.loop-units.invariant.packing (omega (arith, ap length c.units-units-items.ensures)) refl taken);
    }

pub returns-in_err-close-clause-refused : goal.returns-in_err-close-clause-refused
returns-in_err-close-clause-refused c =
    let goods = c.args.maker.now.goods in
    let d = c.args.maker.now.draft in
    let most = c.choice_of-all.result in
    let now = c.loop-units.maker.draft in
    let all : c.loop-units.units-index ≡ length c.args.added.now.units = omega (arith, ap length c.units-units-items.ensures) in
    let packing = subst (IsPacking goods d most c.args.added.now now) all c.loop-units.invariant.packing in
    let few : most ≤ length c.args.added.now.units = omega (arith, c.choice_of-all.ensures, ap length c.units.ensures) in
    let closes : draft_close_refusal now ≡ None = packing-closes goods d most c.args.added.now c.requires.root now packing c.requires.some few in
    let refused = c.in_err-close.ensures.refused in
    absurd cc

pub returns-clause-made : goal.returns-clause-made
returns-clause-made c =
    let goods = c.args.maker.now.goods in
    let d = c.args.maker.now.draft in
    let most = c.choice_of-all.result in
    let now = c.loop-units.maker.draft in
    let all : c.loop-units.units-index ≡ length c.args.added.now.units = omega (arith, ap length c.units-units-items.ensures) in
    let packing = subst (IsPacking goods d most c.args.added.now now) all c.loop-units.invariant.packing in
    let is : most ≡ min (length c.args.added.now.units) 199 = c.choice_of-all.ensures ∙ ap (λ xs. min (length xs) 199) c.units.ensures in
    c.in_ok-close.ensures.made
    ∙ ap (λ g. record { goods = g; draft = with_closed now }) c.loop-units.invariant.goods
    ∙ ap (λ x. record { goods = goods; draft = x }) (packing-done goods d most c.args.added.now c.requires.root now packing is)

pub returns-clause-refused : goal.returns-clause-refused
returns-clause-refused c =
    let goods = c.args.maker.now.goods in
    let d = c.args.maker.now.draft in
    let most = c.choice_of-all.result in
    let now = c.loop-units.maker.draft in
    let all : c.loop-units.units-index ≡ length c.args.added.now.units = omega (arith, ap length c.units-units-items.ensures) in
    packing-allowed goods d most c.args.added.now c.requires.root now (subst (IsPacking goods d most c.args.added.now now) all c.loop-units.invariant.packing)
