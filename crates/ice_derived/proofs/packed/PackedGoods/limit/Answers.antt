use Rattle.std.proofs.Common.{arith, rules, ap, sym, ◌∙◌, ◌≡◌, ◌<◌, length, pos, subst, to_z, of_z}
use Rattle.std.proofs.lemmas.List.{get_or_default}
use mir.Syntax.{w64}
use Rattle.ice_defs.specs.Derived.{derived_at}
use Rattle.ice_derived.specs.Ranges.{IsLimit}
use Rattle.ice_derived.specs.Packing.{PackedView}
use Rattle.ice_derived.proofs.Rows.{length-goods, limit_is}
use Rattle.ice_derived.proofs.packed.PackedGoods.limit.Goals as goal

pub index-requires : goal.index-requires
index-requires c =
    let i = c.self.inside in
    omega (arith, c.requires, i.limits.ok.0, length-goods i.nodes.items i.numbers.items i.limits.items, ap (λ (v : PackedView). length v.goods) c.self.view_is)

pub returns-clause-value : goal.returns-clause-value
returns-clause-value c =
    let i = c.self.inside in
    let there : c.args.number < length c.self.inside.limits.items = omega (arith, c.requires, length-goods i.nodes.items i.numbers.items i.limits.items, ap (λ (v : PackedView). length v.goods) c.self.view_is) in
    let same : to_z w64 (of_z w64 c.index.result.now) ≡ c.index.result.now = search rules in
    same ∙ c.index.ensures ∙ get_or_default i.limits.items c.args.number c.index.result.now (pos 0) there
    ∙ sym (limit_is i.nodes.items i.size i.most i.numbers.items i.limits.items c.self.invariant.laid c.args.number there)
    ∙ ap (λ (v : PackedView). (derived_at v.goods c.args.number).limit) c.self.view_is

pub returns-clause-range : goal.returns-clause-range
returns-clause-range c =
    let i = c.self.inside in
    let there : c.args.number < length c.self.inside.limits.items = omega (arith, c.requires, length-goods i.nodes.items i.numbers.items i.limits.items, ap (λ (v : PackedView). length v.goods) c.self.view_is) in
    let same : to_z w64 (of_z w64 c.index.result.now) ≡ c.index.result.now = search rules in
    subst IsLimit (sym (same ∙ c.index.ensures ∙ get_or_default i.limits.items c.args.number c.index.result.now (pos 0) there)) (c.self.invariant.laid.limits_fit c.args.number there)
