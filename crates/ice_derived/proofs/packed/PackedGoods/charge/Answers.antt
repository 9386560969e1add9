use Rattle.std.proofs.Common.{arith, rules, ap, sym, ◌∙◌, ◌≡◌, ◌<◌, length, get_or, ◌+ℤ◌, ◌*ℤ◌, subst, to_z, of_z}
use mir.Syntax.{w128}
use Rattle.ice_defs.specs.Set.{weight_of}
use Rattle.ice_defs.specs.Trade.{weights_of}
use Rattle.ice_defs.specs.Derived.{derived_at}
use Rattle.ice_derived.specs.Packing.{PackedView}
use Rattle.ice_derived.specs.Charges.{IsCharge, amount_of}
use Rattle.ice_derived.proofs.Rows.{length-goods, part_fits, part_size, part_amounts, part_is}
use Rattle.ice_derived.proofs.packed.PackedGoods.charge.Goals as goal

pub part-amounts-requires : goal.part-amounts-requires
part-amounts-requires c =
    let i = c.self.inside in
    let there : c.args.number < length c.self.inside.limits.items = omega (arith, c.requires.number, length-goods i.nodes.items i.numbers.items i.limits.items, ap (λ (v : PackedView). length v.goods) c.self.view_is) in
    omega (arith, part_fits i.nodes.items i.size i.most i.numbers.items i.limits.items c.self.invariant.laid c.args.number there, ap length c.deref.ensures.value)

pub charge_rows-requires-clause-numbers : goal.charge_rows-requires-clause-numbers
charge_rows-requires-clause-numbers c =
    let i = c.self.inside in
    let there : c.args.number < length c.self.inside.limits.items = omega (arith, c.requires.number, length-goods i.nodes.items i.numbers.items i.limits.items, ap (λ (v : PackedView). length v.goods) c.self.view_is) in
    rw (c.part-amounts.ensures, c.deref.ensures.value, c.deref-2.ensures.0) (part_size i.nodes.items i.size i.most i.numbers.items i.limits.items c.self.invariant.laid c.args.number there)

pub charge_rows-requires-clause-amounts : goal.charge_rows-requires-clause-amounts
charge_rows-requires-clause-amounts c =
    let i = c.self.inside in
    let there : c.args.number < length c.self.inside.limits.items = omega (arith, c.requires.number, length-goods i.nodes.items i.numbers.items i.limits.items, ap (λ (v : PackedView). length v.goods) c.self.view_is) in
    rw (c.part-amounts.ensures, c.deref.ensures.value) (part_amounts i.nodes.items i.size i.most i.numbers.items i.limits.items c.self.invariant.laid c.args.number there)

pub charge_rows-requires-clause-small : goal.charge_rows-requires-clause-small
charge_rows-requires-clause-small c =
    let i = c.self.inside in
    let there : c.args.number < length c.self.inside.limits.items = omega (arith, c.requires.number, length-goods i.nodes.items i.numbers.items i.limits.items, ap (λ (v : PackedView). length v.goods) c.self.view_is) in
    let same : to_z w128 (of_z w128 c.args.times) ≡ c.args.times = search rules in
    let nodes : c.self.inside.nodes.items ≡ c.args.self.now.nodes = ap (λ (v : PackedView). v.nodes) c.self.view_is in
    rw (c.part-amounts.ensures, c.deref.ensures.value, c.deref-2.ensures.0, same)
    (λ b n h l.
    subst (λ z. IsCharge (weight_of (weights_of c.args.rows.now.items b) n +ℤ (c.args.times *ℤ z)))
    (sym (part_is i.nodes.items i.size i.most i.numbers.items i.limits.items c.self.invariant.laid c.args.number b n there h l ∙ ap (λ (v : PackedView). amount_of (derived_at v.goods c.args.number) b n) c.self.view_is))
    (c.requires.small b n (subst (λ ns. b < length ns) nodes h) (subst (λ ns. n < get_or ns b 0) nodes l)))

pub returns-clause-each : goal.returns-clause-each
returns-clause-each c =
    let i = c.self.inside in
    let there : c.args.number < length c.self.inside.limits.items = omega (arith, c.requires.number, length-goods i.nodes.items i.numbers.items i.limits.items, ap (λ (v : PackedView). length v.goods) c.self.view_is) in
    let same : to_z w128 (of_z w128 c.args.times) ≡ c.args.times = search rules in
    let nodes : c.self.inside.nodes.items ≡ c.args.self.now.nodes = ap (λ (v : PackedView). v.nodes) c.self.view_is in
    let each = rw (c.part-amounts.ensures, c.deref.ensures.value, c.deref-2.ensures.0, same) at c.charge_rows.ensures.each in
    λ b n h l.
    let h' : b < length c.self.inside.nodes.items = subst (λ ns. b < length ns) (sym nodes) h in
    let l' : n < get_or c.self.inside.nodes.items b 0 = subst (λ ns. n < get_or ns b 0) (sym nodes) l in
    each b n h' l'
    ∙ ap (λ z. weight_of (weights_of c.args.rows.now.items b) n +ℤ (c.args.times *ℤ z))
    (part_is i.nodes.items i.size i.most i.numbers.items i.limits.items c.self.invariant.laid c.args.number b n there h' l' ∙ ap (λ (v : PackedView). amount_of (derived_at v.goods c.args.number) b n) c.self.view_is)
