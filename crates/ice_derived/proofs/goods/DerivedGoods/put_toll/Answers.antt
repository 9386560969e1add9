use Rattle.std.proofs.Common.{◌≡◌, ◌<◌, length, ℤ, ◌+ℤ◌, ◌-ℤ◌, ◌*ℤ◌, arith, rules, ap, sym, ◌∙◌, subst, to_z, of_z}
use Rattle.std.proofs.lemmas.Int.{ints, to_z-of_z}
use mir.Syntax.{w64, w128}
use mir.Val.{SFits}
use Rattle.ice_defs.specs.Derived.{derived_at, toll_of}
use Rattle.ice_bound.proofs.Totals.{total_fits}
use Rattle.ice_derived.specs.Goods.{GoodsView}
use Rattle.ice_derived.specs.Charges.{IsCharge}
use Rattle.ice_derived.proofs.Charging.{set_in_range, may_be_charged, limits_stay, charged, charges_in_range}
use Rattle.ice_derived.proofs.goods.DerivedGoods.put_toll.Goals as goal

times : {a b x y : ℤ} → a ≡ b → x ≡ y → a *ℤ x ≡ b *ℤ y
times e d = cc

pub charge-requires-clause-small : goal.charge-requires-clause-small
charge-requires-clause-small c =
    let i = c.self.inside in
    let k = c.args.number in
    let there : c.args.number < length c.self.inside.tolls.items = omega (arith, c.requires.number, ap (λ (v : GoodsView). length v.tolls) c.self.view_is) in
    let same : to_z w128 (of_z w128 c.rise-rise.result) ≡ c.rise-rise.result = search rules in
    let same_toll : to_z w64 (of_z w64 c.args.toll) ≡ c.args.toll = search rules in
    let same_before : to_z w64 (of_z w64 c.toll.result) ≡ c.toll.result = search rules in
    let before : c.toll.result ≡ toll_of c.self.inside.tolls.items c.args.number = c.toll.ensures.value ∙ sym (ap (λ (v : GoodsView). toll_of v.tolls k) c.self.view_is) in
    let rise : c.rise-rise.result ≡ c.args.toll -ℤ toll_of c.self.inside.tolls.items c.args.number = (rw (same_toll, same_before) at c.rise-rise.ensures.value) ∙ ap (λ z. c.args.toll -ℤ z) before in
    rw (same, rise) (may_be_charged i.packed i.tolls.items i.charges.items i.on_limits c.self.invariant.charges k c.args.toll there c.len-count.ensures.fit c.self.invariant.range c.requires.range)

pub overflow_add-self : goal.overflow_add-self
overflow_add-self c =
    let same_on : to_z w128 (of_z w128 c.self.inside.on_limits) ≡ c.self.inside.on_limits = search rules in
    let same_more : to_z w128 (of_z w128 c.on_limit.result) ≡ c.on_limit.result = search rules in
    let on = c.self.invariant.on_limits in
    rw (same_on, same_more) (total_fits _ (omega (arith, ints, on.low, c.on_limit.ensures.low)) (omega (arith, ints, on.high, c.on_limit.ensures.high)))

pub invariant_of-self : goal.invariant_of-self
invariant_of-self c =
    let i = c.self.inside in
    let k = c.args.number in
    let t = c.args.toll in
    let are = c.self.invariant.charges in
    let on = c.self.invariant.on_limits in
    let there : c.args.number < length c.self.inside.tolls.items = omega (arith, c.requires.number, ap (λ (v : GoodsView). length v.tolls) c.self.view_is) in
    let same : to_z w128 (of_z w128 c.rise-rise.result) ≡ c.rise-rise.result = search rules in
    let same_toll : to_z w64 (of_z w64 c.args.toll) ≡ c.args.toll = search rules in
    let same_before : to_z w64 (of_z w64 c.toll.result) ≡ c.toll.result = search rules in
    let same_limit : to_z w64 (of_z w64 c.limit.result) ≡ c.limit.result = search rules in
    let same_on : to_z w128 (of_z w128 c.self.inside.on_limits) ≡ c.self.inside.on_limits = search rules in
    let same_more : to_z w128 (of_z w128 c.on_limit.result) ≡ c.on_limit.result = search rules in
    let before : c.toll.result ≡ toll_of c.self.inside.tolls.items c.args.number = c.toll.ensures.value ∙ sym (ap (λ (v : GoodsView). toll_of v.tolls k) c.self.view_is) in
    let rise : c.rise-rise.result ≡ c.args.toll -ℤ toll_of c.self.inside.tolls.items c.args.number = (rw (same_toll, same_before) at c.rise-rise.ensures.value) ∙ ap (λ z. c.args.toll -ℤ z) before in
    let more : c.on_limit.result ≡ (c.args.toll -ℤ toll_of c.self.inside.tolls.items c.args.number) *ℤ (derived_at c.self.inside.packed.goods c.args.number).limit
    = (rw (same, same_limit) at c.on_limit.ensures.value) ∙ times rise c.limit.ensures.value in
    let fits : SFits w128 (c.self.inside.on_limits +ℤ c.on_limit.result) = total_fits _ (omega (arith, ints, on.low, c.on_limit.ensures.low)) (omega (arith, ints, on.high, c.on_limit.ensures.high)) in
    let each = rw (same, rise) at c.charge.ensures.each in
    let may = may_be_charged i.packed i.tolls.items i.charges.items i.on_limits are k t there c.len-count.ensures.fit c.self.invariant.range c.requires.range in
    rw (same_on, same_more, to_z-of_z w128 (c.self.inside.on_limits +ℤ c.on_limit.result) fits, more, same_toll) (record {
      charges = charged i.packed i.tolls.items i.charges.items i.on_limits are k t there c.charge.new.rows.items c.charge.ensures.nodes each;
      room = c.self.invariant.room;
      range = set_in_range i.tolls.items k t there c.self.invariant.range c.requires.range;
      small = charges_in_range i.packed.nodes c.charge.new.rows.items c.charge.ensures.nodes (λ b n h l. subst IsCharge (sym (each b n h l)) (may b n h l));
      on_limits = limits_stay i.packed i.tolls.items i.charges.items i.on_limits are k t there c.len-count.ensures.fit c.self.invariant.range c.requires.range;
    })
