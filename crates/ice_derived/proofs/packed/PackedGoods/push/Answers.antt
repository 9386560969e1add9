use Rattle.std.proofs.Common.{arith, rules, ap, sym, ◌∙◌, ◌≡◌, ◌<◌, ◌++◌, ◌∷◌, [], length, sum, to_z, of_z}
use mir.Syntax.{w64}
use Rattle.ice_defs.specs.Derived.{Derived}
use Rattle.ice_refute.specs.Waiting.{nodes_of}
use Rattle.ice_derived.specs.Packing.{PackedView}
use Rattle.ice_derived.proofs.Rows.{length-goods, good-inside, laid_more, goods_more}
use Rattle.ice_derived.proofs.packed.PackedGoods.push.Goals as goal

pub push_rows-requires-clause-room : goal.push_rows-requires-clause-room
push_rows-requires-clause-room c =
    let i = c.self.inside in
    let more : length c.self.inside.limits.items < c.self.inside.most
    = omega (arith, c.requires.room, length-goods i.nodes.items i.numbers.items i.limits.items, ap (λ (v : PackedView). length v.goods) c.self.view_is, ap (λ (v : PackedView). v.most) c.self.view_is) in
    let size : sum c.deref.result.now ≡ c.self.inside.size = ap sum c.deref.ensures.0 ∙ sym c.self.invariant.laid.sum_is in
    omega (arith, good-inside (length i.limits.items) i.most i.size more, c.self.invariant.laid.full, i.numbers.ok.0, size, c.self.invariant.numbers_room)

pub push_limit-requires : goal.push_limit-requires
push_limit-requires c =
    let i = c.self.inside in
    let more : length c.self.inside.limits.items < c.self.inside.most
    = omega (arith, c.requires.room, length-goods i.nodes.items i.numbers.items i.limits.items, ap (λ (v : PackedView). length v.goods) c.self.view_is, ap (λ (v : PackedView). v.most) c.self.view_is) in
    omega (arith, more, i.limits.ok.0, c.self.invariant.limits_room)

pub invariant_of-self : goal.invariant_of-self
invariant_of-self c =
    let i = c.self.inside in
    let more : length c.self.inside.limits.items < c.self.inside.most
    = omega (arith, c.requires.room, length-goods i.nodes.items i.numbers.items i.limits.items, ap (λ (v : PackedView). length v.goods) c.self.view_is, ap (λ (v : PackedView). v.most) c.self.view_is) in
    let same : to_z w64 (of_z w64 c.args.limit) ≡ c.args.limit = search rules in
    let nodes : nodes_of c.args.amounts.now ≡ c.self.inside.nodes.items = c.requires.nodes ∙ sym (ap (λ (v : PackedView). v.nodes) c.self.view_is) in
    record {
      laid = rw (c.push_rows.ensures.items, c.push_limit.ensures.items, same)
          (laid_more i.nodes.items i.size i.most i.numbers.items i.limits.items c.args.amounts.now c.args.limit c.self.invariant.laid nodes c.bidders-bidders.ensures.range c.requires.limit more);
      numbers_room = omega (arith, c.push_rows.ensures.capacity, c.self.invariant.numbers_room);
      limits_room = omega (arith, c.push_limit.ensures.capacity, c.self.invariant.limits_room);
    }

pub returns-clause-goods : goal.returns-clause-goods
returns-clause-goods c =
    let i = c.self.inside in
    let d : Derived = record { amounts = c.args.amounts.now; limit = c.args.limit } in
    let same : to_z w64 (of_z w64 c.args.limit) ≡ c.args.limit = search rules in
    let nodes : nodes_of c.args.amounts.now ≡ c.self.inside.nodes.items = c.requires.nodes ∙ sym (ap (λ (v : PackedView). v.nodes) c.self.view_is) in
    rw (c.push_rows.ensures.items, c.push_limit.ensures.items, same)
    (goods_more i.nodes.items i.size i.most i.numbers.items i.limits.items c.args.amounts.now c.args.limit c.self.invariant.laid nodes
    ∙ ap (λ (v : PackedView). v.goods ++ d ∷ []) c.self.view_is)
