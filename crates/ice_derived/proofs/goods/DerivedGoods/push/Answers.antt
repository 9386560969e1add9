use Rattle.std.proofs.Common.{arith}
use Rattle.ice_derived.proofs.Charging.{one_more, one_more_toll}
use Rattle.ice_derived.proofs.goods.DerivedGoods.push.Goals as goal

pub invariant_of-self : goal.invariant_of-self
invariant_of-self c =
    let i = c.self.inside in
    rw c.push_toll.ensures.items (record {
      charges = one_more i.packed i.tolls.items i.charges.items i.on_limits c.self.invariant.charges _ c.push.new.self c.push.ensures.goods c.push.ensures.nodes;
      room = omega (arith, c.self.invariant.room, c.push_toll.ensures.capacity, c.push.ensures.most);
      range = one_more_toll i.tolls.items c.self.invariant.range;
      small = c.self.invariant.small;
      on_limits = c.self.invariant.on_limits;
    })
