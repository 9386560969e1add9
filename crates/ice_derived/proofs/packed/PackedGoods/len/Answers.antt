use Rattle.std.proofs.Common.{arith, ap, length, subst}
use Rattle.ice_derived.specs.Packing.{PackedView, AreFit}
use Rattle.ice_derived.proofs.Rows.{length-goods, are_fit}
use Rattle.ice_derived.proofs.packed.PackedGoods.len.Goals as goal

pub returns-clause-value : goal.returns-clause-value
returns-clause-value c =
    let i = c.self.inside in
    omega (arith, c.len.ensures, i.limits.ok.0, length-goods i.nodes.items i.numbers.items i.limits.items, ap (λ (v : PackedView). length v.goods) c.self.view_is)

pub returns-clause-fit : goal.returns-clause-fit
returns-clause-fit c =
    let i = c.self.inside in
    subst AreFit c.self.view_is (are_fit i.nodes.items i.size i.most i.numbers.items i.limits.items c.self.invariant.laid)
