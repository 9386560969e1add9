use Rattle.std.proofs.Common.{◌<◌, [], length, arith, ap, sym, subst, ◌∙◌}
use Rattle.std.proofs.lemmas.List.{get_or_default, length-map}
use Rattle.ice_defs.specs.Set.{Weights}
use Rattle.ice_derived.specs.Goods.{GoodsView}
use Rattle.ice_derived.specs.Charges.{AreCharges}
use Rattle.ice_derived.proofs.goods.DerivedGoods.charges.Goals as goal

pub returns-clause-range : goal.returns-clause-range
returns-clause-range c =
    let rows = c.self.inside.charges.items in
    let inside : c.args.bidder < length c.self.inside.charges.items
    = omega (arith, c.requires, ap (λ (v : GoodsView). length v.nodes) c.self.view_is, ap length c.self.invariant.charges.nodes, length-map rows (λ (w : Weights). length w)) in
    subst AreCharges (sym (c.index.ensures ∙ get_or_default rows c.args.bidder c.index.result.now [] inside)) (c.self.invariant.small c.args.bidder inside)
