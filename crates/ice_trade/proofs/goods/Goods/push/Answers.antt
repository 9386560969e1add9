use Rattle.std.proofs.Common.{rules, arith, ◌≡◌, ◌<◌, ◌++◌, ◌∷◌, [], ◌∙◌, ap, length}
use Rattle.std.proofs.lemmas.List.{length_push}
use Rattle.ice_trade.proofs.Aligning.{goods_count}
use Rattle.ice_trade.proofs.goods.Goods.push.Goals as goal

pub invariant_of-self : goal.invariant_of-self
invariant_of-self c =
    let names : c.push.new.self.items ≡ c.self.inside.names.items ++ c.args.name ∷ [] = search rules in
    let names_more = ap length names ∙ length_push c.self.inside.names.items c.args.name in
    let flags = ap length c.push-2.ensures.items ∙ length_push c.self.inside.exact.items c.args.exact in
    let count = goods_count c.self.inside.names.items c.self.inside.exact.items c.self.invariant.1 in
    let few : length c.self.inside.names.items < 32 = omega (arith, count, ap length c.self.view_is, c.requires) in
    (omega (arith, c.self.invariant.0, c.push.ensures.capacity), omega (arith, names_more, flags, c.self.invariant.1), omega (arith, names_more, few))
