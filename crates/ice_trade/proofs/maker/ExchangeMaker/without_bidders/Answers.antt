use Rattle.std.proofs.Common.{arith, ◌≡◌, ◌<◌, [], false, map, length, get_or, ap, ◌∙◌}
use Rattle.ice_defs.specs.Exchange.{Good, Exchange}
use Rattle.ice_defs.specs.Lawful.{good_names}
use Rattle.ice_trade.proofs.Unfinished.{good_again, grown}
use Rattle.ice_trade.proofs.maker.ExchangeMaker.without_bidders.Goals as goal

pub push_good-requires : goal.push_good-requires
push_good-requires c =
    let ex = c.args.self.now in
    let there : c.loop-good.good < length ex.goods = omega (arith, c.loop-good-test.true, c.goods-good-end.ensures.value) in
    let name : c.copy.result ≡ get_or (good_names ex) c.loop-good.good [] = c.copy.ensures.copy ∙ c.name.ensures ∙ ap (λ (e : Exchange). get_or (good_names e) c.loop-good.good []) c.self.view_is in
    rw (c.loop-good.invariant, name) (good_again ex c.loop-good.good there c.goods-good-end.ensures.lawful)

pub loop-good-preserved : goal.loop-good-preserved
loop-good-preserved c =
    let ex = c.args.self.now in
    let there : c.loop-good.good < length ex.goods = omega (arith, c.loop-good-test.true, c.goods-good-end.ensures.value) in
    let name : c.copy.result ≡ get_or (good_names ex) c.loop-good.good [] = c.copy.ensures.copy ∙ c.name.ensures ∙ ap (λ (e : Exchange). get_or (good_names e) c.loop-good.good []) c.self.view_is in
    let flag = c.is_exact.ensures ∙ ap (λ (e : Exchange). get_or (map (λ (g : Good). g.exact) e.goods) c.loop-good.good false) c.self.view_is in
    rw (c.push_good.ensures, c.loop-good.invariant, name) (ap (λ goods. let made : Exchange = record { settings = ex.settings; goods = goods; bidders = [] } in made) (grown ex c.loop-good.good there _ flag))
