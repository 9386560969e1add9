use Rattle.std.proofs.Common.{◌≡◌, ◌<◌, ◌∙◌, ◌∷◌, [], ◌++◌, ap, arith, rules, length}
use Rattle.ice_read.specs.Written.{good_data}
use Rattle.ice_read.proofs.ListSpelling.{no_good, listed_more, good_there}
use Rattle.ice_read.proofs.write.goods_value.Goals as goal

pub loop-good-preserved : goal.loop-good-preserved
loop-good-preserved c =
    let pushed : c.push.new.self.items ≡ c.loop-good.goods.items ++ c.in_ok-good_value.field-0 ∷ [] = search rules in
    let there : c.loop-good.good < length c.args.ex.now.goods = omega (arith, c.goods-good-end.ensures.value) in
    rw pushed (listed_more good_data c.args.ex.now.goods c.loop-good.good no_good c.loop-good.goods.items c.in_ok-good_value.field-0 c.loop-good.invariant there
    (c.in_ok-good_value.ensures ∙ ap good_data (λ i. record { name = c.good_name.ensures i; exact = c.is_exact.ensures i }) ∙ ap good_data (good_there c.args.ex.now c.loop-good.good there)))
