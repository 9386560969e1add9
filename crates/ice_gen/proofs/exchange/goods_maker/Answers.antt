use Rattle.std.proofs.Common.{rules, ◌≡◌, ◌++◌, false}
use Rattle.std.specs.Prelude.{codes, decimal}
use Rattle.ice_trade.specs.Parts.{with_good}
use Rattle.ice_gen.proofs.Joining.{good-joins, good-grown, IsOk-unrefused}
use Rattle.ice_gen.proofs.exchange.goods_maker.Goals as goal

pub unwrap-requires : goal.unwrap-requires
unwrap-requires c =
    let named : c.deref.result.now ≡ codes "G" ++ decimal c.loop-good.good = search rules in
    IsOk-unrefused _ _ c.good.ensures.refused (good-joins _ _ _ c.loop-good-test.true c.loop-good.invariant named)

pub loop-good-preserved : goal.loop-good-preserved
loop-good-preserved c =
    let named : c.deref.result.now ≡ codes "G" ++ decimal c.loop-good.good = search rules in
    let made : c.good.new.self ≡ with_good c.loop-good.maker (record { name = c.deref.result.now; exact = false }) = (rw c.unwrap.ensures at c.good.ensures.made).1 in
    good-grown _ _ _ _ c.loop-good.invariant named made
