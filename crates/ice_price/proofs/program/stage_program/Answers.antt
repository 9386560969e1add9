use Rattle.std.proofs.Common.{◌≡◌, ◌∙◌, [], ap, arith, rules, length, take}
use Rattle.std.proofs.lemmas.List.{take_all, length-take}
use Rattle.ice_defs.specs.Program.{Program}
use Rattle.ice_price.specs.Programs.{good_row}
use Rattle.ice_price.proofs.Programs.{made_of, with_one, made-rows, good-more, program-is}
use Rattle.ice_price.proofs.program.stage_program.Goals as goal

pub add_good-requires-clause-few : goal.add_good-requires-clause-few
add_good-requires-clause-few c =
    omega (
      arith,
      ap (λ (p : Program). length p.rows) c.loop-good.invariant,
      made-rows c.args.trade.now c.args.at.now c.loop-good.good [],
      c.goods-good-end.ensures.proper.goods_count.1,
      c.goods-good-end.ensures.value,
      c.loop-good-test.true,
    )

pub loop-good-preserved : goal.loop-good-preserved
loop-good-preserved c =
    let new : c.add_good.new.program ≡ with_one c.args.trade.now c.args.at.now c.loop-good.program (good_row c.args.trade.now c.args.at.now c.loop-good.good) = search rules in
    new ∙ ap (λ (p : Program). with_one c.args.trade.now c.args.at.now p (good_row c.args.trade.now c.args.at.now c.loop-good.good)) c.loop-good.invariant
    ∙ good-more c.args.trade.now c.args.at.now c.loop-good.good

pub add_member-requires-clause-few : goal.add_member-requires-clause-few
add_member-requires-clause-few c =
    omega (
      arith,
      ap (λ (p : Program). length p.rows) c.loop-member.invariant,
      made-rows c.args.trade.now c.args.at.now c.args.trade.now.goods (take c.loop-member.member-index c.args.pool.now),
      length-take c.loop-member.member-index c.args.pool.now,
      c.goods.ensures.proper.goods_count.1,
      c.loop-member-test.true,
      c.requires.few,
    )

pub returns : goal.returns
returns c =
    c.loop-member.invariant
    ∙ ap (made_of c.args.trade.now c.args.at.now c.args.trade.now.goods) (take_all c.loop-member.member-index c.args.pool.now (omega (arith, c.loop-member-test.false)))
    ∙ program-is c.args.trade.now c.args.at.now c.args.pool.now
