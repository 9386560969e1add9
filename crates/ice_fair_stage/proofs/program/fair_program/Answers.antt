use Rattle.std.proofs.Common.{◌≡◌, ◌∙◌, [], ◌∷◌, ap, arith, rules, length, take}
use Rattle.std.proofs.lemmas.List.{take_all, length-take}
use Rattle.ice_defs.specs.Program.{Program}
use Rattle.ice_fair_stage.specs.Stages.{with_rows, good_row, rows_of}
use Rattle.ice_fair_stage.proofs.FairPrograms.{made_of, made-rows, good-more, bidder-more, program-is}
use Rattle.ice_fair_stage.proofs.program.fair_program.Goals as goal

pub add_good-requires-clause-few : goal.add_good-requires-clause-few
add_good-requires-clause-few c =
    omega (
      arith,
      ap (λ (p : Program). length p.rows) c.loop-good.invariant,
      made-rows c.args.trade.now c.args.at.now c.loop-good.good 0 [],
      c.goods-good-end.ensures.proper.goods_count.1,
      c.goods-good-end.ensures.value,
      c.loop-good-test.true,
    )

pub loop-good-preserved : goal.loop-good-preserved
loop-good-preserved c =
    let new : c.add_good.new.program ≡ with_rows c.loop-good.program (good_row c.args.trade.now c.loop-good.good ∷ []) = search rules in
    new ∙ ap (λ (p : Program). with_rows p (good_row c.args.trade.now c.loop-good.good ∷ [])) c.loop-good.invariant
    ∙ good-more c.args.trade.now c.args.at.now c.loop-good.good

pub add_bidder-requires-clause-few : goal.add_bidder-requires-clause-few
add_bidder-requires-clause-few c =
    omega (
      arith,
      ap (λ (p : Program). length p.rows) c.loop-bidder.invariant,
      made-rows c.args.trade.now c.args.at.now c.args.trade.now.goods c.loop-bidder.bidder [],
      c.bidders-bidder-end.ensures.proper.goods_count.1,
      c.bidders-bidder-end.ensures.proper.bidders.1,
      c.bidders-bidder-end.ensures.value,
      c.loop-bidder-test.true,
    )

pub loop-bidder-preserved : goal.loop-bidder-preserved
loop-bidder-preserved c =
    let new : c.add_bidder.new.program ≡ with_rows c.loop-bidder.program (rows_of c.args.trade.now c.args.at.now c.loop-bidder.bidder) = search rules in
    new ∙ ap (λ (p : Program). with_rows p (rows_of c.args.trade.now c.args.at.now c.loop-bidder.bidder)) c.loop-bidder.invariant
    ∙ bidder-more c.args.trade.now c.args.at.now c.args.trade.now.goods c.loop-bidder.bidder

pub add_member-requires-clause-few : goal.add_member-requires-clause-few
add_member-requires-clause-few c =
    omega (
      arith,
      ap (λ (p : Program). length p.rows) c.loop-member.invariant,
      made-rows c.args.trade.now c.args.at.now c.args.trade.now.goods (length c.args.trade.now.trees) (take c.loop-member.member-index c.args.pool.now),
      length-take c.loop-member.member-index c.args.pool.now,
      c.goods.ensures.proper.goods_count.1,
      c.goods.ensures.proper.bidders.1,
      c.loop-member-test.true,
      c.requires.few,
    )

pub returns : goal.returns
returns c =
    c.loop-member.invariant
    ∙ ap (made_of c.args.trade.now c.args.at.now c.args.trade.now.goods (length c.args.trade.now.trees)) (take_all c.loop-member.member-index c.args.pool.now (omega (arith, c.loop-member-test.false)))
    ∙ program-is c.args.trade.now c.args.at.now c.args.pool.now
