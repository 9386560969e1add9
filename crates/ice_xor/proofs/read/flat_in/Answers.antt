use Rattle.std.proofs.Common.{◌∙◌, [], cond, Ok, refl, ap, arith}
use Rattle.std.proofs.lemmas.Result.{err_from_is_err_and}
use Rattle.serde_json.specs.View.{view}
use Rattle.ice_defs.specs.FileFault.{refuse}
use Rattle.ice_trade.specs.declared.faults.MakeFault.TheVariants.{Empty}
use Rattle.ice_read.specs.declared.cause.ReadCause.TheVariants.{Make}
use Rattle.ice_read.proofs.PlacesOfFaults.{refused}
use Rattle.ice_xor.specs.FlatBids.{FlatExchange}
use Rattle.ice_xor.proofs.FlatFiles.{flat_chain, made-where, kept-settings}
use Rattle.ice_xor.proofs.read.flat_in.Goals as goal

pub returns-in_err-settings : goal.returns-in_err-settings
returns-in_err-settings c =
    let p = err_from_is_err_and c.from_residual.result c.from_residual.ensures.1 in
    rw (p.1, p.2) (λ other. rw (← c.if-not-has_exactly.ensures, c.in_err-settings.ensures []))

pub returns-in_err-take_goods_member : goal.returns-in_err-take_goods_member
returns-in_err-take_goods_member c =
    let p = err_from_is_err_and c.from_residual-in_err-take_goods_member.result c.from_residual-in_err-take_goods_member.ensures.1 in
    rw (p.1, p.2) (λ other. rw (← c.if-not-has_exactly.ensures, c.in_ok-settings.ensures [], c.in_err-take_goods_member.ensures.refused []))

pub returns-in_err-bidders : goal.returns-in_err-bidders
returns-in_err-bidders c =
    let p = err_from_is_err_and c.from_residual-in_err-bidders.result c.from_residual-in_err-bidders.ensures.1 in
    rw (p.1, p.2) (λ other. rw (← c.if-not-has_exactly.ensures, c.in_ok-settings.ensures [], c.in_ok-take_goods_member.ensures.taken [], c.in_err-bidders.ensures.reading other []))

pub returns-then-is_empty : goal.returns-then-is_empty
returns-then-is_empty c = λ other.
    let settings = c.in_ok-settings.settings in
    let goods = c.take_goods_member.new.exchange.goods in
    let bidders = c.in_ok-bidders.bidders.items in
    flat_chain (view c.args.value.now) settings goods bidders c.if-not-has_exactly.ensures (c.in_ok-settings.ensures []) (c.in_ok-take_goods_member.ensures.taken []) (c.in_ok-bidders.ensures.reading [])
    ∙ made-where settings goods bidders c.goods-count.result c.len.result c.is_empty.result c.goods-count.ensures.value (omega (arith, c.len.ensures)) c.is_empty.ensures
    ∙ ap (λ b. cond b (refuse 16 []) (Ok (record { settings = settings; goods = goods; bidders = bidders }))) c.if-is_empty.true
    ∙ refused 16 (Make Empty) c.of-then-is_empty.result c.of-then-is_empty.ensures refl []

pub returns : goal.returns
returns c =
    let settings = c.in_ok-settings.settings in
    let goods = c.take_goods_member.new.exchange.goods in
    let bidders = c.in_ok-bidders.bidders.items in
    flat_chain (view c.args.value.now) settings goods bidders c.if-not-has_exactly.ensures (c.in_ok-settings.ensures []) (c.in_ok-take_goods_member.ensures.taken []) (c.in_ok-bidders.ensures.reading [])
    ∙ made-where settings goods bidders c.goods-count.result c.len.result c.is_empty.result c.goods-count.ensures.value (omega (arith, c.len.ensures)) c.is_empty.ensures
    ∙ ap (λ b. cond b (refuse 16 []) (Ok (record { settings = settings; goods = goods; bidders = bidders }))) c.if-is_empty.false
    ∙ ap (λ (flat : FlatExchange). Ok flat) (kept-settings settings c.in-Ok.goods c.take_goods_member.new.exchange bidders c.in-Ok.ensures c.in_ok-take_goods_member.ensures.same)
