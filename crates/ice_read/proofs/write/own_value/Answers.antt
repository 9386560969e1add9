use Rattle.std.proofs.Common.{◌-◌, ◌∙◌, ap, arith, string_bytes}
use Rattle.serde_json.specs.Data.{put}
use Rattle.serde_json.specs.View.{members_view}
use Rattle.serde_json.proofs.Views.{members_view-insert_entry}
use Rattle.ice_read.specs.Parts.{bidder_of}
use Rattle.ice_read.proofs.ListSpelling.{own_start, own_none, own_some}
use Rattle.ice_read.proofs.write.own_value.Goals as goal

pub loop-good-init : goal.loop-good-init
loop-good-init c = ap members_view c.new-own.ensures.empty ∙ own_start c.args.ex.now.goods (bidder_of c.args.ex.now c.args.bidder).own c.goods-good.result (omega (arith, c.goods-good.ensures.value))

pub loop-good-preserved : goal.loop-good-preserved
loop-good-preserved c =
    own_none c.args.ex.now c.args.bidder c.requires c.goods-good.ensures.lawful (c.loop-good.good - 1) c.loop-good.good c.owns-amount.result (members_view c.loop-good.own.entries) (omega arith) (omega (arith, c.goods-good.ensures.value)) c.owns-amount.ensures.value
    c.if-amount-ne0.false c.loop-good.invariant

pub loop-good-preserved-then-amount-ne0 : goal.loop-good-preserved-then-amount-ne0
loop-good-preserved-then-amount-ne0 c =
    let named = c.in_ok-name.ensures.ok ∙ c.text.ensures.text ∙ c.good_name.ensures in
    ap members_view c.in_ok-insert.ensures.entries
    ∙ members_view-insert_entry c.loop-good.own.entries c.in_ok-name.name c.from.result
    ∙ ap (λ d. put (string_bytes c.in_ok-name.name) d (members_view c.loop-good.own.entries)) c.from.ensures
    ∙ own_some c.args.ex.now c.args.bidder c.requires c.goods-good.ensures.lawful (c.loop-good.good - 1) c.loop-good.good c.owns-amount.result (members_view c.loop-good.own.entries) (string_bytes c.in_ok-name.name) (omega arith)
    (omega (arith, c.goods-good.ensures.value)) c.owns-amount.ensures.value c.if-amount-ne0.true c.loop-good.invariant named
