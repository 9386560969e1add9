use Rattle.std.proofs.Common.{rules, ◌≡◌, ◌*◌, ◌++◌, leb, length, map, replicate, arith, ap, sym, ◌∙◌, refl}
use Rattle.std.specs.Prelude.{codes, decimal}
use Rattle.std.specs.List.{list_all}
use Rattle.ice_defs.specs.Exchange.{Exchange, Bidder}
use Rattle.ice_gen.specs.Drawing.{state_after}
use Rattle.ice_gen.specs.Parts.{truth_of, exchange_with}
use Rattle.ice_gen.proofs.Drawing.{state_after-none}
use Rattle.ice_gen.proofs.Joining.{sellers, traders, IsBidder-drawn, owned_one-few, seller-drawn, buyer-drawn, seller-joins, buyer-joins, seller-grown, buyer-grown, seller-truths, buyer-truths, seller-state, buyer-state, generated-all, truths-all}
use Rattle.ice_gen.proofs.exchange.generate.Goals as goal

pub loop-seller_number-init : goal.loop-seller_number-init
loop-seller_number-init c = (c.in_ok-goods_maker.ensures, c.new.ensures.items, c.new-generator.ensures ∙ sym (state_after-none c.args.number))

pub add-requires-clause-lawful : goal.add-requires-clause-lawful
add-requires-clause-lawful c =
    let twelve : length c.loop-seller_number.draft.maker.goods ≡ 12 = ap (λ (x : Exchange). length x.goods) c.loop-seller_number.invariant.0 in
    let owned = owned_one-few c.loop-seller_number.seller_number c.loop-seller_number-test.true in
    IsBidder-drawn _ _ twelve c.seller-valuation.ensures.limited c.seller-valuation.ensures.ordered
    (ap length c.owned_by.ensures ∙ owned.0) (ap (λ xs. list_all (λ x. leb x 1000000) xs) c.owned_by.ensures ∙ owned.1)

pub add-requires-clause-unrefused : goal.add-requires-clause-unrefused
add-requires-clause-unrefused c =
    let named : c.deref.result.now ≡ codes "S" ++ decimal c.loop-seller_number.seller_number = search rules in
    seller-joins c.args.number _ _ _ c.loop-seller_number-test.true c.loop-seller_number.invariant.0
    (seller-drawn c.args.number _ _ _ c.loop-seller_number.invariant.2 named c.owned_by.ensures c.seller-valuation.ensures.tree c.seller-valuation.ensures.bounds)

pub loop-seller_number-preserved : goal.loop-seller_number-preserved
loop-seller_number-preserved c =
    let b : Bidder = record { name = c.deref.result.now; own = c.owned_by.result; tree = c.seller-valuation.result.tree; bounds = c.seller-valuation.result.bounds } in
    let named : c.deref.result.now ≡ codes "S" ++ decimal c.loop-seller_number.seller_number = search rules in (
      seller-grown c.args.number c.loop-seller_number.seller_number c.loop-seller_number.draft.maker c.add.new.self.maker b c.loop-seller_number.invariant.0
          (seller-drawn c.args.number _ _ b c.loop-seller_number.invariant.2 named c.owned_by.ensures c.seller-valuation.ensures.tree c.seller-valuation.ensures.bounds) c.in_ok-add.ensures.exchange,
      seller-truths c.args.number c.loop-seller_number.seller_number _ _ _ _ c.loop-seller_number.invariant.2 c.loop-seller_number.invariant.1 c.seller-valuation.ensures.truth c.in_ok-add.ensures.truth,
      seller-state c.args.number c.loop-seller_number.seller_number _ _ c.loop-seller_number.invariant.2 c.seller-valuation.ensures.state,
    )

pub loop-buyer_number-init : goal.loop-buyer_number-init
loop-buyer_number-init c =
    let all : c.loop-seller_number.seller_number ≡ 4 = omega arith in (
      c.loop-seller_number.invariant.0 ∙ ap (λ i. exchange_with (sellers c.args.number i)) all,
      c.loop-seller_number.invariant.1 ∙ ap (λ i. map truth_of (sellers c.args.number i)) all,
      c.loop-seller_number.invariant.2 ∙ ap (λ i. state_after (9 * i) c.args.number) all,
    )

pub add-requires-in-loop-buyer_number-clause-lawful :
    goal.add-requires-in-loop-buyer_number-clause-lawful
add-requires-in-loop-buyer_number-clause-lawful c =
    let twelve : length c.loop-buyer_number.draft.maker.goods ≡ 12 = ap (λ (x : Exchange). length x.goods) c.loop-buyer_number.invariant.0 in
    IsBidder-drawn _ _ twelve c.buyer-valuation.ensures.limited c.buyer-valuation.ensures.ordered refl refl

pub add-requires-in-loop-buyer_number-clause-unrefused :
    goal.add-requires-in-loop-buyer_number-clause-unrefused
add-requires-in-loop-buyer_number-clause-unrefused c =
    let named : c.deref-in-loop-buyer_number.result.now ≡ codes "B" ++ decimal c.loop-buyer_number.buyer_number = search rules in
    buyer-joins c.args.number _ _ _ c.loop-buyer_number-test.true c.loop-buyer_number.invariant.0
    (buyer-drawn c.args.number _ _ _ c.loop-buyer_number.invariant.2 named refl c.buyer-valuation.ensures.tree c.buyer-valuation.ensures.bounds)

pub loop-buyer_number-preserved : goal.loop-buyer_number-preserved
loop-buyer_number-preserved c =
    let b : Bidder = record { name = c.deref-in-loop-buyer_number.result.now; own = replicate 12 0; tree = c.buyer-valuation.result.tree; bounds = c.buyer-valuation.result.bounds } in
    let named : c.deref-in-loop-buyer_number.result.now ≡ codes "B" ++ decimal c.loop-buyer_number.buyer_number = search rules in (
      buyer-grown c.args.number c.loop-buyer_number.buyer_number c.loop-buyer_number.draft.maker c.add-in-loop-buyer_number.new.self.maker b c.loop-buyer_number.invariant.0
          (buyer-drawn c.args.number _ _ b c.loop-buyer_number.invariant.2 named refl c.buyer-valuation.ensures.tree c.buyer-valuation.ensures.bounds) c.in_ok-add-2.ensures.exchange,
      buyer-truths c.args.number c.loop-buyer_number.buyer_number _ _ _ _ c.loop-buyer_number.invariant.2 c.loop-buyer_number.invariant.1 c.buyer-valuation.ensures.truth c.in_ok-add-2.ensures.truth,
      buyer-state c.args.number c.loop-buyer_number.buyer_number _ _ c.loop-buyer_number.invariant.2 c.buyer-valuation.ensures.state,
    )

pub finish-requires-clause-goods : goal.finish-requires-clause-goods
finish-requires-clause-goods c =
    let twelve : length c.loop-buyer_number.draft.maker.goods ≡ 12 = ap (λ (x : Exchange). length x.goods) c.loop-buyer_number.invariant.0 in
    omega arith

pub finish-requires-clause-bidders : goal.finish-requires-clause-bidders
finish-requires-clause-bidders c =
    let all : c.loop-buyer_number.buyer_number ≡ 4 = omega arith in
    let eight : length c.loop-buyer_number.draft.maker.bidders ≡ 8 =
    ap (λ (x : Exchange). length x.bidders) (c.loop-buyer_number.invariant.0 ∙ ap (λ i. exchange_with (traders c.args.number i)) all) in
    omega arith

pub returns-clause-exchange : goal.returns-clause-exchange
returns-clause-exchange c =
    let all : c.loop-buyer_number.buyer_number ≡ 4 = omega arith in
    c.finish.ensures.exchange ∙ c.loop-buyer_number.invariant.0 ∙ ap (λ i. exchange_with (traders c.args.number i)) all ∙ generated-all c.args.number

pub returns-clause-truth : goal.returns-clause-truth
returns-clause-truth c =
    let all : c.loop-buyer_number.buyer_number ≡ 4 = omega arith in
    c.finish.ensures.truth ∙ c.loop-buyer_number.invariant.1 ∙ ap (λ i. map truth_of (traders c.args.number i)) all ∙ truths-all c.args.number
