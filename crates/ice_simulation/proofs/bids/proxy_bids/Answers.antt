use Rattle.std.proofs.Common.{◌≡◌, ◌∙◌, [], ◌∷◌, length, ap, arith}
use Rattle.std.proofs.lemmas.List.{length-append, length-map}
use Rattle.ice_defs.specs.Exchange.{Bidder, Exchange}
use Rattle.ice_simulation.specs.TruthFile.{truth_in, truth_lists}
use Rattle.ice_simulation.specs.Rounds.{IsProxyBidOf}
use Rattle.ice_simulation.proofs.Bidding.{bids_of_each, one_more}
use Rattle.ice_simulation.proofs.bids.proxy_bids.Goals as goal

pub loop-bidder-preserved : goal.loop-bidder-preserved
loop-bidder-preserved c = record {
  count = ap length c.in_ok-push.ensures.items ∙ length-append c.loop-bidder.bids.items (c.proxy_bid.result ∷ []) ∙ omega (arith, c.loop-bidder.invariant.count);
  each =
      one_more (IsProxyBidOf c.args.round.now (truth_lists c.args.round.now.exchange.bidders c.args.truths.now)) c.loop-bidder.bids.items c.push.new.self.items c.proxy_bid.result c.loop-bidder.bidder
      c.loop-bidder.invariant.count c.in_ok-push.ensures.items c.loop-bidder.invariant.each c.proxy_bid.ensures;
}

pub returns : goal.returns
returns c =
    let ex = c.args.round.now.exchange in
    let bidders : c.bidders-bidder-end.result ≡ length c.args.round.now.exchange.bidders = c.bidders-bidder-end.ensures.value ∙ ap (λ (x : Exchange). length x.bidders) c.exchange.ensures in
    let all : c.loop-bidder.bidder ≡ length c.args.round.now.exchange.bidders = omega (arith, bidders, c.loop-bidder-test.false, c.loop-bidder.auto.bidder-end) in
    bids_of_each c.args.round.now.round.prices c.args.round.now.exchange.settings.improve c.args.round.now.exchange.bidders c.args.round.now.round.bounds c.args.round.now.round.sets
    (truth_lists c.args.round.now.exchange.bidders c.args.truths.now) c.loop-bidder.bids.items c.requires.stands.bounds_count c.requires.stands.sets_count
    (length-map c.args.round.now.exchange.bidders (λ (b : Bidder). truth_in c.args.truths.now b.name)) (c.loop-bidder.invariant.count ∙ all)
    (λ k h. c.loop-bidder.invariant.each k (omega (arith, h, all)))
