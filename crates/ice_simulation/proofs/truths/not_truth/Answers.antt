use Rattle.std.proofs.Common.{◌≡◌, ◌∙◌, ℕ, List, take, sym, ap}
use Rattle.std.specs.List.{list_any}
use Rattle.std.specs.Str.{bytes_eq}
use Rattle.ice_defs.specs.Round.{Submission}
use Rattle.ice_simulation.proofs.Telling.{stops_repeated, stops_false, goes_on, none_left}
use Rattle.ice_simulation.proofs.truths.not_truth.Goals as goal
use Rattle.ice_simulation.proofs.truths.not_truth.Goals.{then-has_bid_of-via-then-has_bid_of, then-has_bid_of-via-else-has_bid_of+then-not-is_truth}

pub returns-then-has_bid_of : goal.returns-then-has_bid_of
returns-then-has_bid_of c =
    let s = c.index-bids-index.result in
    let said : c.has_bid_of.result ≡ list_any (λ (o : Submission). bytes_eq o.name c.index-bids-index.result.name) (take c.loop-index.index c.args.bids.now) =
    c.has_bid_of.ensures ∙ ap (λ (n : List ℕ). list_any (λ (o : Submission). bytes_eq o.name n) (take c.loop-index.index c.args.bids.now)) c.bidder.ensures.name in
    sym (c.loop-index.invariant
    ∙ elim c.then-has_bid_of.branch [
      | then-has_bid_of-via-then-has_bid_of w ↦
          stops_repeated c.args.exchange.now c.args.bids.now c.loop-index.index c.index-bids-index.result c.loop-index-test.true c.index-bids-index.is (sym said ∙ w.if-has_bid_of.true)
      | then-has_bid_of-via-else-has_bid_of+then-not-is_truth w ↦
          stops_false c.args.exchange.now c.args.bids.now c.loop-index.index c.index-bids-index.result c.loop-index-test.true c.index-bids-index.is (sym said ∙ w.if-has_bid_of.false)
          (sym w.is_truth.ensures ∙ w.if-not-is_truth.true)
    ])

pub loop-index-preserved : goal.loop-index-preserved
loop-index-preserved c =
    let said : c.has_bid_of.result ≡ list_any (λ (o : Submission). bytes_eq o.name c.index-bids-index.result.name) (take c.loop-index.index c.args.bids.now) =
    c.has_bid_of.ensures ∙ ap (λ (n : List ℕ). list_any (λ (o : Submission). bytes_eq o.name n) (take c.loop-index.index c.args.bids.now)) c.bidder.ensures.name in
    c.loop-index.invariant
    ∙ goes_on c.args.exchange.now c.args.bids.now c.loop-index.index c.index-bids-index.result c.loop-index-test.true c.index-bids-index.is (sym said ∙ c.if-has_bid_of.false) (sym c.is_truth.ensures ∙ c.if-not-is_truth.false)

pub returns : goal.returns
returns c = sym (c.loop-index.invariant ∙ none_left c.args.exchange.now c.args.bids.now c.loop-index.index c.loop-index-test.false)
