use Rattle.std.proofs.Common.{◌≡◌, ◌∙◌, ℕ, List, [], true, false, get_or, sym, ap, arith, below_more}
use Rattle.std.specs.List.{list_any}
use Rattle.std.specs.Str.{bytes_eq}
use Rattle.ice_defs.specs.Round.{Submission}
use Rattle.ice_defs.specs.Exchange.{names_of}
use Rattle.ice_simulation.proofs.Telling.{lacks_from, lacks_none}
use Rattle.ice_simulation.proofs.truths.lacks_truth.Goals as goal

pub returns-then-not-has_bid_of : goal.returns-then-not-has_bid_of
returns-then-not-has_bid_of c =
    let at : list_any (λ (s : Submission). bytes_eq s.name (get_or (names_of c.args.exchange.now) c.loop-bidder.bidder [])) c.args.bids.now ≡ false =
    ap (λ (n : List ℕ). list_any (λ (s : Submission). bytes_eq s.name n) c.args.bids.now) (sym c.bidder_name.ensures) ∙ sym c.has_bid_of.ensures ∙ c.if-not-has_bid_of.true in
    sym (lacks_from c.args.bids.now c.args.exchange.now.bidders c.loop-bidder.bidder (omega (arith, c.loop-bidder-test.true, c.bidders-bidder-end.ensures.value)) at)

pub loop-bidder-preserved : goal.loop-bidder-preserved
loop-bidder-preserved c =
    let at : list_any (λ (s : Submission). bytes_eq s.name (get_or (names_of c.args.exchange.now) c.loop-bidder.bidder [])) c.args.bids.now ≡ true =
    ap (λ (n : List ℕ). list_any (λ (s : Submission). bytes_eq s.name n) c.args.bids.now) (sym c.bidder_name.ensures) ∙ sym c.has_bid_of.ensures ∙ c.if-not-has_bid_of.false in
    below_more (λ (k : ℕ). list_any (λ (s : Submission). bytes_eq s.name (get_or (names_of c.args.exchange.now) k [])) c.args.bids.now ≡ true) c.loop-bidder.bidder c.loop-bidder.invariant at

pub returns : goal.returns
returns c =
    sym (lacks_none c.args.bids.now c.args.exchange.now.bidders (λ k h. c.loop-bidder.invariant k (omega (arith, h, c.loop-bidder-test.false, c.bidders-bidder-end.ensures.value))))
