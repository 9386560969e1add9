use Rattle.std.proofs.Common.{◌≡◌, ◌∙◌, ℕ, List, true, false, sym, ap}
use Rattle.std.specs.Str.{bytes_eq}
use Rattle.ice_simulation.proofs.Telling.{truth_found, truth_passed, truth_none}
use Rattle.ice_simulation.proofs.bids.truth_in.Goals as goal

pub returns-then-eq : goal.returns-then-eq
returns-then-eq c =
    let one : c.text.result.now ≡ c.bid-item.result.name = c.text.ensures.text ∙ c.bidder.ensures.name in
    let same : bytes_eq c.bid-item.result.name c.args.name.now ≡ true =
    ap (λ (n : List ℕ). bytes_eq n c.args.name.now) (sym one) ∙ ap (bytes_eq c.text.result.now) (sym c.text-in-loop-bid.ensures.text) ∙ sym c.eq.ensures ∙ c.if-eq.true in
    c.lo.ensures.values ∙ sym (c.loop-bid.invariant ∙ truth_found c.args.bids.now c.args.name.now c.loop-bid.bid-index c.bid-item.result c.loop-bid-test.true c.bid-item.is same)

pub loop-bid-preserved : goal.loop-bid-preserved
loop-bid-preserved c =
    let one : c.text.result.now ≡ c.bid-item.result.name = c.text.ensures.text ∙ c.bidder.ensures.name in
    let other : bytes_eq c.bid-item.result.name c.args.name.now ≡ false =
    ap (λ (n : List ℕ). bytes_eq n c.args.name.now) (sym one) ∙ ap (bytes_eq c.text.result.now) (sym c.text-in-loop-bid.ensures.text) ∙ sym c.eq.ensures ∙ c.if-eq.false in
    c.loop-bid.invariant ∙ truth_passed c.args.bids.now c.args.name.now c.loop-bid.bid-index c.bid-item.result c.loop-bid-test.true c.bid-item.is other

pub returns : goal.returns
returns c = sym (c.loop-bid.invariant ∙ truth_none c.args.bids.now c.args.name.now c.loop-bid.bid-index c.loop-bid-test.false)
