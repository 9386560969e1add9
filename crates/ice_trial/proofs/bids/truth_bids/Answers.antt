use Rattle.std.proofs.Common.{◌≡◌, ◌∙◌, ◌<◌, ℕ, get_or, List, [], ◌∷◌, ◌++◌, length, sym, ap, arith}
use Rattle.std.proofs.lemmas.List.{get_or_read, take_all, length-map}
use Rattle.ice_defs.specs.Bounds.{Bounds, no_bounds}
use Rattle.ice_defs.specs.Round.{Submission}
use Rattle.ice_defs.specs.Exchange.{Bidder, names_of}
use Rattle.ice_trial.proofs.Bidding.{one_bid_more, bids_count}
use Rattle.ice_trial.proofs.bids.truth_bids.Goals as goal

pub loop-bidder-preserved : goal.loop-bidder-preserved
loop-bidder-preserved c =
    let ex = c.args.exchange.now in
    let truths = c.args.truths.now in
    let n = c.loop-bidder.bidder in
    let names : length (names_of ex) ≡ length ex.bidders = length-map ex.bidders (λ (b : Bidder). b.name) in
    let count : length truths ≡ length (names_of ex) = c.requires.count ∙ sym names in
    let there : n < length (names_of ex) = omega (arith, names, c.loop-bidder-test.true, c.bidders-bidder-end.ensures.value) in
    let truth = get_or_read truths n c.index-truths-bidder.result (omega (arith, count, there)) c.index-truths-bidder.is no_bounds in
    let bid : (name : List ℕ) → (t : Bounds) → Submission = λ name t. record { name = name; lo = t.lo; hi = t.hi } in
    let is = c.truth_bid.ensures ∙ ap (λ (t : Bounds). bid c.bidder_name.result.now t) truth ∙ ap (λ (name : List ℕ). bid name (get_or truths n no_bounds)) c.bidder_name.ensures in
    c.in_ok-push.ensures.items ∙ ap (λ (b : Submission). c.loop-bidder.bids.items ++ b ∷ []) is ∙ one_bid_more (names_of ex) truths n c.loop-bidder.bids.items count there c.loop-bidder.invariant

pub returns : goal.returns
returns c =
    let ex = c.args.exchange.now in
    let truths = c.args.truths.now in
    let names : length (names_of ex) ≡ length ex.bidders = length-map ex.bidders (λ (b : Bidder). b.name) in
    let count : length truths ≡ length (names_of ex) = c.requires.count ∙ sym names in
    c.loop-bidder.invariant ∙ take_all c.loop-bidder.bidder _ (omega (arith, names, bids_count (names_of ex) truths count, c.loop-bidder-test.false, c.bidders-bidder-end.ensures.value))
