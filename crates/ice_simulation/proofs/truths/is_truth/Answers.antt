use Rattle.std.proofs.Common.{◌≡◌, ◌∙◌, ◌<◌, ◌&&◌, List, ℕ, Some, None, get_or, length, sym, ap, arith}
use Rattle.std.specs.List.{position}
use Rattle.std.specs.Str.{bytes_eq}
use Rattle.std.proofs.lemmas.List.{get_or_read, length-map}
use Rattle.ice_defs.specs.Bounds.{Bounds}
use Rattle.ice_defs.specs.Exchange.{Bidder, names_of}
use Rattle.ice_simulation.specs.TruthFile.{are_inside, same_values, is_truth_of}
use Rattle.ice_simulation.proofs.Telling.{named_none, named_some, nobody, bounds_at}
use Rattle.ice_simulation.proofs.truths.is_truth.Goals as goal

pub returns-in-Some : goal.returns-in-Some
returns-in-Some c =
    let name : c.text.result.now ≡ c.args.bid.now.name = c.text.ensures.text ∙ c.bidder.ensures.name in
    let at : position (bytes_eq c.args.bid.now.name) (names_of c.args.exchange.now) ≡ Some c.in-Some.bidder =
    ap (λ (n : List ℕ). position (bytes_eq n) (names_of c.args.exchange.now)) (sym name) ∙ sym c.find_bidder.ensures ∙ c.in-Some.is in
    let (within, named) = named_some c.args.bid.now.name c.args.exchange.now.bidders c.in-Some.bidder nobody at in
    let there : c.in-Some.bidder < length c.bounds.result.now = omega (arith, within, ap length c.bounds.ensures.value, length-map c.args.exchange.now.bidders (λ (b : Bidder). b.bounds)) in
    let bounds : c.index-bounds-bidder.result ≡ (get_or c.args.exchange.now.bidders c.in-Some.bidder nobody).bounds =
    get_or_read c.bounds.result.now c.in-Some.bidder c.index-bounds-bidder.result there c.index-bounds-bidder.is nobody.bounds
    ∙ ap (λ (bs : List Bounds). get_or bs c.in-Some.bidder nobody.bounds) c.bounds.ensures.value
    ∙ bounds_at c.args.exchange.now.bidders c.in-Some.bidder nobody in
    c.is_truth_inside.ensures
    ∙ ap (λ (b : Bounds). same_values c.args.bid.now.lo c.args.bid.now.hi && are_inside b.lo c.args.bid.now.lo b.hi) bounds
    ∙ sym (ap (is_truth_of c.args.bid.now) named)

pub returns-in-None : goal.returns-in-None
returns-in-None c =
    let name : c.text.result.now ≡ c.args.bid.now.name = c.text.ensures.text ∙ c.bidder.ensures.name in
    let at : position (bytes_eq c.args.bid.now.name) (names_of c.args.exchange.now) ≡ None =
    ap (λ (n : List ℕ). position (bytes_eq n) (names_of c.args.exchange.now)) (sym name) ∙ sym c.find_bidder.ensures ∙ c.in-None.is in
    sym (ap (is_truth_of c.args.bid.now) (named_none c.args.bid.now.name c.args.exchange.now.bidders at))
