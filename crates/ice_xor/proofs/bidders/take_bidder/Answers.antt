use Rattle.std.proofs.Common.{◌≡◌, ◌∙◌, ◌++◌, ◌∷◌, [], length, None, Ok, false, refl, sym, ap, subst, rules}
use Rattle.std.specs.List.{list_any}
use Rattle.std.specs.Str.{bytes_eq}
use Rattle.std.proofs.lemmas.List.{length-map}
use Rattle.serde_json.specs.View.{view}
use Rattle.ice_defs.specs.Exchange.{Good}
use Rattle.ice_defs.specs.Lawful.{good_names}
use Rattle.ice_read.specs.declared.cause.ReadCause.TheVariants.{Shape}
use Rattle.ice_read.specs.Values.{of_member, member_or_null, at_member}
use Rattle.ice_read.specs.ExchangeFile.{unless_refused}
use Rattle.ice_read.proofs.PlacesOfFaults.{refused}
use Rattle.ice_read.proofs.GoodsAndBidders.{unmade}
use Rattle.ice_xor.specs.FlatBids.{FlatBidder}
use Rattle.ice_xor.specs.Forms.{form_any}
use Rattle.ice_xor.specs.Lawful.{IsFlatBidder, AreFlatBidders}
use Rattle.ice_xor.specs.FlatFile.{packages_at, flat_refusal}
use Rattle.ice_xor.proofs.BiddersRead.{bidder-read, bidders-push}
use Rattle.ice_xor.proofs.PackagesRead.{packages_at-lawful}
use Rattle.ice_xor.proofs.bidders.take_bidder.Goals as goal

pub returns-in_default-clause-refused : goal.returns-in_default-clause-refused
returns-in_default-clause-refused c = λ other path. rw (c.in_default.ensures.0, c.in_default.ensures.1) (refused 2 Shape c.of.result c.of.ensures refl path)

pub returns-in-Err-clause-refused : goal.returns-in-Err-clause-refused
returns-in-Err-clause-refused c = λ other path.
    let names = good_names c.args.exchange.now in
    let d = view c.args.value.now in
    let bidders = c.args.bidders.now.items in
    let form = c.in-Some.form in
    let packages = c.in_ok-packages.packages.items in
    let b : FlatBidder = record { name = c.in_ok-name.name.now; own = c.in_ok-own.own.items; any = form_any form; packages = packages } in
    let due = rw c.deref.ensures.value at c.in-Err.ensures.refused in
    bidder-read names path d form c.in_ok-name.name.now c.in_ok-own.own.items packages c.in-Some.ensures (c.in_ok-name.ensures.reading path) (c.in_ok-own.ensures.reading path)
    (ap (λ w. of_member path d w (packages_at names)) (sym c.word.ensures.word) ∙ c.in_ok-packages.ensures.reading path) bidders
    ∙ unmade (flat_refusal bidders c.in_ok-name.name.now) c.in-Err.fault c.of-in-Err.result (bidders ++ b ∷ []) path due.0 due.1 c.of-in-Err.ensures

pub returns-clause-taken : goal.returns-clause-taken
returns-clause-taken c = λ path.
    let names = good_names c.args.exchange.now in
    let d = view c.args.value.now in
    let bidders = c.args.bidders.now.items in
    let form = c.in-Some.form in
    let own = c.in_ok-own.own.items in
    let packages = c.in_ok-packages.packages.items in
    let pushed : c.push.new.self.items ≡ bidders ++ record { name = c.in-Ok.name; own = own; any = form_any c.in-Some.form; packages = packages } ∷ [] = search rules in
    let due : flat_refusal bidders c.in_ok-name.name.now ≡ None = rw c.deref.ensures.value at c.in-Ok.ensures.refused in
    bidder-read names path d form c.in_ok-name.name.now own packages c.in-Some.ensures (c.in_ok-name.ensures.reading path) (c.in_ok-own.ensures.reading path)
    (ap (λ w. of_member path d w (packages_at names)) (sym c.word.ensures.word) ∙ c.in_ok-packages.ensures.reading path) bidders
    ∙ ap (λ o. unless_refused path o (bidders ++ record { name = c.in_ok-name.name.now; own = own; any = form_any form; packages = packages } ∷ [])) due
    ∙ ap (λ name. Ok (bidders ++ record { name = name; own = own; any = form_any form; packages = packages } ∷ [])) (sym c.in-Ok.ensures.made)
    ∙ ap Ok (sym pushed)

pub returns-clause-lawful : goal.returns-clause-lawful
returns-clause-lawful c =
    let names = good_names c.args.exchange.now in
    let d = view c.args.value.now in
    let goods = length c.args.exchange.now.goods in
    let bidders = c.args.bidders.now.items in
    let packages = c.in_ok-packages.packages.items in
    let b : FlatBidder = record { name = c.in-Ok.name; own = c.in_ok-own.own.items; any = form_any c.in-Some.form; packages = packages } in
    let pushed : c.push.new.self.items ≡ bidders ++ b ∷ [] = search rules in
    let read = packages_at-lawful names (at_member [] c.word.result.now) (member_or_null c.word.result.now d) packages (c.in_ok-packages.ensures.reading []) in
    let count : length names ≡ goods = length-map c.args.exchange.now.goods (λ (good : Good). good.name) in
    let is : IsFlatBidder goods b = record { name = c.in-Ok.ensures.named; own_count = c.in_ok-own.ensures.count; own = c.in_ok-own.ensures.limits; some = read.0; packages = rw count at read.1 } in
    let fresh : list_any (λ (other : FlatBidder). bytes_eq other.name b.name) bidders ≡ false = rw c.deref.ensures.value at c.in-Ok.ensures.fresh in
    let room = rw c.deref.ensures.value at c.in-Ok.ensures.room in
    subst (AreFlatBidders goods) (sym pushed) (bidders-push goods bidders b c.requires.lawful is fresh room)
