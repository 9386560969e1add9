-- Bidders that are read one after another.
use Rattle.std.proofs.Common.{◌≡◌, ℕ, suc, ◌<◌, false, List, [], ◌∷◌, ◌++◌, length, drop, get_or, Some, Ok, Err, sym, ap, ◌∙◌, subst, arith, drop-cons}
use Rattle.std.specs.Prelude.{codes}
use Rattle.std.specs.List.{IsDistinct, list_any}
use Rattle.std.specs.Str.{bytes_eq}
use Rattle.std.proofs.lemmas.List.{length_push, map-append}
use Rattle.serde_json.specs.Data.{Data}
use Rattle.serde_json.specs.View.{view, items_view}
use Rattle.serde_json.specs.declared.value.Value.{Value}
use Rattle.ice_defs.specs.FileFault.{FileFault, Path, ◌>>=◌}
use Rattle.ice_defs.proofs.Lists.{all_push}
use Rattle.ice_defs.proofs.Naming.{distinct_push}
use Rattle.ice_read.specs.Values.{at_index, of_member, text_of}
use Rattle.ice_read.specs.ExchangeFile.{unless_refused, own_at}
use Rattle.ice_xor.specs.declared.bidders.Form.{Form}
use Rattle.ice_xor.specs.declared.bidders.Form.TheVariants.{Xor, Or}
use Rattle.ice_xor.specs.FlatBids.{Package, FlatBidder}
use Rattle.ice_xor.specs.Forms.{form_word, form_any, IsForm}
use Rattle.ice_xor.specs.FlatFile.{packages_at, flat_bidder_of, flat_bidder_at, flat_refusal, flat_bidders_with, flat_bidders_from}
use Rattle.ice_xor.specs.Lawful.{IsFlatBidder, AreFlatBidders}

-- ---- one bidder

pub form-read : (goods : List (List ℕ)) (path : Path) (d : Data) (form : Form) → IsForm (Some form) d → flat_bidder_at goods path d ≡ flat_bidder_of goods path d (form_word form) (form_any form)
form-read goods path d Xor is = rw is
form-read goods path d Or is = rw (is.0, is.1)

pub bidder-read : (goods : List (List ℕ)) (path : Path) (d : Data) (form : Form) (name own : List ℕ) (packages : List Package) → IsForm (Some form) d → of_member path d (codes "name") text_of ≡ Ok name
    → of_member path d (codes "own") (own_at goods) ≡ Ok own → of_member path d (form_word form) (packages_at goods) ≡ Ok packages
    → (bidders : List FlatBidder) → flat_bidders_with goods path bidders d ≡ unless_refused path (flat_refusal bidders name) (bidders ++ record { name = name; own = own; any = form_any form; packages = packages } ∷ [])
bidder-read goods path d form name own packages is named owned packed bidders =
    let read : flat_bidder_of goods path d (form_word form) (form_any form) ≡ Ok (record { name = name; own = own; any = form_any form; packages = packages }) = rw (named, owned, packed) in
    ap (λ r. r >>= λ b. unless_refused path (flat_refusal bidders b.name) (bidders ++ b ∷ [])) (form-read goods path d form is ∙ read)

-- ---- lawful bidders

pub no-bidders : (goods : ℕ) → AreFlatBidders goods []
unfolding IsDistinct
no-bidders goods = record { few = omega arith; names = tt; each = tt }

pub bidders-push : (goods : ℕ) (bidders : List FlatBidder) (b : FlatBidder) → AreFlatBidders goods bidders → IsFlatBidder goods b → list_any (λ other. bytes_eq other.name b.name) bidders ≡ false → length bidders < 40
    → AreFlatBidders goods (bidders ++ b ∷ [])
bidders-push goods bidders b are is fresh room = record {
  few = omega (arith, length_push bidders b);
  names = subst (IsDistinct bytes_eq) (sym (map-append (λ (x : FlatBidder). x.name) bidders (b ∷ []))) (distinct_push (λ (x : FlatBidder). x.name) bidders b are.names fresh);
  each = all_push (IsFlatBidder goods) bidders b are.each is;
}

-- ---- one after another

module _ (goods : List (List ℕ)) (path : Path) (vs : List Value) (i : ℕ) (bidders : List FlatBidder) (v : Value) (there : i < length vs) (item : v ≡ get_or vs i v) where
  here : flat_bidders_from goods path i bidders (items_view (drop i vs)) ≡ (flat_bidders_with goods (at_index path i) bidders (view v) >>= λ more. flat_bidders_from goods path (suc i) more (items_view (drop (suc i) vs)))
  here =
      ap (λ l. flat_bidders_from goods path i bidders (items_view l)) (drop-cons vs i v there)
      ∙ ap (λ w. flat_bidders_with goods (at_index path i) bidders (view w) >>= λ more. flat_bidders_from goods path (suc i) more (items_view (drop (suc i) vs))) (sym item)

  pub bad-bidder : (fault : FileFault) → flat_bidders_with goods (at_index path i) bidders (view v) ≡ Err fault → flat_bidders_from goods path i bidders (items_view (drop i vs)) ≡ Err fault
  bad-bidder fault read = here ∙ ap (λ r. r >>= λ more. flat_bidders_from goods path (suc i) more (items_view (drop (suc i) vs))) read
