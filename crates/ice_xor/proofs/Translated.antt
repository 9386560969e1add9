-- How far an exchange is translated: the state of the loop over the bidders.
use Rattle.std.proofs.Common.{ℕ, suc, ◌+◌, ◌<◌, ◌≡◌, List, [], ◌∷◌, ◌++◌, length, map, take, drop, get_or, Option, Some, None, refl, sym, ap, ◌∙◌, rules, add-one, drop-cons}
use Rattle.std.specs.Prelude.{IsSome}
use Rattle.std.proofs.lemmas.List.{take_more, map-append}
use Rattle.ice_defs.specs.Exchange.{Bidder, Exchange}
use Rattle.ice_defs.specs.Making.{bidder_refusal}
use Rattle.ice_trade.specs.Parts.{with_bidder}
use Rattle.ice_xor.specs.FlatBids.{FlatBidder, FlatExchange, translated_bidder}
use Rattle.ice_xor.specs.Translating.{or_later, tree_refusal, refusal_of, refusal_from, translate_refusal}

-- these bidders so far, and what is left decides
pub record IsTranslating (flat : FlatExchange) (ex : Exchange) (i : ℕ) : Type 0 where
  pub is : ex ≡ record { settings = flat.settings; goods = flat.goods; bidders = map translated_bidder (take i flat.bidders) }
  pub rest : translate_refusal flat ≡ refusal_from (length flat.goods) i ex.bidders (drop i flat.bidders)

-- what is due at a bidder
abbrev pub due_at : ℕ → List Bidder → FlatBidder → Option ℕ
due_at goods made b = or_later (tree_refusal goods b) (bidder_refusal goods made (translated_bidder b))

module _ (flat : FlatExchange) (ex : Exchange) (i : ℕ) (b : FlatBidder) (translating : IsTranslating flat ex i) (there : i < length flat.bidders) (item : b ≡ get_or flat.bidders i b) where
  next : translate_refusal flat ≡ refusal_of i (due_at (length flat.goods) ex.bidders b) (refusal_from (length flat.goods) (suc i) (ex.bidders ++ translated_bidder b ∷ []) (drop (suc i) flat.bidders))
  next =
      let here : drop i flat.bidders ≡ b ∷ drop (suc i) flat.bidders = drop-cons flat.bidders i b there ∙ ap (λ c. c ∷ drop (suc i) flat.bidders) (sym item) in
      translating.rest ∙ ap (refusal_from (length flat.goods) i ex.bidders) here

  pub translating-goods : length ex.goods ≡ length flat.goods
  translating-goods = ap (λ (e : Exchange). length e.goods) translating.is

  pub translating-refused : (number : ℕ) → due_at (length ex.goods) ex.bidders b ≡ Some number → translate_refusal flat ≡ Some (record { bidder = i; fault = number })
  translating-refused number due =
      next ∙ ap (λ o. refusal_of i o (refusal_from (length flat.goods) (suc i) (ex.bidders ++ translated_bidder b ∷ []) (drop (suc i) flat.bidders))) (ap (λ n. due_at n ex.bidders b) (sym translating-goods) ∙ due)

  pub translating-more : (after : Exchange) → due_at (length ex.goods) ex.bidders b ≡ None → after ≡ with_bidder ex (translated_bidder b) → IsTranslating flat after (i + 1)
  translating-more after due made =
      let more : take (i + 1) flat.bidders ≡ take i flat.bidders ++ b ∷ [] = take_more flat.bidders i b there ∙ ap (λ c. take i flat.bidders ++ c ∷ []) (sym item) in
      record {
        is = made
            ∙ ap (λ e. with_bidder e (translated_bidder b)) translating.is
            ∙ ap (λ bs. record { settings = flat.settings; goods = flat.goods; bidders = bs }) (sym (map-append translated_bidder (take i flat.bidders) (b ∷ [])) ∙ ap (map translated_bidder) (sym more));
        rest = next
            ∙ ap (λ o. refusal_of i o (refusal_from (length flat.goods) (suc i) (ex.bidders ++ translated_bidder b ∷ []) (drop (suc i) flat.bidders))) (ap (λ n. due_at n ex.bidders b) (sym translating-goods) ∙ due)
            ∙ ap (λ (e : Exchange). refusal_from (length flat.goods) (suc i) e.bidders (drop (suc i) flat.bidders)) (sym made)
            ∙ ap (λ n. refusal_from (length flat.goods) n after.bidders (drop n flat.bidders)) (sym (add-one i));
      }

-- a refusal that is due has a number
pub due_number : (due named : Option ℕ) → IsSome due → due ≡ named → (n : ℕ) × (named ≡ Some n) × (due ≡ Some n)
due_number None named some is = absurd (none_some some)
  where
    none_some : IsSome {T = ℕ} None → ⊥
    none_some h = search rules
due_number (Some n) named some is = (n, sym is, refl)
