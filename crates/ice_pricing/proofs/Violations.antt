-- The greatest excess of the first bidders.
use Rattle.std.proofs.Common.{ℕ, ◌≡◌, ◌<◌, ◌≤◌, ◌+◌, ◌*◌, ◌^◌, ◌⊎◌, inl, inr, true, length, ℤ, pos, ◌≤ℤ◌, ◌<ℤ◌, int_lt, arith, subst}
use Rattle.std.proofs.lemmas.Int.{ints}
use Rattle.std.proofs.lemmas.Bool.{cases_lt}
use Rattle.ice_defs.specs.Set.{NodeSet, IsSatisfied}
use Rattle.ice_defs.specs.Trade.{tree_of, set_of, weights_of}
use Rattle.ice_defs.specs.Prices.{Prices}
use Rattle.ice_defs.specs.Pricing.{IsChoice, excess_net}
use Rattle.ice_certificate.specs.Excess.{IsGreatestExcess}
use Rattle.ice_pricing.specs.Provisional.{ProvisionalTrade, IsProvisional}
use Rattle.ice_pricing.specs.Priced.{HasViolation}

module _ (t : ProvisionalTrade) (p : Prices) where
  abbrev IsOffer : ℕ × NodeSet → Type 0
  IsOffer c = IsChoice t.trees t.weights t.sets c

  abbrev excess : ℕ × NodeSet → ℤ
  excess c = excess_net t.trees t.weights t.sets p c

  -- no bidder below this number has a greater one; it is 0 or an excess
  pub record IsGreatestBelow (count : ℕ) (v : ℤ) : Type 0 where
    pub low : pos 0 ≤ℤ v
    pub high : v ≤ℤ pos (400 * 2 ^ 90)
    pub attained : (v ≡ pos 0) ⊎ ((c : ℕ × NodeSet) × IsOffer c × (excess c ≡ v))
    pub bound : (c : ℕ × NodeSet) → IsOffer c → c.0 < count → excess c ≤ℤ v

  -- the best excess of one bidder
  abbrev IsBest : ℕ → NodeSet → ℤ → Type 0
  IsBest b s x = IsGreatestExcess (tree_of t.trees b) (weights_of t.weights b) p (set_of t.sets b) s x

  at-most : (b : ℕ) (s : NodeSet) (x v : ℤ) → IsBest b s x → x ≤ℤ v → ((c : ℕ × NodeSet) → IsOffer c → c.0 < b → excess c ≤ℤ v)
      → (c : ℕ × NodeSet) → IsOffer c → c.0 < b + 1 → excess c ≤ℤ v
  at-most b s x v best most before c is h = by (cases_lt c.0 b)
    where
      by : (c.0 < b) ⊎ (b ≤ c.0) → excess c ≤ℤ v
      by (inl l) = before c is l
      by (inr l) =
          let same : b ≡ c.0 = omega (arith, h, l) in
          let P : ℕ → Type 0 = λ k. IsSatisfied (tree_of t.trees k) c.1 → excess (k, c.1) ≤ℤ x in
          let here : excess c ≤ℤ x = subst P same (best.greatest c.1) is.1 in
          omega (arith, ints, here, most)

  pub greatest-passed : (b : ℕ) (s : NodeSet) (x v : ℤ) → IsGreatestBelow b v → IsBest b s x → x ≤ℤ v → IsGreatestBelow (b + 1) v
  greatest-passed b s x v before best most = record {
    low = before.low;
    high = before.high;
    attained = before.attained;
    bound = at-most b s x v best most before.bound;
  }

  pub greatest-taken : (b : ℕ) (s : NodeSet) (x v : ℤ) → b < length t.trees → IsGreatestBelow b v → IsBest b s x → v <ℤ x → x ≤ℤ pos (400 * 2 ^ 90) → IsGreatestBelow (b + 1) x
  greatest-taken b s x v there before best above few =
      let low : pos 0 ≤ℤ v = before.low in
      record {
        low = omega (arith, ints, low, above);
        high = few;
        attained = inr ((b, s), (there, best.satisfied), best.has);
        bound = at-most b s x x best (omega (arith, ints)) (λ c is h. let own = before.bound c is h in omega (arith, ints, own, above));
      }

  pub greatest-all : (v : ℤ) → IsProvisional t → IsGreatestBelow (length t.trees) v → HasViolation t p v
  greatest-all v is below = record { attained = by below.attained; bound = λ c offer. below.bound c offer offer.0 }
    where
      by : (v ≡ pos 0) ⊎ ((c : ℕ × NodeSet) × IsOffer c × (excess c ≡ v)) → (c : ℕ × NodeSet) × IsOffer c × (excess c ≡ v)
      by (inl e) = ((0, set_of t.sets 0), (is.bidders.0, is.satisfied 0 is.bidders.0), omega (arith, ints, e))
      by (inr a) = a

  -- prices have one violation
  pub violation-same : (v w : ℤ) → HasViolation t p v → HasViolation t p w → v ≡ w
  violation-same v w is other =
      let (c, offer, e) = is.attained in
      let (d, offered, f) = other.attained in
      omega (arith, ints, e, f, other.bound c offer, is.bound d offered)

-- ---- tests

pub below_from_true : (a b : ℤ) → int_lt a b ≡ true → a <ℤ b
below_from_true a b h = grind (arith, ints)
