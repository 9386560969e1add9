-- What a scan of the bidders' best sets finds.
use Rattle.std.proofs.Common.{ℕ, ◌+◌, ◌<◌, ◌≤◌, ◌≡◌, ◌⊎◌, inl, inr, length, List, ℤ, pos, ◌≤ℤ◌, ◌*ℤ◌, arith, sym, subst}
use Rattle.std.proofs.lemmas.Int.{ints, by_lt_z}
use Rattle.std.proofs.lemmas.Bool.{cases_lt}
use Rattle.ice_defs.specs.Fraction.{Fraction, IsFraction, Equals, AtMost, Below}
use Rattle.ice_defs.specs.Set.{NodeSet, IsSatisfied}
use Rattle.ice_defs.specs.Trade.{tree_of, set_of, weights_of}
use Rattle.ice_defs.specs.Prices.{Prices}
use Rattle.ice_defs.specs.Pricing.{excess_net}
use Rattle.ice_defs.specs.PricingRun.{Member, StageAt, solution_prices, allowance, Violates, IsBestSet, HasNoneToAdd}
use Rattle.ice_frac.proofs.Fractions.{AtMost-left, AtMost-right}
use Rattle.ice_frac.proofs.Ring.{scale_le}
use Rattle.ice_certificate.specs.Excess.{IsGreatestExcess}
use Rattle.ice_pricing.specs.Provisional.{ProvisionalTrade}
use Rattle.ice_turns.specs.Scans.{AreAllowed, IsFirstAbove}

-- ---- the order

below_from : (a b : Fraction) → ¬ AtMost b a → Below a b
below_from a b h = by_lt_z (a.num *ℤ pos b.den) (b.num *ℤ pos a.den) (λ less. less) (λ most. absurd (h most))

pub Below-right : (a b c : Fraction) → IsFraction c → Equals b c → Below a b → Below a c
Below-right a b c hc e h = below_from a c (λ most. let m = AtMost-left c b a hc (sym e) most in omega (arith, ints, m, h))

pub Below-left : (a b c : Fraction) → IsFraction b → Equals a b → Below a c → Below b c
Below-left a b c hb e h = below_from b c (λ most. let m = AtMost-right c b a hb (sym e) most in omega (arith, ints, m, h))

-- ---- one bidder more

module _ (t : ProvisionalTrade) (p : Prices) (most : Fraction) where
  abbrev IsBest : ℕ → NodeSet → ℤ → Type 0
  IsBest b s x = IsGreatestExcess (tree_of t.trees b) (weights_of t.weights b) p (set_of t.sets b) s x

  abbrev over : ℤ → Fraction
  over x = record { num = x; den = p.den }

  below-more : (x y : ℤ) → x ≤ℤ y → Below most (over x) → Below most (over y)
  below-more x y h below = let more = scale_le most.den x y h in omega (arith, ints, more, below)

  pub allowed-more : (b : ℕ) (s : NodeSet) (x : ℤ) → AreAllowed t p most b → IsBest b s x → ¬ Below most (over x) → AreAllowed t p most (b + 1)
  allowed-more b s x before best calm k other h offer = by (cases_lt k b)
    where
      by : (k < b) ⊎ (b ≤ k) → ¬ Below most (over (excess_net t.trees t.weights t.sets p (k, other)))
      by (inl l) = before k other l offer
      by (inr l) =
          let same : b ≡ k = omega (arith, h, l) in
          let P : ℕ → Type 0 = λ j. IsSatisfied (tree_of t.trees j) other → excess_net t.trees t.weights t.sets p (j, other) ≤ℤ x in
          let few : excess_net t.trees t.weights t.sets p (k, other) ≤ℤ x = subst P same (best.greatest other) offer.1 in
          λ below. calm (below-more (excess_net t.trees t.weights t.sets p (k, other)) x few below)

-- ---- a whole scan

-- with the excess that a stage allows
module _ (t : ProvisionalTrade) (at : StageAt) (x : List Fraction) (most : Fraction) (proper : IsFraction most)
    (own : IsFraction (allowance t.trees t.weights t.sets t.goods t.cap at x)) (equal : Equals most (allowance t.trees t.weights t.sets t.goods t.cap at x)) where
  abbrev prices : Prices
  prices = solution_prices t.trees t.weights t.sets t.goods t.cap x

  pub none-to-add : AreAllowed t prices most (length t.trees) → HasNoneToAdd t.trees t.weights t.sets t.goods t.cap at x
  none-to-add are m violates = are m.bidder m.set violates.0.0 violates.0 (Below-left (allowance t.trees t.weights t.sets t.goods t.cap at x) most _ proper (sym equal) violates.1)

  pub first-violates : (m : Member) → IsFirstAbove t prices most m → Violates t.trees t.weights t.sets t.goods t.cap at x m
  first-violates m is = (is.offer, Below-left most _ _ own equal is.above)

  pub first-best : (m : Member) → IsFirstAbove t prices most m → IsBestSet t.trees t.weights t.sets t.goods t.cap x m
  first-best m is = (is.offer, is.best)

  pub none-before : (m : Member) → IsFirstAbove t prices most m → (other : Member) → other.bidder < m.bidder → ¬ Violates t.trees t.weights t.sets t.goods t.cap at x other
  none-before m is other h violates = is.before other.bidder other.set h violates.0 (Below-left (allowance t.trees t.weights t.sets t.goods t.cap at x) most _ proper (sym equal) violates.1)
