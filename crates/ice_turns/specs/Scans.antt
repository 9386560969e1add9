-- What a scan of all bidders finds, at prices and with an excess that is allowed.
use Rattle.std.specs.Prelude.{ℕ, ◌<◌, length, ◌≤ℤ◌}
use Rattle.ice_defs.specs.Set.{NodeSet}
use Rattle.ice_defs.specs.Prices.{Prices}
use Rattle.ice_defs.specs.Pricing.{IsChoice, excess_net}
use Rattle.ice_defs.specs.Fraction.{Fraction, Below}
use Rattle.ice_defs.specs.PricingRun.{Member}
use Rattle.ice_pricing.specs.Provisional.{ProvisionalTrade}
use Rattle.ice_pricing.specs.Priced.{HasViolation}
use Rattle.ice_turns.specs.declared.scan.Scan.{Scan}
use Rattle.ice_turns.specs.declared.scan.Scan.TheVariants.{Adds, Ends}

module _ (t : ProvisionalTrade) (p : Prices) where
  abbrev pub IsOffer : ℕ → NodeSet → Type 0
  IsOffer b s = IsChoice t.trees t.weights t.sets (b, s)

  abbrev pub excess_at : ℕ → NodeSet → Fraction
  excess_at b s = record { num = excess_net t.trees t.weights t.sets p (b, s); den = p.den }

  module _ (most : Fraction) where
    -- no bidder below this number has a set with an excess above the one that is allowed
    abbrev pub AreAllowed : ℕ → Type 0
    AreAllowed count = (b : ℕ) (s : NodeSet) → b < count → IsOffer b s → ¬ Below most (excess_at b s)

    -- a best set of the first bidder that has one above
    pub record IsFirstAbove (m : Member) : Type 0 where
      pub offer : IsOffer m.bidder m.set
      pub above : Below most (excess_at m.bidder m.set)
      pub best : (s : NodeSet) → IsOffer m.bidder s
          → excess_net t.trees t.weights t.sets p (m.bidder, s) ≤ℤ excess_net t.trees t.weights t.sets p (m.bidder, m.set)
      pub before : AreAllowed m.bidder

    abbrev pub IsScan : Scan → Type 0
    IsScan (Adds m) = IsFirstAbove m
    IsScan (Ends violation) = AreAllowed (length t.trees) × HasViolation t p violation
