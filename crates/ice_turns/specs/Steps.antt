-- What the prices of a least point ask for, with a pool of so many sets and an allowed excess.
use Rattle.std.specs.Prelude.{ℕ, ◌<◌, ◌≤◌, ◌≡◌, ◌^◌, length}
use Rattle.ice_defs.specs.Fraction.{Fraction}
use Rattle.ice_defs.specs.PricingRun.{Member}
use Rattle.ice_defs.specs.Prices.{Prices}
use Rattle.ice_defs.specs.Rows.{HasCommonDivisor}
use Rattle.ice_defs.specs.declared.LimitKind.TheVariants.{Wide, Pivots, Rows, Den}
use Rattle.ice_pricing.specs.Provisional.{ProvisionalTrade}
use Rattle.ice_pricing.specs.Priced.{HasViolation}
use Rattle.ice_turns.specs.Scans.{AreAllowed, IsFirstAbove}
use Rattle.ice_turns.specs.declared.ends.Stop.{Stop}
use Rattle.ice_turns.specs.declared.ends.Stop.TheVariants.{AtLimit, WithoutMemory}
use Rattle.ice_turns.specs.declared.turns.Step.{Step}
use Rattle.ice_turns.specs.declared.turns.Step.TheVariants.{Adds, Ends}

module _ (t : ProvisionalTrade) (count : ℕ) (p : Prices) (most : Fraction) where
  abbrev pub IsStep : Step → Type 0
  IsStep (Adds m) = (count < 200) × (p.den ≤ 2 ^ 32) × IsFirstAbove t p most m
  IsStep (Ends prices violation) = (prices ≡ p) × (p.den ≤ 2 ^ 32) × (¬ HasCommonDivisor p) × AreAllowed t p most (length t.trees)
      × HasViolation t p violation

  abbrev pub IsStepStop : Stop → Type 0
  IsStepStop (AtLimit Wide) = ⊥
  IsStepStop (AtLimit Pivots) = ⊥
  IsStepStop (AtLimit Rows) = (200 ≤ count) × (m : Member) × IsFirstAbove t p most m
  IsStepStop (AtLimit Den) = 2 ^ 32 < p.den
  IsStepStop WithoutMemory = ⊥
