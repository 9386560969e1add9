-- The figures of a session that closed, in which each bidder stated
-- its true values after settlement 0 where that went on.
use Rattle.std.specs.Prelude.{ℕ, ◌≡◌, ◌==◌, if◌then◌else◌, IsTrue, List, length, slice_get, ℤ, Some, unsigned_abs}
use Rattle.std.specs.Int.{IsGcd}
use Rattle.ice_defs.specs.Trade.{Assignment, IsFeasible, total_value, IsBestOfAll}
use Rattle.ice_defs.specs.Bounds.{Bounds}
use Rattle.ice_defs.specs.Weighing.{lower_weights}
use Rattle.ice_defs.specs.Regret.{IsRegret}
use Rattle.ice_defs.specs.Vickrey.{IsVickrey}
use Rattle.ice_defs.specs.Fraction.{Fraction}
use Rattle.ice_defs.specs.Threshold.{IsThreshold, IsSurplus}
use Rattle.ice_defs.specs.Exchange.{Exchange, trees_of, exact_of, opening_bounds, market_of}
use Rattle.ice_defs.specs.Session.{closes}
use Rattle.ice_trial.specs.declared.summary.Summary.{Summary}

module _ (ex : Exchange) (bounds : List Bounds) where
  -- the best value at lower values, and the regret of an assignment that has it
  abbrev pub AreFinal : ℤ → ℤ → Type 0
  AreFinal value regret =
      IsBestOfAll (trees_of ex) (exact_of ex) (lower_weights bounds) value
      × ((final : Assignment) × IsFeasible (trees_of ex) (exact_of ex) final × (total_value final (lower_weights bounds) ≡ value)
      × IsRegret (market_of ex) bounds final regret)

  -- what the Threshold discounts leave of this total, in lowest terms
  abbrev pub IsLeft : ℤ → Fraction → Type 0
  IsLeft total surplus =
      (vickrey : List ℤ) × (discounts : List Fraction) × (length vickrey ≡ length (trees_of ex))
      × ((b : ℕ) (v : ℤ) → slice_get vickrey b ≡ Some v → IsVickrey (trees_of ex) (exact_of ex) (lower_weights bounds) b v)
      × IsThreshold vickrey total discounts × IsSurplus total discounts surplus × IsGcd (unsigned_abs surplus.num) surplus.den 1

-- the bounds of a settlement: the opening ones, and then the true values
abbrev pub bounds_at : Exchange → List Bounds → ℕ → List Bounds
bounds_at ex truths number = if number == 0 then opening_bounds ex else truths

pub record IsSummary (ex : Exchange) (truths : List Bounds) (s : Summary) : Type 0 where
  pub opening : AreFinal ex (opening_bounds ex) s.opened s.opened_regret
  -- it closed at settlement 0 where the close test held there, and else at settlement 1
  pub settled : s.settled ≡ (if closes ex.settings 0 s.opened_regret then 0 else 1)
  pub closing : AreFinal ex (bounds_at ex truths s.settled) s.total s.regret
  pub closes : IsTrue (closes ex.settings s.settled s.regret)
  pub surplus : IsLeft ex (bounds_at ex truths s.settled) s.total s.surplus
