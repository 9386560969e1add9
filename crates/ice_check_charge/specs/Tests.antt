-- What is tested of a closing session, in whole numbers.
use Rattle.std.specs.Prelude.{◌≡◌, ◌*◌, ◌^◌, List, map, Any, ℤ, pos, neg_ℤ, ◌-ℤ◌, ◌≤ℤ◌, ◌<ℤ◌}
use Rattle.ice_defs.specs.Fraction.{Fraction, whole_number, AtMost, Equals, minus}
use Rattle.ice_defs.specs.Cut.{discount_at_cut}

-- the Vickrey discounts by the total and the values without each bidder
abbrev pub vickreys_of : ℤ → List ℤ → List ℤ
vickreys_of total withouts = map (λ without. total -ℤ without) withouts

-- a cut of this numerator leaves so much, over its denominator: no more than the total, and
-- no less unless the cut is 0
pub record IsSpent (num left total : ℤ) : Type 0 where
  pub low : pos 0 ≤ℤ num
  pub paid : left ≤ℤ total
  pub spent : pos 0 <ℤ num → left ≡ total

-- some Vickrey discount is at least the cut
abbrev pub IsReached : Fraction → ℤ → List ℤ → Type 0
IsReached cut total withouts = Any (λ without. AtMost cut (whole_number (total -ℤ without))) withouts

-- the value of a set
pub record IsWorth (worth : ℤ) : Type 0 where
  pub low : neg_ℤ (pos (200 * 2 ^ 94)) ≤ℤ worth
  pub high : worth ≤ℤ pos (200 * 2 ^ 94)

-- the discount that the cut leaves of a Vickrey discount, and the payment that the discount
-- leaves of the value of a set
pub record IsPaidAt (cut : Fraction) (vickrey worth : ℤ) (discount payment : Fraction) : Type 0 where
  pub discounted : Equals discount (discount_at_cut cut vickrey)
  pub paid : Equals payment (minus (whole_number worth) discount)
