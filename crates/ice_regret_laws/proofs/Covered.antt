-- What is used is covered by what is given: order and sums.
use Rattle.std.proofs.Common.{ℕ, ◌<◌, Bool, true, false, ℤ, refl, arith, ◌∙◌}
use Rattle.std.proofs.lemmas.Int.{ints}
use Rattle.ice_defs.specs.Sum.{sum_below}
use Rattle.ice_defs.specs.Trade.{IsCovered}
use Rattle.ice_defs.proofs.Sums.{sum_below-same, sum_below-le}

pub covered_same : (exact : Bool) (z : ℤ) → IsCovered exact z z
covered_same true z = refl
covered_same false z = omega (arith, ints)

pub covered_along : (exact : Bool) (x y z : ℤ) → IsCovered exact x y → IsCovered exact y z → IsCovered exact x z
covered_along true x y z e f = e ∙ f
covered_along false x y z h i = omega (arith, ints, h, i)

pub covered_sums : (exact : Bool) (f g : ℕ → ℤ) (n : ℕ) → ((k : ℕ) → k < n → IsCovered exact (f k) (g k)) → IsCovered exact (sum_below f n) (sum_below g n)
covered_sums true f g n each = sum_below-same f g n each
covered_sums false f g n each = sum_below-le f g n each
