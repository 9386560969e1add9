-- Sums of the units of the bidders' sets.
use Rattle.std.proofs.Common.{ℕ, ◌+◌, ◌*◌, ◌<◌, ◌≡◌, List, ℤ, ◌+ℤ◌, arith}
use Rattle.std.proofs.lemmas.Int.{ints}
use Rattle.ice_defs.proofs.Sums.{sum_below_more}
use Rattle.ice_defs.specs.Sum.{sum_below}
use Rattle.ice_defs.specs.Set.{weight_of}
use Rattle.ice_tree.specs.Units.{AreWithin}

module _ (old new units : List ℤ) (added : (g : ℕ) → g < 32 → weight_of new g ≡ weight_of old g +ℤ weight_of units g) where
  -- one more bidder's units
  pub sums_more : (u : ℕ → ℕ → ℤ) (n : ℕ) → ((g : ℕ) → g < 32 → weight_of old g ≡ sum_below (λ b. u b g) n) → ((g : ℕ) → g < 32 → weight_of units g ≡ u n g)
      → (g : ℕ) → g < 32 → weight_of new g ≡ sum_below (λ b. u b g) (n + 1)
  sums_more u n before here g l = omega (arith, ints, added g l, before g l, here g l, sum_below_more (λ b. u b g) n)

  pub within_more : (n : ℕ) → AreWithin (200000 * n) old → AreWithin 200000 units → AreWithin (200000 * (n + 1)) new
  within_more n was small = record {
    low = λ g l. omega (arith, ints, added g l, was.low g l, small.low g l);
    high = λ g l. omega (arith, ints, added g l, was.high g l, small.high g l);
  }
