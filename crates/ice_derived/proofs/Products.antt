-- Bounds of a product of two integers.
use Rattle.std.proofs.Common.{ℕ, suc, ◌*◌, ◌≤◌, ◌≡◌, ℤ, pos, negsuc, neg_ℤ, ◌*ℤ◌, ◌≤ℤ◌, refl, arith, ap, ◌∙◌}
use Rattle.std.proofs.lemmas.Int.{ints}
use Rattle.std.proofs.Math.Nat.{mul-le-mul_right}
use Rattle.ice_defs.proofs.Products.{times-low, times-high, times_neg}

-- a product with a natural number below a bound
low_by : (a : ℤ) (m n k : ℕ) → k ≤ n → neg_ℤ (pos m) ≤ℤ a → neg_ℤ (pos (n * m)) ≤ℤ (a *ℤ pos k)
low_by a m n k l h = let few : k * m ≤ n * m = mul-le-mul_right m l in omega (arith, ints, few, times-low a m k h)

high_by : (a : ℤ) (m n k : ℕ) → k ≤ n → a ≤ℤ pos m → (a *ℤ pos k) ≤ℤ pos (n * m)
high_by a m n k l h = let few : k * m ≤ n * m = mul-le-mul_right m l in omega (arith, ints, few, times-high a m k h)

negated : (a : ℤ) (k : ℕ) → a *ℤ negsuc k ≡ neg_ℤ (a *ℤ pos (suc k))
negated a k = let e : negsuc k ≡ neg_ℤ (pos (suc k)) = refl in ap (λ z. a *ℤ z) e ∙ times_neg a (pos (suc k))

pub times_within-low : (a b : ℤ) (m n : ℕ) → neg_ℤ (pos m) ≤ℤ a → a ≤ℤ pos m → neg_ℤ (pos n) ≤ℤ b → b ≤ℤ pos n → neg_ℤ (pos (n * m)) ≤ℤ (a *ℤ b)
times_within-low a (pos k) m n al ah bl bh = low_by a m n k (omega (arith, ints, bh)) al
times_within-low a (negsuc k) m n al ah bl bh = omega (arith, ints, negated a k, high_by a m n (suc k) (omega (arith, ints, bl)) ah)

pub times_within-high : (a b : ℤ) (m n : ℕ) → neg_ℤ (pos m) ≤ℤ a → a ≤ℤ pos m → neg_ℤ (pos n) ≤ℤ b → b ≤ℤ pos n → (a *ℤ b) ≤ℤ pos (n * m)
times_within-high a (pos k) m n al ah bl bh = high_by a m n k (omega (arith, ints, bh)) ah
times_within-high a (negsuc k) m n al ah bl bh = omega (arith, ints, negated a k, low_by a m n (suc k) (omega (arith, ints, bl)) al)
