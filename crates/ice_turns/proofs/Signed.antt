-- Products of two signed numbers.
use Rattle.std.proofs.Common.{ℕ, suc, ◌*◌, ◌≡◌, ℤ, pos, negsuc, neg_ℤ, ◌*ℤ◌, ◌≤ℤ◌, arith}
use Rattle.std.proofs.lemmas.Int.{ints}
use Rattle.ice_defs.proofs.Integers.{neg_times}
use Rattle.ice_row_laws.specs.Sizes.{IsSizedWithin}
use Rattle.ice_row_laws.proofs.Sizes.{times-within}

pub product-within : (a b : ℤ) (m k : ℕ) → neg_ℤ (pos m) ≤ℤ a → a ≤ℤ pos m → IsSizedWithin k b → IsSizedWithin (m * k) (a *ℤ b)
product-within (pos w) b m k low high is = times-within w m k b (omega (arith, ints, high)) is
product-within (negsuc w) b m k low high is =
    let part = times-within (suc w) m k b (omega (arith, ints, low)) is in
    let e : negsuc w *ℤ b ≡ neg_ℤ (pos (suc w) *ℤ b) = neg_times (pos (suc w)) b in
    record { low = (let a = part.high in omega (arith, ints, e, a)); high = (let a = part.low in omega (arith, ints, e, a)) }
