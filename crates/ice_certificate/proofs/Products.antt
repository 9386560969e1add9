-- A denominator times a number, as the code reads both.
use Rattle.std.proofs.Common.{ℕ, ◌≡◌, ◌∙◌, ◌^◌, ◌*ℤ◌, ◌≤◌, ◌≤ℤ◌, ℤ, neg_ℤ, pos, ap, arith, to_z, of_z}
use mir.Syntax.{w128}
use Rattle.std.proofs.lemmas.Int.{ints}

pub product_read : (read : ℤ) (den : ℕ) (number : ℤ) → read ≡ pos den → den ≤ 2 ^ 32 → neg_ℤ (pos (2 ^ 89)) ≤ℤ number → number ≤ℤ pos (2 ^ 89)
    → to_z w128 (of_z w128 read) *ℤ to_z w128 (of_z w128 number) ≡ pos den *ℤ number
product_read read den number is small low high =
    let one : to_z w128 (of_z w128 read) ≡ pos den = omega (arith, ints, is, small) in
    let other : to_z w128 (of_z w128 number) ≡ number = omega (arith, ints, low, high) in
    ap (λ z. z *ℤ to_z w128 (of_z w128 number)) one ∙ ap (λ z. pos den *ℤ z) other
