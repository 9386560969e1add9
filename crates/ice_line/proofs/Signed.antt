-- The spelling of a number with a sign.
use Rattle.std.proofs.Common.{◌≡◌, ℕ, zero, suc, ◌+◌, ◌^◌, ◌<◌, ◌≤◌, List, [], ◌∷◌, length, decimal, ℤ, pos, negsuc, neg_ℤ, unsigned_abs, ◌-ℤ◌, ◌≤ℤ◌, to_z, of_z, refl, sym, ap, ◌∙◌, arith}
use Rattle.std.specs.Fmt.{signed_decimal}
use Rattle.std.specs.Int.{IsInRange, w64, w128}
use lib.Signed.{mag}
use Rattle.std.proofs.lemmas.Int.{ints, to_z-of_z}
use Rattle.std.proofs.lemmas.Fmt.{decimal_is_IsNumeral_wide}
use Rattle.ice_line.proofs.Digits.{decimal_digits, decimal_same}

-- a number's text has a first byte
pub decimal_some : (n : ℕ) → n < 10 ^ 60 → [] ≡ decimal n → ⊥
decimal_some n small e =
    absurd (omega (arith, (decimal_is_IsNumeral_wide n (omega arith)).0.0, ap length e))

not_minus : (n : ℕ) (rest : List ℕ) → n < 10 ^ 60 → 45 ∷ rest ≡ decimal n → ⊥
not_minus n rest small e =
    let digit : IsInRange 48 57 45 = decimal_digits [] rest 45 n small e in
    absurd (omega (arith, digit.0))

pub minus_none : (field rest : List ℕ) → field ≡ 45 ∷ rest → (z : ℤ) → unsigned_abs z < 10 ^ 50 → field ≡ signed_decimal z → (k : ℕ) × (z ≡ negsuc k) × (rest ≡ decimal (suc k))
minus_none field rest cut (pos n) small e = absurd (not_minus n rest (omega (arith, ints, small)) (sym cut ∙ e))
minus_none field rest cut (negsuc k) small e = (k, refl, let h : 45 ∷ rest ≡ 45 ∷ decimal (suc k) = sym cut ∙ e in cc)

pub plain_some : (field : List ℕ) → ((rest : List ℕ) → field ≡ 45 ∷ rest → ⊥) → (z : ℤ) → field ≡ signed_decimal z → (n : ℕ) × (z ≡ pos n) × (field ≡ decimal n)
plain_some field plain (pos n) e = (n, refl, e)
plain_some field plain (negsuc k) e = absurd (plain (decimal (suc k)) e)

-- what a minus and these digits spell, and that they spell nothing else
pub minus_some : (field rest : List ℕ) (n : ℕ) (z : ℤ) → z ≡ neg_ℤ (pos n) → 0 < n → n < 10 ^ 50 → field ≡ 45 ∷ rest → rest ≡ decimal n
    → (field ≡ signed_decimal z) × ((y : ℤ) → unsigned_abs y < 10 ^ 50 → field ≡ signed_decimal y → y ≡ z)
minus_some field rest zero z is some small cut digits = absurd (omega arith)
minus_some field rest (suc n) z is some small cut digits = (
  cut ∙ ap (λ (ds : List ℕ). 45 ∷ ds) digits ∙ ap signed_decimal (sym is),
  λ y small_too e.
      let found = minus_none field rest cut y small_too e in
      let size : unsigned_abs y ≡ suc found.0 = ap unsigned_abs found.1 in
      let same : found.0 ≡ n = omega (arith, decimal_same (suc found.0) (suc n) (omega arith) (omega arith) (sym found.2 ∙ digits)) in
      found.1 ∙ ap negsuc same ∙ sym is,
)

pub plain_same : (field : List ℕ) (n : ℕ) (z : ℤ) → z ≡ pos n → n < 10 ^ 50 → ((rest : List ℕ) → field ≡ 45 ∷ rest → ⊥) → field ≡ decimal n
    → (field ≡ signed_decimal z) × ((y : ℤ) → unsigned_abs y < 10 ^ 50 → field ≡ signed_decimal y → y ≡ z)
plain_same field n z is small plain digits = (
  digits ∙ ap signed_decimal (sym is),
  λ y small_too e.
      let found = plain_some field plain y e in
      let size : unsigned_abs y ≡ found.0 = ap unsigned_abs found.1 in
      let same : found.0 ≡ n = decimal_same found.0 n (omega arith) (omega arith) (sym found.2 ∙ digits) in
      found.1 ∙ ap pos same ∙ sym is,
)

-- no number is minus 0
pub minus_zero : (field rest : List ℕ) (z : ℤ) → field ≡ 45 ∷ rest → rest ≡ decimal 0 → unsigned_abs z < 10 ^ 50 → field ≡ signed_decimal z → ⊥
minus_zero field rest z cut digits small e =
    let found = minus_none field rest cut z small e in
    let size : unsigned_abs z ≡ suc found.0 = ap unsigned_abs found.1 in
    let same = decimal_same (suc found.0) 0 (omega arith) (omega arith) (sym found.2 ∙ digits) in
    omega (arith, same)

pub mag_abs : (z : ℤ) → mag z ≤ unsigned_abs z
mag_abs (pos n) = omega (arith, ints)
mag_abs (negsuc n) = omega (arith, ints)

pub abs_mag : (z : ℤ) → unsigned_abs z ≤ mag z + 1
abs_mag (pos n) = omega (arith, ints)
abs_mag (negsuc n) = omega (arith, ints)

-- a number of 128 bits
pub same_wide : (z : ℤ) → unsigned_abs z < 2 ^ 127 → to_z w128 (of_z w128 z) ≡ z
same_wide z small = to_z-of_z w128 z (record { sfits = omega (arith, mag_abs z) })

pub mag_between : (low high z : ℤ) → mag low < 2 ^ 63 → mag high < 2 ^ 63 → low ≤ℤ z → z ≤ℤ high → mag z < 2 ^ 63
mag_between (pos l) (pos h) (pos n) fl fh p q = omega (arith, ints)
mag_between (pos l) (negsuc h) (pos n) fl fh p q = omega (arith, ints)
mag_between (negsuc l) (pos h) (pos n) fl fh p q = omega (arith, ints)
mag_between (negsuc l) (negsuc h) (pos n) fl fh p q = omega (arith, ints)
mag_between (pos l) (pos h) (negsuc n) fl fh p q = omega (arith, ints)
mag_between (pos l) (negsuc h) (negsuc n) fl fh p q = omega (arith, ints)
mag_between (negsuc l) (pos h) (negsuc n) fl fh p q = omega (arith, ints)
mag_between (negsuc l) (negsuc h) (negsuc n) fl fh p q = omega (arith, ints)

pub same_64 : (z : ℤ) → mag z < 2 ^ 63 → to_z w64 (of_z w64 z) ≡ z
same_64 z small = to_z-of_z w64 z (record { sfits = small })

pub minus_is : (n : ℕ) → pos 0 -ℤ pos n ≡ neg_ℤ (pos n)
minus_is n = omega (arith, ints)

pub abs_neg : (n : ℕ) → unsigned_abs (neg_ℤ (pos n)) ≡ n
abs_neg zero = refl
abs_neg (suc n) = refl
