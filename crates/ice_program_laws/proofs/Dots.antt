-- The products of lists of fractions as sums of rationals.
use Rattle.std.proofs.Common.{◌≡◌, ℕ, zero, suc, ◌<◌, refl, sym, ap, ◌∙◌, arith, List, [], ◌∷◌, length, slice_index_or, ℤ, pos}
use Rattle.std.specs.List.{AllByRecursion}
use Rattle.std.proofs.Math.Nat.{mul-pos}
use Rattle.ice_defs.specs.Fraction.{Fraction, whole_number, IsFraction, AtMost, times, fraction_at}
use Rattle.ice_defs.specs.Program.{dot, AreNonNegative}
use Rattle.ice_frac.proofs.Rational.{whole_ℚ, ◌+ℚ◌, ◌*ℚ◌, IsNonNeg, one_positive, rational_of, rational_of-plus, rational_of-times, rational_of-whole, nonneg_from_AtMost, AtMost_from_nonneg}
use Rattle.ice_program_laws.proofs.Field.{zero-*ℚ, AtMostℚ, at_most-same, nonneg_from_at_most}
use Rattle.ice_program_laws.proofs.SumsQ.{sum_ℚ, sum-zero}

pub at_recursion : {X : Type 0} (P : X → Type 0) (xs : List X) (d : X) → AllByRecursion P xs → (i : ℕ) → i < length xs → P (slice_index_or xs i d)
at_recursion P [] d h i l = absurd (omega arith)
at_recursion P (x ∷ xs) d h zero l = h.0
at_recursion P (x ∷ xs) d h (suc i) l = at_recursion P xs d h.1 i (omega arith)

-- ---- the order

pub to_ℚ : (a b : Fraction) → IsFraction a → IsFraction b → AtMost a b → AtMostℚ (rational_of a) (rational_of b)
to_ℚ a b ha hb h = record { rest = nonneg_from_AtMost a b ha hb h }

pub from_ℚ : (a b : Fraction) → IsFraction a → IsFraction b → AtMostℚ (rational_of a) (rational_of b) → AtMost a b
from_ℚ a b ha hb h = AtMost_from_nonneg a b ha hb h.rest

pub nonneg_at_ℚ : (a : Fraction) → IsFraction a → AtMost (whole_number (pos 0)) a → IsNonNeg (rational_of a)
nonneg_at_ℚ a ha h = nonneg_from_at_most (rational_of a) (at_most-same _ _ _ _ (rational_of-whole (pos 0)) refl (to_ℚ (whole_number (pos 0)) a one_positive ha h))

-- ---- products of lists

pub proper-at : (xs : List Fraction) → AreNonNegative xs → (j : ℕ) → IsFraction (fraction_at xs j)
proper-at [] h j = one_positive
proper-at (x ∷ xs) h zero = h.0.0
proper-at (x ∷ xs) h (suc j) = proper-at xs h.1 j

pub nonneg-at : (xs : List Fraction) → AreNonNegative xs → (j : ℕ) → j < length xs → IsNonNeg (rational_of (fraction_at xs j))
nonneg-at [] h j l = absurd (omega arith)
nonneg-at (x ∷ xs) h zero l = nonneg_at_ℚ x h.0.0 h.0.1
nonneg-at (x ∷ xs) h (suc j) l = nonneg-at xs h.1 j (omega arith)

pub proper-dot : (cs : List ℤ) (xs : List Fraction) → ((j : ℕ) → IsFraction (fraction_at xs j)) → IsFraction (dot cs xs)
proper-dot [] xs h = one_positive
proper-dot (c ∷ cs) [] h = one_positive
proper-dot (c ∷ cs) (x ∷ xs) h = mul-pos (mul-pos one_positive (h zero)) (proper-dot cs xs (λ j. h (suc j)))

pub dot_is : (cs : List ℤ) (xs : List Fraction) → ((j : ℕ) → IsFraction (fraction_at xs j))
    → rational_of (dot cs xs) ≡ sum_ℚ (λ j. whole_ℚ (slice_index_or cs j (pos 0)) *ℚ rational_of (fraction_at xs j)) (length xs)
dot_is [] xs h = rational_of-whole (pos 0) ∙ sym (sum-zero (λ j. whole_ℚ (slice_index_or [] j (pos 0)) *ℚ rational_of (fraction_at xs j)) (length xs) (λ j l. zero-*ℚ (rational_of (fraction_at xs j))))
dot_is (c ∷ cs) [] h = rational_of-whole (pos 0)
dot_is (c ∷ cs) (x ∷ xs) h =
    rational_of-plus (times (whole_number c) x) (dot cs xs) (mul-pos one_positive (h zero)) (proper-dot cs xs (λ j. h (suc j)))
    ∙ ap (λ y. y +ℚ rational_of (dot cs xs)) (rational_of-times (whole_number c) x one_positive (h zero) ∙ ap (λ y. y *ℚ rational_of x) (rational_of-whole c))
    ∙ ap (λ y. whole_ℚ c *ℚ rational_of x +ℚ y) (dot_is cs xs (λ j. h (suc j)))
