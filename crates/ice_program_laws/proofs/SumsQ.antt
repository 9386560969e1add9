-- Sums of rationals over the numbers below a bound.
use Rattle.std.proofs.Common.{◌≡◌, ◌≢◌, ℕ, zero, suc, ◌+◌, ◌<◌, refl, sym, ap, ◌∙◌, arith}
use Rattle.ice_frac.proofs.Rational.{ℚ, ◌+ℚ◌, ◌*ℚ◌, neg_ℚ, +ℚ_assoc, +ℚ-zero, +ℚ-neg_ℚ, *ℚ-+ℚ}
use Rattle.ice_program_laws.proofs.Field.{zero_ℚ, zero-+ℚ, plus_swap, neg_is, *ℚ-zero, AtMostℚ, at_most-sum, at_most_refl}

-- f 0 + .. + f (n - 1)
abbrev pub sum_ℚ : (ℕ → ℚ) → ℕ → ℚ
sum_ℚ f zero = zero_ℚ
sum_ℚ f (suc n) = f zero +ℚ sum_ℚ (λ k. f (suc k)) n

pub sum-same : (f g : ℕ → ℚ) (n : ℕ) → ((k : ℕ) → k < n → f k ≡ g k) → sum_ℚ f n ≡ sum_ℚ g n
sum-same f g zero each = refl
sum-same f g (suc n) each =
    ap (λ x. x +ℚ sum_ℚ (λ k. f (suc k)) n) (each zero (omega arith)) ∙ ap (λ x. g zero +ℚ x) (sum-same (λ k. f (suc k)) (λ k. g (suc k)) n (λ k h. each (suc k) (omega arith)))

pub sum-+ℚ : (f g : ℕ → ℚ) (n : ℕ) → sum_ℚ (λ k. f k +ℚ g k) n ≡ sum_ℚ f n +ℚ sum_ℚ g n
sum-+ℚ f g zero = sym (+ℚ-zero zero_ℚ)
sum-+ℚ f g (suc n) =
    ap (λ x. (f zero +ℚ g zero) +ℚ x) (sum-+ℚ (λ k. f (suc k)) (λ k. g (suc k)) n) ∙ plus_swap (f zero) (g zero) (sum_ℚ (λ k. f (suc k)) n) (sum_ℚ (λ k. g (suc k)) n)

pub sum-*ℚ : (x : ℚ) (f : ℕ → ℚ) (n : ℕ) → sum_ℚ (λ k. x *ℚ f k) n ≡ x *ℚ sum_ℚ f n
sum-*ℚ x f zero = sym (*ℚ-zero x)
sum-*ℚ x f (suc n) = ap (λ y. x *ℚ f zero +ℚ y) (sum-*ℚ x (λ k. f (suc k)) n) ∙ sym (*ℚ-+ℚ x (f zero) (sum_ℚ (λ k. f (suc k)) n))

pub sum-zero : (f : ℕ → ℚ) (n : ℕ) → ((k : ℕ) → k < n → f k ≡ zero_ℚ) → sum_ℚ f n ≡ zero_ℚ
sum-zero f zero each = refl
sum-zero f (suc n) each =
    ap (λ x. x +ℚ sum_ℚ (λ k. f (suc k)) n) (each zero (omega arith)) ∙ ap (λ x. zero_ℚ +ℚ x) (sum-zero (λ k. f (suc k)) n (λ k h. each (suc k) (omega arith))) ∙ +ℚ-zero zero_ℚ

-- the order of two sums
pub sum-swap : (f : ℕ → ℕ → ℚ) (n m : ℕ) → sum_ℚ (λ i. sum_ℚ (λ j. f i j) m) n ≡ sum_ℚ (λ j. sum_ℚ (λ i. f i j) n) m
sum-swap f zero m = sym (sum-zero (λ j. zero_ℚ) m (λ k h. refl))
sum-swap f (suc n) m =
    ap (λ x. sum_ℚ (λ j. f zero j) m +ℚ x) (sum-swap (λ i. f (suc i)) n m) ∙ sym (sum-+ℚ (λ j. f zero j) (λ j. sum_ℚ (λ i. f (suc i) j) n) m)

pub sum-at_most : (f g : ℕ → ℚ) (n : ℕ) → ((k : ℕ) → k < n → AtMostℚ (f k) (g k)) → AtMostℚ (sum_ℚ f n) (sum_ℚ g n)
sum-at_most f g zero each = at_most_refl zero_ℚ
sum-at_most f g (suc n) each =
    at_most-sum (f zero) (sum_ℚ (λ k. f (suc k)) n) (g zero) (sum_ℚ (λ k. g (suc k)) n) (each zero (omega arith)) (sum-at_most (λ k. f (suc k)) (λ k. g (suc k)) n (λ k h. each (suc k) (omega arith)))

-- a sum with one term that isn't 0
pub sum-single : (f : ℕ → ℚ) (p n : ℕ) → p < n → ((k : ℕ) → k < n → k ≢ p → f k ≡ zero_ℚ) → sum_ℚ f n ≡ f p
sum-single f p zero h others = absurd (omega arith)
sum-single f zero (suc n) h others = ap (λ x. f zero +ℚ x) (sum-zero (λ k. f (suc k)) n (λ k l. others (suc k) (omega arith) (omega arith))) ∙ +ℚ-zero (f zero)
sum-single f (suc p) (suc n) h others =
    ap (λ x. x +ℚ sum_ℚ (λ k. f (suc k)) n) (others zero (omega arith) (omega arith)) ∙ zero-+ℚ (sum_ℚ (λ k. f (suc k)) n)
    ∙ sum-single (λ k. f (suc k)) p n (omega arith) (λ k l ne. others (suc k) (omega arith) (omega arith))

pub sum-append : (f : ℕ → ℚ) (m n : ℕ) → sum_ℚ f (m + n) ≡ sum_ℚ f m +ℚ sum_ℚ (λ k. f (m + k)) n
sum-append f zero n =
    let e : zero + n ≡ n = omega arith in
    ap (sum_ℚ f) e ∙ sum-same f (λ k. f (zero + k)) n (λ k h. let g : k ≡ zero + k = omega arith in ap f g) ∙ sym (zero-+ℚ (sum_ℚ (λ k. f (zero + k)) n))
sum-append f (suc m) n =
    let e : suc m + n ≡ suc (m + n) = omega arith in
    ap (sum_ℚ f) e ∙ ap (λ x. f zero +ℚ x) (sum-append (λ k. f (suc k)) m n) ∙ sym (+ℚ_assoc (f zero) (sum_ℚ (λ k. f (suc k)) m) (sum_ℚ (λ k. f (suc (m + k))) n))
    ∙ ap (λ x. (f zero +ℚ sum_ℚ (λ k. f (suc k)) m) +ℚ x) (sum-same (λ k. f (suc (m + k))) (λ k. f (suc m + k)) n (λ k h. let g : suc (m + k) ≡ suc m + k = omega arith in ap f g))

pub sum-neg : (f : ℕ → ℚ) (n : ℕ) → sum_ℚ (λ k. neg_ℚ (f k)) n ≡ neg_ℚ (sum_ℚ f n)
sum-neg f n = neg_is (sum_ℚ f n) (sum_ℚ (λ k. neg_ℚ (f k)) n) (sym (sum-+ℚ f (λ k. neg_ℚ (f k)) n) ∙ sum-zero (λ k. f k +ℚ neg_ℚ (f k)) n (λ k h. +ℚ-neg_ℚ (f k)))
