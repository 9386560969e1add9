-- The rational numbers: fractions where equal ones are one thing, so
-- that an equation of rationals is a path and can be rewritten by.
use Rattle.std.proofs.Common.{◌≡◌, ◌≢◌, ◌↔◌, ◌≤ℤ◌, ℕ, zero, suc, ◌*◌, ◌<◌, refl, sym, ap, subst, ◌∙◌, arith, ℤ, pos, negsuc, ◌+ℤ◌, ◌*ℤ◌, neg_ℤ, Bool, true, false}
use Rattle.std.proofs.lemmas.Int.{ints}
use Rattle.std.proofs.Math.Nat.{mul-pos}
use lib.IntN.{ℤ_set}
use lib.Signed.{non_neg}
use lib.Dec.{T}
use mathlib.Core.Bool.{Bool-set}
use mathlib.Core.Quot.{Setoid, Quotient, Quotient-set}
use mathlib.Core.Quot.Quotient
use Rattle.ice_defs.specs.Fraction.{Fraction, whole_number, IsFraction, Equals, AtMost, plus, minus, times, negation}
use Rattle.ice_defs.specs.Frac.{reciprocal}
use Rattle.ice_frac.proofs.Ring.{is_diff, diff_same, diff_pos, diffs}
use Rattle.ice_frac.proofs.Fractions.{Equals-trans, Equals-plus, Equals-times, Equals-negated}
use Rattle.ice_frac.proofs.FieldLaws.{plus_assoc, plus_comm, plus-zero, plus-negated, times_assoc, times_comm, times-one, times-plus, times-reciprocal}

pub record Pair : Type 0 where
  pub num : ℤ
  pub den : ℕ
  pub positive : 0 < den

abbrev pub fraction_of : Pair → Fraction
fraction_of a = record { num = a.num; den = a.den }

abbrev pub Same : Pair → Pair → Type 0
Same a b = Equals (fraction_of a) (fraction_of b)

pub Same-trans : (a b c : Pair) → Same a b → Same b c → Same a c
Same-trans a b c p q = Equals-trans (fraction_of a) (fraction_of b) (fraction_of c) b.positive p q

abbrev pub pairs : Setoid {0, 0} Pair
pairs = record { r = Same; iseqv = record { refl = λ a. refl; symm = λ a b h. sym h; trans = Same-trans } }

abbrev pub ℚ : Type 0
ℚ = Quotient pairs

abbrev pub of_pair : Pair → ℚ
of_pair a = Quotient.mk pairs a

abbrev pub pair_sum : Pair → Pair → Pair
pair_sum a b = record { num = a.num *ℤ pos b.den +ℤ b.num *ℤ pos a.den; den = a.den * b.den; positive = mul-pos a.positive b.positive }

abbrev pub pair_product : Pair → Pair → Pair
pair_product a b = record { num = a.num *ℤ b.num; den = a.den * b.den; positive = mul-pos a.positive b.positive }

abbrev pub pair_negated : Pair → Pair
pair_negated a = record { num = neg_ℤ a.num; den = a.den; positive = a.positive }

pub Same-sum : (a b c d : Pair) → Same a c → Same b d → Same (pair_sum a b) (pair_sum c d)
Same-sum a b c d p q = Equals-plus (fraction_of a) (fraction_of b) (fraction_of c) (fraction_of d) p q

pub Same-product : (a b c d : Pair) → Same a c → Same b d → Same (pair_product a b) (pair_product c d)
Same-product a b c d p q = Equals-times (fraction_of a) (fraction_of b) (fraction_of c) (fraction_of d) p q

pub Same-negated : (a b : Pair) → Same a b → Same (pair_negated a) (pair_negated b)
Same-negated a b p = Equals-negated (fraction_of a) (fraction_of b) p

infixl 6 ◌+ℚ◌
unfoldable pub ◌+ℚ◌ : ℚ → ℚ → ℚ
x +ℚ y = Quotient.lift₂ pairs pairs (Quotient-set pairs) (λ a b. of_pair (pair_sum a b)) (λ a b c d p q. Quotient.sound pairs (Same-sum a b c d p q)) x y

infixl 7 ◌*ℚ◌
unfoldable pub ◌*ℚ◌ : ℚ → ℚ → ℚ
x *ℚ y = Quotient.lift₂ pairs pairs (Quotient-set pairs) (λ a b. of_pair (pair_product a b)) (λ a b c d p q. Quotient.sound pairs (Same-product a b c d p q)) x y

unfoldable pub neg_ℚ : ℚ → ℚ
neg_ℚ x = Quotient.lift pairs (Quotient-set pairs) (λ a. of_pair (pair_negated a)) (λ a b p. Quotient.sound pairs (Same-negated a b p)) x

pub one_positive : 0 < 1
one_positive = omega arith

abbrev pub whole_pair : ℤ → Pair
whole_pair n = record { num = n; den = 1; positive = one_positive }

abbrev pub whole_ℚ : ℤ → ℚ
whole_ℚ n = of_pair (whole_pair n)

pub ℚ_set : (x y : ℚ) → IsProp (x ≡ y)
ℚ_set = Quotient-set pairs

pub same : (a b : Pair) → Same a b → of_pair a ≡ of_pair b
same a b h = Quotient.sound pairs h

pub by_pair : (f g : ℚ → ℚ) → ((a : Pair) → f (of_pair a) ≡ g (of_pair a)) → (x : ℚ) → f x ≡ g x
by_pair f g h x = Quotient.ind pairs {motive = λ x. f x ≡ g x} (λ x. ℚ_set (f x) (g x)) h x

pub by_pair₂ : (f g : ℚ → ℚ → ℚ) → ((a b : Pair) → f (of_pair a) (of_pair b) ≡ g (of_pair a) (of_pair b)) → (x y : ℚ) → f x y ≡ g x y
by_pair₂ f g h x y = by_pair (λ x. f x y) (λ x. g x y) (λ a. by_pair (f (of_pair a)) (g (of_pair a)) (h a) y) x

pub by_pair₃ : (f g : ℚ → ℚ → ℚ → ℚ) → ((a b c : Pair) → f (of_pair a) (of_pair b) (of_pair c) ≡ g (of_pair a) (of_pair b) (of_pair c)) → (x y z : ℚ) → f x y z ≡ g x y z
by_pair₃ f g h x y z = by_pair (λ x. f x y z) (λ x. g x y z) (λ a. by_pair₂ (f (of_pair a)) (g (of_pair a)) (h a) y z) x

-- ---- the laws of a field

pub +ℚ_assoc : (x y z : ℚ) → (x +ℚ y) +ℚ z ≡ x +ℚ (y +ℚ z)
unfolding ◌+ℚ◌ Quotient.lift₂
+ℚ_assoc x y z = by_pair₃ (λ x y z. (x +ℚ y) +ℚ z) (λ x y z. x +ℚ (y +ℚ z))
    (λ a b c. same (pair_sum (pair_sum a b) c) (pair_sum a (pair_sum b c)) (plus_assoc (fraction_of a) (fraction_of b) (fraction_of c))) x y z

pub +ℚ_comm : (x y : ℚ) → x +ℚ y ≡ y +ℚ x
unfolding ◌+ℚ◌ Quotient.lift₂
+ℚ_comm x y = by_pair₂ (λ x y. x +ℚ y) (λ x y. y +ℚ x) (λ a b. same (pair_sum a b) (pair_sum b a) (plus_comm (fraction_of a) (fraction_of b))) x y

pub +ℚ-zero : (x : ℚ) → x +ℚ whole_ℚ (pos 0) ≡ x
unfolding ◌+ℚ◌ Quotient.lift₂
+ℚ-zero x = by_pair (λ x. x +ℚ whole_ℚ (pos 0)) (λ x. x) (λ a. same (pair_sum a (whole_pair (pos 0))) a (plus-zero (fraction_of a))) x

pub +ℚ-neg_ℚ : (x : ℚ) → x +ℚ neg_ℚ x ≡ whole_ℚ (pos 0)
unfolding ◌+ℚ◌ neg_ℚ Quotient.lift₂ Quotient.lift
+ℚ-neg_ℚ x = by_pair (λ x. x +ℚ neg_ℚ x) (λ x. whole_ℚ (pos 0)) (λ a. same (pair_sum a (pair_negated a)) (whole_pair (pos 0)) (plus-negated (fraction_of a))) x

pub *ℚ_assoc : (x y z : ℚ) → (x *ℚ y) *ℚ z ≡ x *ℚ (y *ℚ z)
unfolding ◌*ℚ◌ Quotient.lift₂
*ℚ_assoc x y z = by_pair₃ (λ x y z. (x *ℚ y) *ℚ z) (λ x y z. x *ℚ (y *ℚ z))
    (λ a b c. same (pair_product (pair_product a b) c) (pair_product a (pair_product b c)) (times_assoc (fraction_of a) (fraction_of b) (fraction_of c))) x y z

pub *ℚ_comm : (x y : ℚ) → x *ℚ y ≡ y *ℚ x
unfolding ◌*ℚ◌ Quotient.lift₂
*ℚ_comm x y = by_pair₂ (λ x y. x *ℚ y) (λ x y. y *ℚ x) (λ a b. same (pair_product a b) (pair_product b a) (times_comm (fraction_of a) (fraction_of b))) x y

pub *ℚ-one : (x : ℚ) → x *ℚ whole_ℚ (pos 1) ≡ x
unfolding ◌*ℚ◌ Quotient.lift₂
*ℚ-one x = by_pair (λ x. x *ℚ whole_ℚ (pos 1)) (λ x. x) (λ a. same (pair_product a (whole_pair (pos 1))) a (times-one (fraction_of a))) x

pub *ℚ-+ℚ : (x y z : ℚ) → x *ℚ (y +ℚ z) ≡ x *ℚ y +ℚ x *ℚ z
unfolding ◌+ℚ◌ ◌*ℚ◌ Quotient.lift₂
*ℚ-+ℚ x y z = by_pair₃ (λ x y z. x *ℚ (y +ℚ z)) (λ x y z. x *ℚ y +ℚ x *ℚ z)
    (λ a b c. same (pair_product a (pair_sum b c)) (pair_sum (pair_product a b) (pair_product a c)) (times-plus (fraction_of a) (fraction_of b) (fraction_of c))) x y z

-- two fractions are one rational only where their cross products are equal
pub exact : (a b : Pair) → of_pair a ≡ of_pair b → Same a b
exact a b e = Quotient.exact pairs (λ a b. ℤ_set _ _) e

-- ---- the order
pub signs : (n m : ℤ) (p q : ℕ) → 0 < p → 0 < q → n *ℤ pos q ≡ m *ℤ pos p → non_neg n ≡ non_neg m
signs (pos n) (pos m) p q hp hq h = refl
signs (pos n) (negsuc m) p q hp hq h = absurd (omega (arith, ints, h))
signs (negsuc n) (pos m) p q hp hq h = absurd (omega (arith, ints, h))
signs (negsuc n) (negsuc m) p q hp hq h = refl

unfoldable pub nonneg : ℚ → Bool
nonneg x = Quotient.lift pairs Bool-set (λ a. non_neg a.num) (λ a b h. signs a.num b.num a.den b.den a.positive b.positive h) x

pub record IsNonNeg (x : ℚ) : Type 0 where
  pub yes : T (nonneg x)

by_pair_fact : (P : ℚ → Type 0) → ((x : ℚ) → IsProp (P x)) → ((a : Pair) → P (of_pair a)) → (x : ℚ) → P x
by_pair_fact P prop h x = Quotient.ind pairs {motive = P} prop h x

T_prop : (b : Bool) → IsProp (T b)
T_prop true = hlevel
T_prop false = hlevel

sum_sign : (n m : ℤ) (p q : ℕ) → T (non_neg n) → T (non_neg m) → T (non_neg (n *ℤ pos q +ℤ m *ℤ pos p))
sum_sign (pos n) (pos m) p q s t = tt
sum_sign (pos n) (negsuc m) p q s t = absurd t
sum_sign (negsuc n) m p q s t = absurd s

product_sign : (n m : ℤ) → T (non_neg n) → T (non_neg m) → T (non_neg (n *ℤ m))
product_sign (pos n) (pos m) s t = tt
product_sign (pos n) (negsuc m) s t = absurd t
product_sign (negsuc n) m s t = absurd s

nonneg-sum_lem : (x y : ℚ) → T (nonneg x) → T (nonneg y) → T (nonneg (x +ℚ y))
unfolding nonneg ◌+ℚ◌ Quotient.lift₂ Quotient.lift
nonneg-sum_lem x y = by_pair_fact (λ x. T (nonneg x) → T (nonneg y) → T (nonneg (x +ℚ y))) (λ x. hlevel T_prop)
    (λ a. by_pair_fact (λ y. T (nonneg (of_pair a)) → T (nonneg y) → T (nonneg (of_pair a +ℚ y))) (λ y. hlevel T_prop)
    (λ b s t. sum_sign a.num b.num a.den b.den s t) y) x

pub nonneg-sum : (x y : ℚ) → IsNonNeg x → IsNonNeg y → IsNonNeg (x +ℚ y)
nonneg-sum x y s t = record { yes = nonneg-sum_lem x y s.yes t.yes }

nonneg-product_lem : (x y : ℚ) → T (nonneg x) → T (nonneg y) → T (nonneg (x *ℚ y))
unfolding nonneg ◌*ℚ◌ Quotient.lift₂ Quotient.lift
nonneg-product_lem x y = by_pair_fact (λ x. T (nonneg x) → T (nonneg y) → T (nonneg (x *ℚ y))) (λ x. hlevel T_prop)
    (λ a. by_pair_fact (λ y. T (nonneg (of_pair a)) → T (nonneg y) → T (nonneg (of_pair a *ℚ y))) (λ y. hlevel T_prop)
    (λ b s t. product_sign a.num b.num s t) y) x

pub nonneg-product : (x y : ℚ) → IsNonNeg x → IsNonNeg y → IsNonNeg (x *ℚ y)
nonneg-product x y s t = record { yes = nonneg-product_lem x y s.yes t.yes }

-- ---- from fractions

pub pos_suc : (d : ℕ) → 0 < suc d
pos_suc d = omega arith

-- the pair of n and d + 1
abbrev pub over : ℤ → ℕ → Pair
over n d = record { num = n; den = suc d; positive = pos_suc d }

abbrev pub rational : ℤ → ℕ → ℚ
rational n zero = whole_ℚ (pos 0)
rational n (suc d) = of_pair (over n d)

-- the rational of a fraction
abbrev pub rational_of : Fraction → ℚ
rational_of a = rational a.num a.den

rational_from_pair : (n : ℤ) (d : ℕ) (h : 0 < d) → rational n d ≡ of_pair (record { num = n; den = d; positive = h })
rational_from_pair n zero h = absurd (omega arith)
rational_from_pair n (suc d) h = same (over n d) (record { num = n; den = suc d; positive = h }) refl

pub rational_of-same : (a b : Fraction) → IsFraction a → IsFraction b → Equals a b → rational_of a ≡ rational_of b
rational_of-same a b ha hb h = rational_from_pair a.num a.den ha ∙ same (record { num = a.num; den = a.den; positive = ha }) (record { num = b.num; den = b.den; positive = hb }) h ∙ sym (rational_from_pair b.num b.den hb)

pub Equals_from_rational_of : (a b : Fraction) → IsFraction a → IsFraction b → rational_of a ≡ rational_of b → Equals a b
Equals_from_rational_of a b ha hb e =
    exact (record { num = a.num; den = a.den; positive = ha }) (record { num = b.num; den = b.den; positive = hb }) (sym (rational_from_pair a.num a.den ha) ∙ e ∙ rational_from_pair b.num b.den hb)

pub rational_of-whole : (n : ℤ) → rational_of (whole_number n) ≡ whole_ℚ n
rational_of-whole n = rational_from_pair n 1 one_positive

pair_at : (a : Fraction) → IsFraction a → Pair
pair_at a h = record { num = a.num; den = a.den; positive = h }

pub rational_of-plus : (a b : Fraction) → IsFraction a → IsFraction b → rational_of (plus a b) ≡ rational_of a +ℚ rational_of b
unfolding ◌+ℚ◌ Quotient.lift₂ pair_at
rational_of-plus a b ha hb =
    rational_from_pair (plus a b).num (plus a b).den (mul-pos ha hb)
    ∙ ap (λ x. x +ℚ of_pair (pair_at b hb)) (sym (rational_from_pair a.num a.den ha)) ∙ ap (λ x. rational_of a +ℚ x) (sym (rational_from_pair b.num b.den hb))

pub rational_of-times : (a b : Fraction) → IsFraction a → IsFraction b → rational_of (times a b) ≡ rational_of a *ℚ rational_of b
unfolding ◌*ℚ◌ Quotient.lift₂ pair_at
rational_of-times a b ha hb =
    rational_from_pair (times a b).num (times a b).den (mul-pos ha hb)
    ∙ ap (λ x. x *ℚ of_pair (pair_at b hb)) (sym (rational_from_pair a.num a.den ha)) ∙ ap (λ x. rational_of a *ℚ x) (sym (rational_from_pair b.num b.den hb))

pub rational_of-negated : (a : Fraction) → IsFraction a → rational_of (negation a) ≡ neg_ℚ (rational_of a)
unfolding neg_ℚ Quotient.lift pair_at
rational_of-negated a ha = rational_from_pair (neg_ℤ a.num) a.den ha ∙ ap neg_ℚ (sym (rational_from_pair a.num a.den ha))

rational_of-less : (a b : Fraction) → IsFraction a → IsFraction b → rational_of (minus a b) ≡ rational_of a +ℚ neg_ℚ (rational_of b)
rational_of-less a b ha hb = rational_of-plus a (negation b) ha hb ∙ ap (λ x. rational_of a +ℚ x) (rational_of-negated b hb)

pub positive-reciprocal_of : (n : ℤ) (d : ℕ) → n ≢ pos 0 → IsFraction (reciprocal (record { num = n; den = d }))
positive-reciprocal_of (pos zero) d h = absurd (h refl)
positive-reciprocal_of (pos (suc n)) d h = pos_suc n
positive-reciprocal_of (negsuc n) d h = pos_suc n

pub rational_of-reciprocal : (a : Fraction) → IsFraction a → a.num ≢ pos 0 → rational_of a *ℚ rational_of (reciprocal a) ≡ whole_ℚ (pos 1)
rational_of-reciprocal a ha h =
    let hr : IsFraction (reciprocal a) = positive-reciprocal_of a.num a.den h in
    sym (rational_of-times a (reciprocal a) ha hr) ∙ rational_of-same (times a (reciprocal a)) (whole_number (pos 1)) (mul-pos ha hr) one_positive (times-reciprocal a h) ∙ rational_of-whole (pos 1)

-- ---- the order of fractions

low_from_sign : (z : ℤ) → T (non_neg z) → pos 0 ≤ℤ z
low_from_sign (pos n) s = omega (arith, ints)
low_from_sign (negsuc n) s = absurd s

sign_from_low : (z : ℤ) → pos 0 ≤ℤ z → T (non_neg z)
sign_from_low (pos n) h = tt
sign_from_low (negsuc n) h = absurd (omega (arith, ints, h))

nonneg_at : (a : Pair) → IsNonNeg (of_pair a) ↔ (pos 0 ≤ℤ a.num)
unfolding nonneg Quotient.lift
nonneg_at a = (λ s. low_from_sign a.num s.yes, λ h. record { yes = sign_from_low a.num h })

nonneg_of : (a : Fraction) → IsFraction a → IsNonNeg (rational_of a) ↔ (pos 0 ≤ℤ a.num)
nonneg_of a ha =
    let p : Pair = record { num = a.num; den = a.den; positive = ha } in
    let e : rational_of a ≡ of_pair p = rational_from_pair a.num a.den ha in
    (λ s. (nonneg_at p).0 (subst IsNonNeg e s), λ h. subst IsNonNeg (sym e) ((nonneg_at p).1 h))

neg_out : (n : ℤ) (p : ℕ) → neg_ℤ n *ℤ pos p ≡ neg_ℤ (n *ℤ pos p)
neg_out n p = rw (is_diff n) (simp (diffs, diff_pos) (diff_same _ _ _ _ (omega arith)))

pub nonneg_from_AtMost : (a b : Fraction) → IsFraction a → IsFraction b → AtMost a b → IsNonNeg (rational_of b +ℚ neg_ℚ (rational_of a))
nonneg_from_AtMost a b ha hb h = subst IsNonNeg (rational_of-less b a hb ha) ((nonneg_of (minus b a) (mul-pos hb ha)).1 (omega (arith, ints, h, neg_out a.num b.den)))

pub AtMost_from_nonneg : (a b : Fraction) → IsFraction a → IsFraction b → IsNonNeg (rational_of b +ℚ neg_ℚ (rational_of a)) → AtMost a b
AtMost_from_nonneg a b ha hb s =
    let low : pos 0 ≤ℤ (b.num *ℤ pos a.den +ℤ neg_ℤ a.num *ℤ pos b.den) = (nonneg_of (minus b a) (mul-pos hb ha)).0 (subst IsNonNeg (sym (rational_of-less b a hb ha)) s) in
    omega (arith, ints, low, neg_out a.num b.den)
