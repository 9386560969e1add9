-- The constants of the left variables stay at least 0.
use Rattle.std.proofs.Common.{◌≡◌, ◌≢◌, ℕ, ◌<◌, refl, sym, ap, subst, ◌∙◌, arith, Bool, true, false, length, ℤ, pos, negsuc, ◌<ℤ◌, ◌≤ℤ◌}
use Rattle.std.proofs.lemmas.Int.{ints}
use Rattle.std.proofs.Math.IntN.{zero-*ℤ}
use Rattle.ice_defs.specs.Fraction.{Fraction, whole_number, IsFraction, AtMost, Below, negation, fraction_at}
use Rattle.ice_defs.specs.Frac.{reciprocal}
use Rattle.ice_defs.specs.Dictionary.{Left, Dictionary, Spot, is_negative, Ratio}
use Rattle.ice_defs.proofs.Products.{times_one}
use Rattle.ice_frac.proofs.Rational.{ℚ, ◌+ℚ◌, ◌*ℚ◌, neg_ℚ, *ℚ_assoc, *ℚ_comm, *ℚ-+ℚ, IsNonNeg, nonneg-sum, nonneg-product, rational_of, rational_of-negated, rational_of-reciprocal, positive-reciprocal_of}
use Rattle.ice_program_laws.specs.Solutions.{left_at, IsDictionary, IsPivot}
use Rattle.ice_program_laws.proofs.Field.{one_ℚ, one-*ℚ, *ℚ-neg, neg-*ℚ, neg-neg}
use Rattle.ice_program_laws.proofs.Dots.{to_ℚ, nonneg_at_ℚ}
use Rattle.ice_program_laws.proofs.Results.{IsQuotient}
use Rattle.ice_program_laws.proofs.PivotQ.{by_place, cancel_left}
use Rattle.ice_program_laws.proofs.Pivot.{Made}
use Rattle.ice_program_laws.proofs.Choosing.{negative_is, not_negative, coeff_at, HasRatio, Leaves}

pub low_from_num : (a : Fraction) → pos 0 ≤ℤ a.num → AtMost (whole_number (pos 0)) a
low_from_num a h = omega (arith, ints, h, times_one a.num, zero-*ℤ (pos a.den))

pub above_from_num : (a : Fraction) → pos 0 <ℤ a.num → Below (whole_number (pos 0)) a
above_from_num a h = omega (arith, ints, h, times_one a.num, zero-*ℤ (pos a.den))

pub nonneg_from_num : (a : Fraction) → IsFraction a → pos 0 ≤ℤ a.num → IsNonNeg (rational_of a)
nonneg_from_num a ha h = nonneg_at_ℚ a ha (low_from_num a h)

low-reciprocal_of : (n : ℤ) (d : ℕ) → pos 0 <ℤ n → pos 0 ≤ℤ (reciprocal (record { num = n; den = d })).num
low-reciprocal_of (pos n) d h = omega (arith, ints)
low-reciprocal_of (negsuc n) d h = absurd (omega (arith, ints, h))

-- a quotient by what is above 0
pub quotient_low : (e a r : Fraction) → IsFraction a → pos 0 <ℤ a.num → IsQuotient e a r → IsNonNeg (rational_of e) → IsNonNeg (rational_of r)
quotient_low e a r ha h q low =
    let nonzero : a.num ≢ pos 0 = λ z. omega (arith, ints, h, z) in
    let b : Fraction = reciprocal a in
    let hb : IsNonNeg (rational_of b) = nonneg_from_num b (positive-reciprocal_of a.num a.den nonzero) (low-reciprocal_of a.num a.den h) in
    let is : rational_of b *ℚ rational_of e ≡ rational_of r =
    ap (λ z. rational_of b *ℚ z) (sym q.value) ∙ sym (*ℚ_assoc (rational_of b) (rational_of a) (rational_of r))
    ∙ ap (λ z. z *ℚ rational_of r) (*ℚ_comm (rational_of b) (rational_of a) ∙ rational_of-reciprocal a ha nonzero) ∙ one-*ℚ (rational_of r) in
    subst IsNonNeg is (nonneg-product (rational_of b) (rational_of e) hb low)

negated_above : (f : Fraction) → is_negative f ≡ true → pos 0 <ℤ (negation f).num
negated_above f h = let l : f.num <ℤ pos 0 = negative_is f h in omega (arith, ints, l)

abbrev pub Low : Dictionary → Type 0
Low d = (i : ℕ) → i < length d.left → IsNonNeg (rational_of (left_at d i).constant)

module _ (d after : Dictionary) (l : ℕ) (k : Spot) (hd : IsDictionary d) (hp : IsPivot d l k) (m : Made d after l k) (r : Ratio) (leaves : Leaves k.place 0 d.left r) (place : l ≡ leaves.offset) where
  coeff_proper : (i : ℕ) → i < length d.left → IsFraction (coeff_at k.place (left_at d i))
  coeff_proper i h = (hd.left i h).coeffs.proper k.place hp.place

  pub negative_here : is_negative (coeff_at k.place (left_at d l)) ≡ true
  negative_here = subst (λ i. is_negative (coeff_at k.place (left_at d i)) ≡ true) (sym place) leaves.negative

  quotient_here : IsQuotient (left_at d l).constant (negation (coeff_at k.place (left_at d l))) r.ratio
  quotient_here = subst (λ i. IsQuotient (left_at d i).constant (negation (coeff_at k.place (left_at d i))) r.ratio) (sym place) leaves.is

  -- the new constant is the least ratio
  new_constant : rational_of m.new.constant ≡ rational_of r.ratio
  new_constant =
      let a : ℚ = rational_of (coeff_at k.place (left_at d l)) in
      let r0 : ℚ = rational_of m.new.constant in
      let rk : ℚ = rational_of (fraction_at m.new.coeffs k.place) in
      let q : ℚ = rational_of r.ratio in
      let by_neg : neg_ℚ a *ℚ q ≡ rational_of (left_at d l).constant = ap (λ z. z *ℚ q) (sym (rational_of-negated (coeff_at k.place (left_at d l)) (coeff_proper l hp.row))) ∙ quotient_here.value in
      let one : neg_ℚ a *ℚ neg_ℚ rk ≡ one_ℚ = neg-*ℚ a (neg_ℚ rk) ∙ ap neg_ℚ (*ℚ-neg a rk) ∙ neg-neg (a *ℚ rk) ∙ m.new_is.turned.turned.entry in
      cancel_left (neg_ℚ a) (neg_ℚ rk) r0 q one
      (neg-*ℚ a r0 ∙ ap neg_ℚ m.new_is.turned.turned.constant ∙ neg-neg (rational_of (left_at d l).constant) ∙ sym by_neg)

  module _ (low : Low d) where
    new_low : IsNonNeg (rational_of m.new.constant)
    new_low = subst IsNonNeg (sym new_constant)
        (quotient_low (left_at d l).constant (negation (coeff_at k.place (left_at d l))) r.ratio (coeff_proper l hp.row) (negated_above (coeff_at k.place (left_at d l)) negative_here) quotient_here (low l hp.row))

    other_low : (i : ℕ) → i < length d.left → i ≢ l → IsNonNeg (rational_of (left_at after i).constant)
    other_low i h ne = subst IsNonNeg (sym (m.others i h ne).added.added.constant) (by (is_negative (coeff_at k.place (left_at d i))) refl)
      where
        by : (n : Bool) → is_negative (coeff_at k.place (left_at d i)) ≡ n → IsNonNeg (rational_of (left_at d i).constant +ℚ rational_of (coeff_at k.place (left_at d i)) *ℚ rational_of m.new.constant)
        by false e = nonneg-sum (rational_of (left_at d i).constant) (rational_of (coeff_at k.place (left_at d i)) *ℚ rational_of m.new.constant) (low i h)
            (nonneg-product (rational_of (coeff_at k.place (left_at d i))) (rational_of m.new.constant) (nonneg_from_num (coeff_at k.place (left_at d i)) (coeff_proper i h) (not_negative (coeff_at k.place (left_at d i)) e)) new_low)
        by true e =
            let f : Fraction = coeff_at k.place (left_at d i) in
            let x : HasRatio k.place (left_at d i) r.ratio = leaves.least i h e in
            let a : ℚ = rational_of f in
            let q : ℚ = rational_of x.ratio in
            let least : ℚ = rational_of r.ratio in
            let hf : IsNonNeg (neg_ℚ a) = subst IsNonNeg (rational_of-negated f (coeff_proper i h)) (nonneg_from_num (negation f) (coeff_proper i h) (let l : pos 0 <ℤ (negation f).num = negated_above f e in omega (arith, ints, l))) in
            let part : neg_ℚ a *ℚ q ≡ rational_of (left_at d i).constant = ap (λ z. z *ℚ q) (sym (rational_of-negated f (coeff_proper i h))) ∙ x.is.value in
            let is : neg_ℚ a *ℚ (q +ℚ neg_ℚ least) ≡ rational_of (left_at d i).constant +ℚ a *ℚ rational_of m.new.constant =
            *ℚ-+ℚ (neg_ℚ a) q (neg_ℚ least) ∙ ap (λ z. z +ℚ neg_ℚ a *ℚ neg_ℚ least) part
            ∙ ap (λ z. rational_of (left_at d i).constant +ℚ z) (neg-*ℚ a (neg_ℚ least) ∙ ap neg_ℚ (*ℚ-neg a least) ∙ neg-neg (a *ℚ least) ∙ ap (λ z. a *ℚ z) (sym new_constant)) in
            subst IsNonNeg is (nonneg-product (neg_ℚ a) (q +ℚ neg_ℚ least) hf (to_ℚ r.ratio x.ratio quotient_here.proper x.is.proper x.above).rest)

    pub low_after : Low after
    low_after = λ i h. by_place (λ i. IsNonNeg (rational_of (left_at after i).constant)) l (length d.left)
        (λ g. subst (λ (row : Left). IsNonNeg (rational_of row.constant)) (sym m.leaving) new_low) other_low i (subst (λ x. i < x) m.same_length h)
