-- Operations on fractions in lowest terms that are never too wide.
use Rattle.std.proofs.Common.{◌≡◌, ◌≢◌, ◌⊎◌, inl, inr, ℕ, zero, suc, ◌+◌, ◌*◌, ◌/◌, ◌<◌, ◌≤◌, ◌^◌, refl, sym, ap, subst, ◌∙◌, arith, Bool, true, if◌then◌else◌, ◌&&◌, Option, Some, None, List, [], ◌∷◌, length, ℤ, pos, negsuc, neg_ℤ, ◌*ℤ◌, unsigned_abs}
use Rattle.std.specs.Option.{option_map, option_and_then}
use Rattle.std.specs.List.{AllByRecursion}
use Rattle.std.proofs.lemmas.Int.{ints, unsigned_abs-mul}
use Rattle.std.proofs.lemmas.Bool.{eq-eqb, ne_eqb, cases_eq}
use Rattle.std.proofs.lemmas.Bool.Decides.{nat_tests}
use Rattle.std.proofs.Math.Nat.{mul-le-mul_right}
use Rattle.std.proofs.Math.IntN.{zero-*ℤ, *ℤ_comm}
use Rattle.ice_defs.specs.Fraction.{Fraction, whole_number, Equals, times, negation, fraction_at}
use Rattle.ice_defs.specs.Frac.{gcd, lowest, if_fits, num_fits, den_fits, add, mul, reciprocal}
use Rattle.ice_defs.specs.Dictionary.{Left, all_of, other_entry, other_entries, other_constant}
use Rattle.ice_defs.proofs.Products.{times_one}
use Rattle.ice_defs.proofs.Integers.{unsigned_abs-neg}
use Rattle.ice_frac.specs.Lowest.{IsLowest}
use Rattle.ice_frac.proofs.Ring.{is_diff, diff_same, diff_pos, diffs}
use Rattle.ice_frac.proofs.Gcd.{gcd_one}
use Rattle.ice_frac.proofs.Lowest.{Equals-lowest, IsLowest-lowest, IsLowest-reciprocal, common_sum, add_is}
use Rattle.ice_frac.proofs.Fractions.{Equals-trans}
use Rattle.ice_frac.proofs.FieldLaws.{lowest_is_unique}
use Rattle.ice_program_laws.specs.Laws.{SomeAreNeverWide, ProductsCommute, ZeroRowStays}

num_fits_is : (n : ℤ) → unsigned_abs n < 2 ^ 127 → num_fits n ≡ true
num_fits_is n h = grind (arith, nat_tests)

den_fits_is : (d : ℕ) → 0 < d → d < 2 ^ 127 → den_fits d ≡ true
den_fits_is d h l = grind (arith, nat_tests)

-- what a product in range comes out as
product_is : (a b c : Fraction) → IsLowest c → unsigned_abs (a.num *ℤ b.num) < 2 ^ 127 → 0 < a.den * b.den → a.den * b.den < 2 ^ 127 → Equals c (times a b) → mul a b ≡ Some c
product_is a b c hc hn hp hd e =
    let made : Fraction = lowest (a.num *ℤ b.num) (a.den * b.den) in
    let same : made ≡ c = lowest_is_unique made c (IsLowest-lowest (a.num *ℤ b.num) (a.den * b.den) hn hp hd) hc
    (Equals-trans made (times a b) c hp (Equals-lowest (a.num *ℤ b.num) (a.den * b.den)) (sym e)) in
    ap if_fits same ∙ two (num_fits c.num) (den_fits c.den) c (num_fits_is c.num hc.num_fits) (den_fits_is c.den hc.positive hc.den_fits)
  where
    two : (p q : Bool) (x : Fraction) → p ≡ true → q ≡ true → (if p && q then Some x else None) ≡ Some x
    two p q x e f = rw (e, f) refl

pub whole_lowest : (n : ℤ) → unsigned_abs n < 2 ^ 127 → IsLowest (whole_number n)
whole_lowest n h = record { num_fits = h; positive = omega arith; den_fits = omega arith; coprime = gcd_one (unsigned_abs n) }

pub zero_lowest : IsLowest (whole_number (pos 0))
zero_lowest = whole_lowest (pos 0) (omega arith)

negated_lowest : (a : Fraction) → IsLowest a → IsLowest (negation a)
negated_lowest a h = record {
  num_fits = subst (λ n. n < 2 ^ 127) (sym (unsigned_abs-neg a.num)) h.num_fits;
  positive = h.positive;
  den_fits = h.den_fits;
  coprime = ap (λ n. gcd n a.den) (unsigned_abs-neg a.num) ∙ h.coprime;
}

-- a product by a whole number of size at most 1
small_product : (n : ℤ) (a c : Fraction) → unsigned_abs n ≤ 1 → IsLowest a → IsLowest c → Equals c (times (whole_number n) a) → mul (whole_number n) a ≡ Some c
small_product n a c hn ha hc e =
    let size : unsigned_abs (n *ℤ a.num) ≡ unsigned_abs n * unsigned_abs a.num = unsigned_abs-mul n a.num in
    let below : unsigned_abs n * unsigned_abs a.num ≤ 1 * unsigned_abs a.num = mul-le-mul_right (unsigned_abs a.num) hn in
    let num : unsigned_abs a.num < 2 ^ 127 = ha.num_fits in
    let positive : 0 < a.den = ha.positive in
    let den : a.den < 2 ^ 127 = ha.den_fits in
    product_is (whole_number n) a c hc (omega (arith, size, below, num)) (omega (arith, positive)) (omega (arith, den)) e

by_zero : (a : Fraction) → IsLowest a → mul (whole_number (pos 0)) a ≡ Some (whole_number (pos 0))
by_zero a h = small_product (pos 0) a (whole_number (pos 0)) (omega arith) h zero_lowest (law a.num a.den)
  where
    law : (n : ℤ) (d : ℕ) → pos 0 *ℤ pos (1 * d) ≡ (pos 0 *ℤ n) *ℤ pos 1
    law n d = rw (is_diff n) (simp (diffs, diff_pos) (diff_same _ _ _ _ (omega arith)))

by_one : (a : Fraction) → IsLowest a → mul (whole_number (pos 1)) a ≡ Some a
by_one a h = small_product (pos 1) a a (omega arith) h h (law a.num a.den)
  where
    law : (n : ℤ) (d : ℕ) → n *ℤ pos (1 * d) ≡ (pos 1 *ℤ n) *ℤ pos d
    law n d = rw (is_diff n) (simp (diffs, diff_pos) (diff_same _ _ _ _ (omega arith)))

minus_one : (n : ℤ) → negsuc 0 *ℤ n ≡ neg_ℤ n
minus_one (pos n) = let e : 1 * n ≡ n = omega arith in ap (λ x. neg_ℤ (pos x)) e
minus_one (negsuc n) = let e : 1 * suc n ≡ suc n = omega arith in ap pos e

by_minus_one : (a : Fraction) → IsLowest a → mul (whole_number (negsuc 0)) a ≡ Some (negation a)
by_minus_one a h =
    let e : 1 * a.den ≡ a.den = omega arith in
    small_product (negsuc 0) a (negation a) (omega arith) h (negated_lowest a h) (ap (λ d. neg_ℤ a.num *ℤ pos d) e ∙ ap (λ n. n *ℤ pos a.den) (sym (minus_one a.num)))

pub lowest_of_lowest : (a : Fraction) → IsLowest a → lowest a.num a.den ≡ a
lowest_of_lowest a h = lowest_is_unique (lowest a.num a.den) a (IsLowest-lowest a.num a.den h.num_fits h.positive h.den_fits) h (Equals-lowest a.num a.den)

sum_with_zero : (a : Fraction) → IsLowest a → add a (whole_number (pos 0)) ≡ Some a
sum_with_zero a h =
    let g : gcd a.den 1 ≡ 1 = gcd_one a.den in
    let left : a.num *ℤ pos (1 / gcd a.den 1) ≡ a.num = ap (λ x. a.num *ℤ pos (1 / x)) g ∙ times_one a.num in
    let right : pos 0 *ℤ pos (a.den / gcd a.den 1) ≡ pos 0 = zero-*ℤ (pos (a.den / gcd a.den 1)) in
    let num : (common_sum a (whole_number (pos 0))).num ≡ a.num = omega (arith, ints, left, right) in
    let den : (common_sum a (whole_number (pos 0))).den ≡ a.den = ap (λ x. a.den * (1 / x)) g ∙ (let e : a.den * 1 ≡ a.den = omega arith in e) in
    add_is a (whole_number (pos 0)) (ap num_fits left ∙ num_fits_is a.num h.num_fits) (ap num_fits right ∙ num_fits_is (pos 0) (omega arith))
    (ap num_fits num ∙ num_fits_is a.num h.num_fits) (ap den_fits den ∙ den_fits_is a.den h.positive h.den_fits)
    ∙ ap (λ x. Some (lowest x (common_sum a (whole_number (pos 0))).den)) num ∙ ap (λ x. Some (lowest a.num x)) den ∙ ap (λ (x : Fraction). Some x) (lowest_of_lowest a h)

pub products_commute : ProductsCommute
products_commute a b =
    let den : a.den * b.den ≡ b.den * a.den = omega arith in
    ap (λ n. if_fits (lowest n (a.den * b.den))) (*ℤ_comm a.num b.num) ∙ ap (λ d. if_fits (lowest (b.num *ℤ a.num) d)) den

pub some_are_never_wide : SomeAreNeverWide
some_are_never_wide a h = record {
  by_zero = by_zero a h;
  by_one = by_one a h;
  by_minus_one = by_minus_one a h;
  sum_with_zero = sum_with_zero a h;
  zero_over = λ n. by_zero (reciprocal a) (IsLowest-reciprocal a.num a.den h n);
  one_over = λ n. by_one (reciprocal a) (IsLowest-reciprocal a.num a.den h n);
}

-- ---- a row whose coefficient of the entering variable is 0

lowest_at : (es : List Fraction) → AllByRecursion IsLowest es → (j : ℕ) → IsLowest (fraction_at es j)
lowest_at [] h j = zero_lowest
lowest_at (e ∷ es) h zero = h.0
lowest_at (e ∷ es) h (suc j) = lowest_at es h.1 j

pub zero_is : (a : Fraction) → IsLowest a → a.num ≡ pos 0 → a ≡ whole_number (pos 0)
zero_is a h e = lowest_is_unique a (whole_number (pos 0)) h zero_lowest (times_one a.num ∙ e ∙ sym (zero-*ℤ (pos a.den)))

no_addition : (e r : Fraction) → IsLowest e → IsLowest r → option_and_then (add e) (mul (whole_number (pos 0)) r) ≡ Some e
no_addition e r he hr = ap (option_and_then (add e)) (by_zero r hr) ∙ sum_with_zero e he

entry_stays : (k s : ℕ) (r e : Fraction) → IsLowest r → IsLowest e → (s ≡ k → e ≡ whole_number (pos 0)) → other_entry (whole_number (pos 0)) k s r e ≡ Some e
entry_stays k s r e hr he zero_at = by (cases_eq s k)
  where
    by : (s ≡ k) ⊎ (s ≢ k) → other_entry (whole_number (pos 0)) k s r e ≡ Some e
    by (inl p) = ap (λ b. if b then mul (whole_number (pos 0)) r else option_and_then (add e) (mul (whole_number (pos 0)) r)) (eq-eqb s k p) ∙ by_zero r hr ∙ ap (λ (x : Fraction). Some x) (sym (zero_at p))
    by (inr p) = ap (λ b. if b then mul (whole_number (pos 0)) r else option_and_then (add e) (mul (whole_number (pos 0)) r)) (ne_eqb s k p) ∙ no_addition e r he hr

entries_stay : (k s : ℕ) (rs es : List Fraction) → length rs ≡ length es → AllByRecursion IsLowest rs → AllByRecursion IsLowest es
    → ((j : ℕ) → s + j ≡ k → fraction_at es j ≡ whole_number (pos 0)) → all_of (other_entries (whole_number (pos 0)) k s rs es) ≡ Some es
entries_stay k s [] [] same hr he zero_at = refl
entries_stay k s [] (e ∷ es) same hr he zero_at = absurd (omega arith)
entries_stay k s (r ∷ rs) [] same hr he zero_at = absurd (omega arith)
entries_stay k s (r ∷ rs) (e ∷ es) same hr he zero_at =
    ap (λ o. all_of (o ∷ other_entries (whole_number (pos 0)) k (suc s) rs es)) (entry_stays k s r e hr.0 he.0 (λ p. zero_at zero (let q : s + zero ≡ k = omega (arith, p) in q)))
    ∙ ap (option_map (λ xs. e ∷ xs)) (entries_stay k (suc s) rs es (omega arith) hr.1 he.1 (λ j p. zero_at (suc j) (let q : s + suc j ≡ k = omega (arith, p) in q)))

pub zero_row_stays : ZeroRowStays
zero_row_stays k new row hn hr same zero_num =
    let f : Fraction = fraction_at row.coeffs k in
    let is_zero : f ≡ whole_number (pos 0) = zero_is f (lowest_at row.coeffs hr.coeffs k) zero_num in
    let zero_at : (j : ℕ) → 0 + j ≡ k → fraction_at row.coeffs j ≡ whole_number (pos 0) = λ j p. let q : j ≡ k = omega (arith, p) in ap (λ i. fraction_at row.coeffs i) q ∙ is_zero in
    let made : Option Fraction → Option (List Fraction) → Option Left = λ constant coeffs. option_and_then (λ (c : Fraction). option_map (λ (es : List Fraction). let x : Left = record { variable = row.variable; constant = c; coeffs = es } in x) coeffs) constant in
    ap (λ g. made (other_constant g new row.constant) (all_of (other_entries g k 0 new.coeffs row.coeffs))) is_zero
    ∙ ap (λ o. made o (all_of (other_entries (whole_number (pos 0)) k 0 new.coeffs row.coeffs))) (no_addition row.constant new.constant hr.constant hn.constant)
    ∙ ap (made (Some row.constant)) (entries_stay k 0 new.coeffs row.coeffs same hn.coeffs hr.coeffs zero_at)
