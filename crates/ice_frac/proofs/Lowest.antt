-- A fraction in lowest terms: it equals the one that it is made
-- of, and the product of two comes out in lowest terms.
use Rattle.std.proofs.Common.{◌≡◌, ◌≢◌, ℕ, zero, suc, ◌*◌, ◌/◌, ◌<◌, ◌≤◌, ◌^◌, refl, sym, ap, subst, ◌∙◌, arith, ℤ, pos, negsuc, neg_ℤ, ◌+ℤ◌, ◌*ℤ◌, unsigned_abs, int_div, int_lt, nat_lt, Bool, true, false, ◌&&◌, if◌then◌else◌, Some, None}
use Rattle.std.specs.Int.{◌∣◌}
use Rattle.std.proofs.lemmas.Bool.Decides.{nat_tests}
use Rattle.std.proofs.lemmas.Int.{unsigned_abs-mul}
use borrow.Author.Tests.{ltb-true}
use Rattle.std.proofs.Math.Nat.{div-mul_cancel, div-le_self, mul-div_cancel', mul-pos, pos_of_dvd_of_pos, dvd-mul_left}
use Rattle.ice_defs.specs.Fraction.{Fraction, Equals, plus, times}
use Rattle.ice_defs.specs.Frac.{gcd, lowest, reciprocal, num_fits, den_fits, if_fits, add, mul}
use Rattle.ice_defs.proofs.Integers.{unsigned_abs-neg}
use Rattle.ice_frac.specs.Lowest.{IsLowest}
use Rattle.ice_frac.proofs.Ring.{is_diff, diff_same, diff_pos, diffs, neg_pos_mul, cancel_ℤ}
use Rattle.ice_frac.proofs.Gcd.{IsGcd-gcd, gcd_pos, gcd_comm, part_dvd, coprime-div, crossed, Crossed}

-- ---- the quotient of an integer by a natural

pub unsigned_abs-int_div : (n : ℤ) (g : ℕ) → unsigned_abs (int_div n (pos g)) ≡ unsigned_abs n / g
unsigned_abs-int_div (pos n) g = refl
unsigned_abs-int_div (negsuc n) g = unsigned_abs-neg (pos (suc n / g))

pub int_div-exact : (n : ℤ) (g : ℕ) → g ∣ unsigned_abs n → int_div n (pos g) *ℤ pos g ≡ n
int_div-exact (pos n) g h = ap pos (div-mul_cancel g h)
int_div-exact (negsuc n) g h = neg_pos_mul (suc n / g) g ∙ ap (λ x. neg_ℤ (pos x)) (div-mul_cancel g h)

pub int_div_is : (n q : ℤ) (g : ℕ) → 0 < g → n ≡ q *ℤ pos g → int_div n (pos g) ≡ q
int_div_is n q g hg e =
    let size : unsigned_abs n ≡ unsigned_abs q * g = ap unsigned_abs e ∙ unsigned_abs-mul q (pos g) in
    cancel_ℤ g _ _ hg (int_div-exact n g (subst (λ x. g ∣ x) (sym size) (dvd-mul_left g (unsigned_abs q))) ∙ e)

-- ---- lowest terms

scaled : (n : ℤ) (d g : ℕ) → n *ℤ pos (d * g) ≡ (n *ℤ pos g) *ℤ pos d
scaled n d g = rw (is_diff n) (simp (diffs, diff_pos) (diff_same _ _ _ _ (omega arith)))

pub Equals-lowest : (n : ℤ) (d : ℕ) → Equals (lowest n d) (record { num = n; den = d })
Equals-lowest n d =
    let g : ℕ = gcd (unsigned_abs n) d in
    ap (λ x. int_div n (pos g) *ℤ pos x) (sym (div-mul_cancel g (IsGcd-gcd (unsigned_abs n) d).1))
    ∙ scaled (int_div n (pos g)) (d / g) g
    ∙ ap (λ x. x *ℤ pos (d / g)) (int_div-exact n g (IsGcd-gcd (unsigned_abs n) d).0)

pub coprime-lowest : (n : ℤ) (d : ℕ) → 0 < d → gcd (unsigned_abs (lowest n d).num) (lowest n d).den ≡ 1
coprime-lowest n d hd =
    let g : ℕ = gcd (unsigned_abs n) d in
    ap (λ x. gcd x (d / g)) (unsigned_abs-int_div n g) ∙ coprime-div (unsigned_abs n) d hd

pub positive-lowest : (n : ℤ) (d : ℕ) → 0 < d → 0 < (lowest n d).den
positive-lowest n d hd = pos_of_dvd_of_pos (part_dvd d _ (IsGcd-gcd (unsigned_abs n) d).1) hd

pub IsLowest-lowest : (n : ℤ) (d : ℕ) → unsigned_abs n < 2 ^ 127 → 0 < d → d < 2 ^ 127 → IsLowest (lowest n d)
IsLowest-lowest n d hn hd small =
    let g : ℕ = gcd (unsigned_abs n) d in
    let size : unsigned_abs (int_div n (pos g)) ≡ unsigned_abs n / g = unsigned_abs-int_div n g in
    let num_below : unsigned_abs n / g ≤ unsigned_abs n = div-le_self (unsigned_abs n) g in
    let den_below : d / g ≤ d = div-le_self d g in
    record {
      num_fits = omega arith;
      positive = positive-lowest n d hd;
      den_fits = omega arith;
      coprime = coprime-lowest n d hd;
    }

-- ---- the reciprocal

pub IsLowest-reciprocal : (n : ℤ) (d : ℕ) → IsLowest (record { num = n; den = d }) → n ≢ pos 0 → IsLowest (reciprocal (record { num = n; den = d }))
IsLowest-reciprocal (pos zero) d a h = absurd (h refl)
IsLowest-reciprocal (pos (suc n)) d a h = record {
  num_fits = a.den_fits;
  positive = omega arith;
  den_fits = a.num_fits;
  coprime = gcd_comm d (suc n) ∙ a.coprime;
}
IsLowest-reciprocal (negsuc n) zero a h = absurd (omega (arith, a.positive))
IsLowest-reciprocal (negsuc n) (suc d) a h = record {
  num_fits = a.den_fits;
  positive = omega arith;
  den_fits = a.num_fits;
  coprime = gcd_comm (suc d) (suc n) ∙ a.coprime;
}

-- a fraction that equals s by the reciprocal of o gives s with o
pub Equals-reciprocal : (rn sn on : ℤ) (rd sd od : ℕ)
    → Equals (record { num = rn; den = rd }) (times (record { num = sn; den = sd }) (reciprocal (record { num = on; den = od })))
    → Equals (times (record { num = rn; den = rd }) (record { num = on; den = od })) (record { num = sn; den = sd })
Equals-reciprocal rn sn (pos n) rd sd od h = left rn sd n ∙ h ∙ right sn od rd
  where
    left : (r : ℤ) (s n : ℕ) → (r *ℤ pos n) *ℤ pos s ≡ r *ℤ pos (s * n)
    left r s n = rw (is_diff r) (simp (diffs, diff_pos) (diff_same _ _ _ _ (omega arith)))

    right : (s : ℤ) (d r : ℕ) → (s *ℤ pos d) *ℤ pos r ≡ s *ℤ pos (r * d)
    right s d r = rw (is_diff s) (simp (diffs, diff_pos) (diff_same _ _ _ _ (omega arith)))
Equals-reciprocal rn sn (negsuc n) rd sd od h = left rn (pos (suc n)) sd ∙ ap neg_ℤ h ∙ right sn (pos od) rd
  where
    left : (r x : ℤ) (s : ℕ) → (r *ℤ neg_ℤ x) *ℤ pos s ≡ neg_ℤ (r *ℤ (pos s *ℤ x))
    left r x s = rw (is_diff r, is_diff x) (simp (diffs, diff_pos) (diff_same _ _ _ _ (omega arith)))

    right : (s x : ℤ) (r : ℕ) → neg_ℤ ((s *ℤ neg_ℤ x) *ℤ pos r) ≡ s *ℤ (pos r *ℤ x)
    right s x r = rw (is_diff s, is_diff x) (simp (diffs, diff_pos) (diff_same _ _ _ _ (omega arith)))

not_below-zero : (n : ℕ) → nat_lt n 0 ≡ false
not_below-zero n = grind (arith, nat_tests)

pub reciprocal_is : (n : ℤ) (d : ℕ) → reciprocal (record { num = n; den = d }) ≡ record { num = if int_lt n (pos 0) then neg_ℤ (pos d) else pos d; den = unsigned_abs n }
reciprocal_is (pos n) d = ap (λ b. record { num = if b then neg_ℤ (pos d) else pos d; den = n }) (sym (not_below-zero n))
reciprocal_is (negsuc n) d = refl

-- ---- the product

-- each numerator freed of what it shares with the other's denominator
abbrev pub crossed_product : Fraction → Fraction → Fraction
crossed_product a b = record {
  num = int_div a.num (pos (gcd (unsigned_abs a.num) b.den)) *ℤ int_div b.num (pos (gcd (unsigned_abs b.num) a.den));
  den = (a.den / gcd (unsigned_abs b.num) a.den) * (b.den / gcd (unsigned_abs a.num) b.den);
}

pair_up : (x y : ℤ) (g h : ℕ) → (x *ℤ pos g) *ℤ (y *ℤ pos h) ≡ (x *ℤ y) *ℤ pos (g * h)
pair_up x y g h = rw (is_diff x, is_diff y) (simp (diffs, diff_pos) (diff_same _ _ _ _ (omega arith)))

pub lowest_product : (a b : Fraction) → IsLowest a → IsLowest b → lowest (a.num *ℤ b.num) (a.den * b.den) ≡ crossed_product a b
lowest_product a b p q =
    let g : ℕ = gcd (unsigned_abs a.num) b.den in
    let h : ℕ = gcd (unsigned_abs b.num) a.den in
    let x : Crossed (unsigned_abs a.num) a.den (unsigned_abs b.num) b.den = crossed _ _ _ _ p.coprime q.coprime p.positive q.positive in
    let k : gcd (unsigned_abs (a.num *ℤ b.num)) (a.den * b.den) ≡ g * h = ap (λ s. gcd s (a.den * b.den)) (unsigned_abs-mul a.num b.num) ∙ x.shared in
    let hk : 0 < g * h = mul-pos (gcd_pos (unsigned_abs a.num) b.den q.positive) (gcd_pos (unsigned_abs b.num) a.den p.positive) in
    let parts : a.num *ℤ b.num ≡ (int_div a.num (pos g) *ℤ int_div b.num (pos h)) *ℤ pos (g * h) =
    ap (λ s. s *ℤ b.num) (sym (int_div-exact a.num g (IsGcd-gcd (unsigned_abs a.num) b.den).0))
    ∙ ap (λ s. (int_div a.num (pos g) *ℤ pos g) *ℤ s) (sym (int_div-exact b.num h (IsGcd-gcd (unsigned_abs b.num) a.den).0))
    ∙ pair_up (int_div a.num (pos g)) (int_div b.num (pos h)) g h in
    let num_is : int_div (a.num *ℤ b.num) (pos (gcd (unsigned_abs (a.num *ℤ b.num)) (a.den * b.den))) ≡ int_div a.num (pos g) *ℤ int_div b.num (pos h) =
    ap (λ s. int_div (a.num *ℤ b.num) (pos s)) k ∙ int_div_is _ _ (g * h) hk parts in
    let den_is : (a.den * b.den) / gcd (unsigned_abs (a.num *ℤ b.num)) (a.den * b.den) ≡ (a.den / h) * (b.den / g) =
    ap (λ s. (a.den * b.den) / gcd s (a.den * b.den)) (unsigned_abs-mul a.num b.num) ∙ x.den_is in
    ap (λ s. record { num = s; den = (a.den * b.den) / gcd (unsigned_abs (a.num *ℤ b.num)) (a.den * b.den) }) num_is
    ∙ ap (λ s. record { num = int_div a.num (pos g) *ℤ int_div b.num (pos h); den = s }) den_is

below_from_fits : (d : ℕ) → den_fits d ≡ true → d < 2 ^ 127
below_from_fits d h = grind (arith, nat_tests)

-- the product's parts where they are in range
pub IsLowest-product : (a b : Fraction) → IsLowest a → IsLowest b → num_fits (crossed_product a b).num ≡ true → den_fits (crossed_product a b).den ≡ true → IsLowest (crossed_product a b)
IsLowest-product a b p q hn hd =
    let whole : ℕ = a.den * b.den in
    let positive : 0 < a.den * b.den = mul-pos p.positive q.positive in
    record {
      num_fits = ltb-true _ _ hn;
      positive = subst (λ (f : Fraction). 0 < f.den) (lowest_product a b p q) (positive-lowest (a.num *ℤ b.num) (a.den * b.den) positive);
      den_fits = below_from_fits _ hd;
      coprime = subst (λ (f : Fraction). gcd (unsigned_abs f.num) f.den ≡ 1) (lowest_product a b p q) (coprime-lowest (a.num *ℤ b.num) (a.den * b.den) positive);
    }

pub Equals-product : (a b : Fraction) → IsLowest a → IsLowest b → Equals (crossed_product a b) (times a b)
Equals-product a b p q = subst (λ (f : Fraction). Equals f (times a b)) (lowest_product a b p q) (Equals-lowest (a.num *ℤ b.num) (a.den * b.den))

-- ---- the sum

sum_scale : (a c : ℤ) (g d b e : ℕ) → (a *ℤ pos (g * d) +ℤ c *ℤ pos (g * b)) *ℤ pos e ≡ pos g *ℤ ((a *ℤ pos d +ℤ c *ℤ pos b) *ℤ pos e)
sum_scale a c g d b e = rw (is_diff a, is_diff c) (simp (diffs, diff_pos) (diff_same _ _ _ _ (omega arith)))

den_scale : (n : ℤ) (g b d : ℕ) → n *ℤ pos (b * (g * d)) ≡ pos g *ℤ (n *ℤ pos (b * d))
den_scale n g b d = rw (is_diff n) (simp (diffs, diff_pos) (diff_same _ _ _ _ (omega arith)))

-- both over the least common denominator
abbrev pub common_sum : Fraction → Fraction → Fraction
common_sum a b = record {
  num = (a.num *ℤ pos (b.den / gcd a.den b.den)) +ℤ (b.num *ℤ pos (a.den / gcd a.den b.den));
  den = a.den * (b.den / gcd a.den b.den);
}

pub Equals-sum : (a b : Fraction) → Equals (lowest (common_sum a b).num (common_sum a b).den) (plus a b)
Equals-sum a b =
    let g : ℕ = gcd a.den b.den in
    let d : ℕ = a.den / g in
    let e : ℕ = b.den / g in
    let r : Fraction = lowest (common_sum a b).num (common_sum a b).den in
    let ed : g * d ≡ a.den = mul-div_cancel' g (IsGcd-gcd a.den b.den).0 in
    let ee : g * e ≡ b.den = mul-div_cancel' g (IsGcd-gcd a.den b.den).1 in
    ap (λ x. r.num *ℤ pos (a.den * x)) (sym ee) ∙ den_scale r.num g a.den e ∙ ap (λ x. pos g *ℤ x) (Equals-lowest (common_sum a b).num (common_sum a b).den)
    ∙ sym (sum_scale a.num b.num g e d r.den)
    ∙ ap (λ x. (a.num *ℤ pos x +ℤ b.num *ℤ pos (g * d)) *ℤ pos r.den) ee ∙ ap (λ x. (a.num *ℤ pos b.den +ℤ b.num *ℤ pos x) *ℤ pos r.den) ed

pub positive-common_sum : (a b : Fraction) → 0 < a.den → 0 < b.den → 0 < (common_sum a b).den
positive-common_sum a b p q = mul-pos p (pos_of_dvd_of_pos (part_dvd b.den _ (IsGcd-gcd a.den b.den).1) q)

-- ---- when an operation is there

two : (p q : Bool) (x : Fraction) → p ≡ true → q ≡ true → (if p && q then Some x else None) ≡ Some x
two p q x e f = rw (e, f) refl

pub mul_is : (a b : Fraction) → IsLowest a → IsLowest b → num_fits (crossed_product a b).num ≡ true → den_fits (crossed_product a b).den ≡ true → mul a b ≡ Some (crossed_product a b)
mul_is a b p q hn hd = ap if_fits (lowest_product a b p q) ∙ two _ _ (crossed_product a b) hn hd

pub mul_none_by_num : (a b : Fraction) → IsLowest a → IsLowest b → num_fits (crossed_product a b).num ≡ false → mul a b ≡ None
mul_none_by_num a b p q h = ap if_fits (lowest_product a b p q) ∙ not_first _ _ (crossed_product a b) h
  where
    not_first : (p q : Bool) (x : Fraction) → p ≡ false → (if p && q then Some x else None) ≡ None
    not_first p q x e = rw e refl

pub mul_none_by_den : (a b : Fraction) → IsLowest a → IsLowest b → den_fits (crossed_product a b).den ≡ false → mul a b ≡ None
mul_none_by_den a b p q h = ap if_fits (lowest_product a b p q) ∙ not_second _ _ (crossed_product a b) h
  where
    not_second : (p q : Bool) (x : Fraction) → q ≡ false → (if p && q then Some x else None) ≡ None
    not_second true q x e = rw e refl
    not_second false q x e = refl

pub add_is : (a b : Fraction) → num_fits (a.num *ℤ pos (b.den / gcd a.den b.den)) ≡ true → num_fits (b.num *ℤ pos (a.den / gcd a.den b.den)) ≡ true
    → num_fits (common_sum a b).num ≡ true → den_fits (common_sum a b).den ≡ true → add a b ≡ Some (lowest (common_sum a b).num (common_sum a b).den)
add_is a b e f g h = four _ _ _ _ (lowest (common_sum a b).num (common_sum a b).den) e f g h
  where
    four : (p q r s : Bool) (x : Fraction) → p ≡ true → q ≡ true → r ≡ true → s ≡ true → (if p && q && r && s then Some x else None) ≡ Some x
    four p q r s x e f g h = rw (e, f, g, h) refl

pub add_none : (a b : Fraction) → num_fits (common_sum a b).num ≡ false → add a b ≡ None
add_none a b h = third (num_fits (a.num *ℤ pos (b.den / gcd a.den b.den))) (num_fits (b.num *ℤ pos (a.den / gcd a.den b.den))) _ (den_fits (common_sum a b).den) (lowest (common_sum a b).num (common_sum a b).den) h
  where
    third : (p q r s : Bool) (x : Fraction) → r ≡ false → (if p && q && r && s then Some x else None) ≡ None
    third true true r s x e = rw e refl
    third true false r s x e = refl
    third false q r s x e = refl
