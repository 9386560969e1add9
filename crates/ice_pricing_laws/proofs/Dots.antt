-- Products of coefficients and fractions over a common denominator.
use Rattle.std.proofs.Common.{ℕ, suc, ◌*◌, ◌<◌, ◌≡◌, List, [], ◌∷◌, length, slice_index_or, ℤ, pos, ◌+ℤ◌, ◌*ℤ◌, ◌≤ℤ◌, refl, arith, ap, sym, subst, ◌∙◌}
use Rattle.std.proofs.lemmas.Int.{ints}
use Rattle.std.proofs.Math.Nat.{mul-pos}
use Rattle.std.proofs.Math.IntN.{zero-*ℤ}
use Rattle.ice_defs.specs.Sum.{sum_below}
use Rattle.ice_defs.specs.Fraction.{Fraction, whole_number, AtMost, plus, times}
use Rattle.ice_defs.specs.Program.{dot}
use Rattle.ice_defs.proofs.Sums.{sum_below-zero, sum_below-front}
use Rattle.ice_frac.proofs.Ring.{mul_assoc_ℤ}
use Rattle.ice_frac.proofs.Fractions.{Equals-trans, Equals-plus, plus-same_den, AtMost-left, AtMost-right}
use Rattle.ice_pricing_laws.proofs.Dens.{IsOver, AreOver}

abbrev pub coefficient : List ℤ → ℕ → ℤ
coefficient cs j = slice_index_or cs j (pos 0)

-- the sum of products over the denominator
abbrev pub dot_num : List ℤ → (ℕ → ℤ) → ℕ → ℤ
dot_num cs n k = sum_below (λ j. coefficient cs j *ℤ n j) k

zero-over : (d : ℕ) (n : ℤ) → 0 < d → n ≡ pos 0 → IsOver d n (whole_number (pos 0))
zero-over d n h e = record { proper = omega arith; equal = zero-*ℤ (pos d) ∙ sym (ap (λ z. z *ℤ pos 1) e) }

pub times-over : (d : ℕ) (c n : ℤ) (f : Fraction) → IsOver d n f → IsOver d (c *ℤ n) (times (whole_number c) f)
times-over d c n f is = record {
  proper = omega (arith, is.proper);
  equal =
      mul_assoc_ℤ c f.num (pos d) ∙ ap (λ z. c *ℤ z) is.equal ∙ sym (mul_assoc_ℤ c n (pos f.den))
      ∙ ap (λ k. (c *ℤ n) *ℤ pos k) (let e : f.den ≡ 1 * f.den = omega arith in e);
}

pub plus-over : (d : ℕ) (m n : ℤ) (f g : Fraction) → 0 < d → IsOver d m f → IsOver d n g → IsOver d (m +ℤ n) (plus f g)
plus-over d m n f g h is other = record {
  proper = mul-pos is.proper other.proper;
  equal =
      let a : Fraction = record { num = m; den = d } in
      let b : Fraction = record { num = n; den = d } in
      Equals-trans (plus f g) (plus a b) (record { num = m +ℤ n; den = d }) (mul-pos h h) (Equals-plus f g a b is.equal other.equal) (plus-same_den m n d);
}

same-over : (d : ℕ) (m n : ℤ) (f : Fraction) → m ≡ n → IsOver d m f → IsOver d n f
same-over d m n f e is = subst (λ k. IsOver d k f) e is

pub dot-over : (d : ℕ) (cs : List ℤ) (xs : List Fraction) (n : ℕ → ℤ) → 0 < d → AreOver d n xs → IsOver d (dot_num cs n (length xs)) (dot cs xs)
dot-over d [] xs n h are = zero-over d (dot_num [] n (length xs)) h (sum_below-zero (λ j. pos 0 *ℤ n j) (length xs) (λ j l. zero-*ℤ (n j)))
dot-over d (c ∷ cs) [] n h are = zero-over d (pos 0) h refl
dot-over d (c ∷ cs) (x ∷ xs) n h are =
    same-over d ((c *ℤ n 0) +ℤ dot_num cs (λ j. n (suc j)) (length xs)) (dot_num (c ∷ cs) n (length (x ∷ xs))) (plus (times (whole_number c) x) (dot cs xs))
    (sym (sum_below-front (λ j. coefficient (c ∷ cs) j *ℤ n j) (length xs)))
    (plus-over d (c *ℤ n 0) (dot_num cs (λ j. n (suc j)) (length xs)) (times (whole_number c) x) (dot cs xs) h
    (times-over d c (n 0) x (are 0 (omega arith)))
    (dot-over d cs xs (λ j. n (suc j)) h (λ j l. are (suc j) (omega (arith, l)))))

-- ---- bounds

pub least-over : (d : ℕ) (least n : ℤ) (f : Fraction) → IsOver d n f → AtMost (whole_number least) f → (least *ℤ pos d) ≤ℤ n
least-over d least n f is h =
    let most : AtMost (whole_number least) (record { num = n; den = d }) = AtMost-right (whole_number least) f (record { num = n; den = d }) is.proper is.equal h in
    omega (arith, ints, most)

pub over-least : (d : ℕ) (least n : ℤ) (f : Fraction) → 0 < d → IsOver d n f → (least *ℤ pos d) ≤ℤ n → AtMost (whole_number least) f
over-least d least n f hd is h =
    let most : AtMost (whole_number least) (record { num = n; den = d }) = omega (arith, ints, h) in
    AtMost-right (whole_number least) (record { num = n; den = d }) f hd (sym is.equal) most

pub over-most : (d : ℕ) (most n : ℤ) (f : Fraction) → IsOver d n f → AtMost f (whole_number most) → n ≤ℤ (most *ℤ pos d)
over-most d most n f is h =
    let less : AtMost (record { num = n; den = d }) (whole_number most) = AtMost-left f (record { num = n; den = d }) (whole_number most) is.proper is.equal h in
    omega (arith, ints, less)

-- of one fraction over two denominators
pub over-same : (d e : ℕ) (m n : ℤ) (f : Fraction) → IsOver d m f → IsOver e n f → m *ℤ pos e ≡ n *ℤ pos d
over-same d e m n f is other = Equals-trans (record { num = m; den = d }) f (record { num = n; den = e }) is.proper (sym is.equal) other.equal

pub over-le : (d e : ℕ) (m n : ℤ) (f g : Fraction) → 0 < d → IsOver d m f → IsOver e n g → AtMost f g → (m *ℤ pos e) ≤ℤ (n *ℤ pos d)
over-le d e m n f g hd is other h =
    let a : Fraction = record { num = m; den = d } in
    let b : Fraction = record { num = n; den = e } in
    AtMost-left f a b is.proper is.equal (AtMost-right f g b other.proper other.equal h)
