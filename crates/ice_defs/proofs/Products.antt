-- Products of integers: a factor moves into sums, and bounds of a product.
use Rattle.std.proofs.Common.{ℕ, zero, suc, ◌*◌, ◌≡◌, ℤ, pos, negsuc, ◌+ℤ◌, ◌-ℤ◌, ◌*ℤ◌, neg_ℤ, ◌≤ℤ◌, arith, ap, sym, ◌∙◌, subst}
use Rattle.std.proofs.lemmas.Int.{ints}
use Rattle.std.proofs.Math.IntN.{*ℤ-zero, zero-*ℤ, suc_ℤ-*ℤ, pred_ℤ-*ℤ}
use Rattle.ice_defs.specs.Sum.{sum_below}

regroup : (x y a b : ℤ) → (x +ℤ y) +ℤ (a +ℤ b) ≡ (x +ℤ a) +ℤ (y +ℤ b)
regroup x y a b = omega (arith, ints)

regroup_less : (x y a b : ℤ) → (x +ℤ y) -ℤ (a +ℤ b) ≡ (x -ℤ a) +ℤ (y -ℤ b)
regroup_less x y a b = omega (arith, ints)

both : (x x' y y' : ℤ) → x ≡ x' → y ≡ y' → x +ℤ y ≡ x' +ℤ y'
both x x' y y' e f = cc

times_add_pos : (n : ℕ) (a b : ℤ) → pos n *ℤ (a +ℤ b) ≡ (pos n *ℤ a) +ℤ (pos n *ℤ b)
times_add_pos zero a b = zero-*ℤ (a +ℤ b) ∙ sym (both _ _ _ _ (zero-*ℤ a) (zero-*ℤ b))
times_add_pos (suc n) a b =
    suc_ℤ-*ℤ (pos n) (a +ℤ b) ∙ ap (λ s. s +ℤ (a +ℤ b)) (times_add_pos n a b) ∙ regroup (pos n *ℤ a) (pos n *ℤ b) a b
    ∙ sym (both _ _ _ _ (suc_ℤ-*ℤ (pos n) a) (suc_ℤ-*ℤ (pos n) b))

times_add_neg : (n : ℕ) (a b : ℤ) → negsuc n *ℤ (a +ℤ b) ≡ (negsuc n *ℤ a) +ℤ (negsuc n *ℤ b)
times_add_neg zero a b =
    pred_ℤ-*ℤ (pos 0) (a +ℤ b) ∙ ap (λ s. s -ℤ (a +ℤ b)) (times_add_pos 0 a b) ∙ regroup_less (pos 0 *ℤ a) (pos 0 *ℤ b) a b
    ∙ sym (both _ _ _ _ (pred_ℤ-*ℤ (pos 0) a) (pred_ℤ-*ℤ (pos 0) b))
times_add_neg (suc n) a b =
    pred_ℤ-*ℤ (negsuc n) (a +ℤ b) ∙ ap (λ s. s -ℤ (a +ℤ b)) (times_add_neg n a b) ∙ regroup_less (negsuc n *ℤ a) (negsuc n *ℤ b) a b
    ∙ sym (both _ _ _ _ (pred_ℤ-*ℤ (negsuc n) a) (pred_ℤ-*ℤ (negsuc n) b))

-- a product of a sum
pub times_add : (m a b : ℤ) → m *ℤ (a +ℤ b) ≡ (m *ℤ a) +ℤ (m *ℤ b)
times_add (pos n) a b = times_add_pos n a b
times_add (negsuc n) a b = times_add_neg n a b

-- a product of a negated number
pub times_neg : (m a : ℤ) → m *ℤ neg_ℤ a ≡ neg_ℤ (m *ℤ a)
times_neg m a =
    let none : a +ℤ neg_ℤ a ≡ pos 0 = omega (arith, ints) in
    let added : m *ℤ (a +ℤ neg_ℤ a) ≡ pos 0 = ap (λ z. m *ℤ z) none ∙ *ℤ-zero m in
    omega (arith, ints, added, times_add m a (neg_ℤ a))

-- a factor moves into a sum
pub sum_below-times : (m : ℤ) (f : ℕ → ℤ) (n : ℕ) → sum_below (λ k. m *ℤ f k) n ≡ m *ℤ sum_below f n
sum_below-times m f zero = sym (*ℤ-zero m)
sum_below-times m f (suc n) = ap (λ s. s +ℤ (m *ℤ f n)) (sum_below-times m f n) ∙ sym (times_add m (sum_below f n) (f n))

-- one time, and one more
pub times_one : (m : ℤ) → m *ℤ pos 1 ≡ m
times_one (pos n) = omega (arith, ints)
times_one (negsuc n) = omega (arith, ints)

times_suc : (m : ℤ) (n : ℕ) → m *ℤ pos (suc n) ≡ (m *ℤ pos n) +ℤ m
times_suc m n =
    let one : pos (suc n) ≡ pos n +ℤ pos 1 = omega (arith, ints) in
    ap (λ z. m *ℤ z) one ∙ times_add m (pos n) (pos 1) ∙ ap (λ z. (m *ℤ pos n) +ℤ z) (times_one m)

-- bounds of a product with a natural number
pub times-high : (m : ℤ) (k n : ℕ) → m ≤ℤ pos k → (m *ℤ pos n) ≤ℤ pos (n * k)
times-high m k zero h = omega (arith, ints, *ℤ-zero m)
times-high m k (suc n) h = omega (arith, ints, times_suc m n, times-high m k n h, h)

pub times-low : (m : ℤ) (k n : ℕ) → neg_ℤ (pos k) ≤ℤ m → neg_ℤ (pos (n * k)) ≤ℤ (m *ℤ pos n)
times-low m k zero h = omega (arith, ints, *ℤ-zero m)
times-low m k (suc n) h = omega (arith, ints, times_suc m n, times-low m k n h, h)

pub times_not_positive : (m u : ℤ) → pos 0 ≤ℤ m → u ≤ℤ pos 0 → (m *ℤ u) ≤ℤ pos 0
times_not_positive (pos k) (pos n) p q = omega (arith, ints, zero_of n q)
  where
    zero_of : (n : ℕ) → pos n ≤ℤ pos 0 → pos k *ℤ pos n ≡ pos 0
    zero_of n q = let e : n ≡ 0 = omega (arith, ints) in subst (λ j. pos k *ℤ pos j ≡ pos 0) (sym e) (*ℤ-zero (pos k))
times_not_positive (pos k) (negsuc n) p q = omega (arith, ints)
times_not_positive (negsuc k) u p q = absurd (omega (arith, ints))

-- a product with a number that isn't negative keeps an order
pub times-le : (n : ℕ) (a b : ℤ) → a ≤ℤ b → (pos n *ℤ a) ≤ℤ (pos n *ℤ b)
times-le zero a b h = omega (arith, ints, zero-*ℤ a, zero-*ℤ b)
times-le (suc n) a b h = omega (arith, ints, suc_ℤ-*ℤ (pos n) a, suc_ℤ-*ℤ (pos n) b, times-le n a b h)

-- bounds of a product, one of whose factors isn't below 0
pub product_high : (a b : ℤ) (m n : ℕ) → pos 0 ≤ℤ a → a ≤ℤ pos m → b ≤ℤ pos n → (a *ℤ b) ≤ℤ pos (n * m)
product_high (pos k) b m n is top high =
    let one : (pos k *ℤ b) ≤ℤ (pos k *ℤ pos n) = times-le k b (pos n) high in
    let two : (pos k *ℤ pos n) ≤ℤ pos (n * m) = times-high (pos k) m n top in
    omega (arith, ints, one, two)
product_high (negsuc k) b m n is top high = absurd (omega (arith, ints, is))

pub product_low : (a b : ℤ) (m n : ℕ) → pos 0 ≤ℤ a → a ≤ℤ pos m → neg_ℤ (pos n) ≤ℤ b → neg_ℤ (pos (n * m)) ≤ℤ (a *ℤ b)
product_low (pos k) b m n is top low =
    let one : (pos k *ℤ neg_ℤ (pos n)) ≤ℤ (pos k *ℤ b) = times-le k (neg_ℤ (pos n)) b low in
    let two : (pos k *ℤ pos n) ≤ℤ pos (n * m) = times-high (pos k) m n top in
    omega (arith, ints, one, two, times_neg (pos k) (pos n))
product_low (negsuc k) b m n is top low = absurd (omega (arith, ints, is))

pub product_not_negative : (a b : ℤ) → pos 0 ≤ℤ a → pos 0 ≤ℤ b → pos 0 ≤ℤ (a *ℤ b)
product_not_negative (pos k) b is low =
    let one : (pos k *ℤ pos 0) ≤ℤ (pos k *ℤ b) = times-le k (pos 0) b low in
    omega (arith, ints, one, *ℤ-zero (pos k))
product_not_negative (negsuc k) b is low = absurd (omega (arith, ints, is))

-- the same where the second factor isn't below 0
pub product_high_of : (a b : ℤ) (m n : ℕ) → pos 0 ≤ℤ b → b ≤ℤ pos m → a ≤ℤ pos n → (a *ℤ b) ≤ℤ pos (n * m)
product_high_of a (pos k) m n is top high =
    let one : (a *ℤ pos k) ≤ℤ pos (k * n) = times-high a n k high in
    let two : (pos k *ℤ pos n) ≤ℤ pos (n * m) = times-high (pos k) m n top in
    omega (arith, ints, one, two)
product_high_of a (negsuc k) m n is top high = absurd (omega (arith, ints, is))

pub product_low_of : (a b : ℤ) (m n : ℕ) → pos 0 ≤ℤ b → b ≤ℤ pos m → neg_ℤ (pos n) ≤ℤ a → neg_ℤ (pos (n * m)) ≤ℤ (a *ℤ b)
product_low_of a (pos k) m n is top low =
    let one : neg_ℤ (pos (k * n)) ≤ℤ (a *ℤ pos k) = times-low a n k low in
    let two : (pos k *ℤ pos n) ≤ℤ pos (n * m) = times-high (pos k) m n top in
    omega (arith, ints, one, two)
product_low_of a (negsuc k) m n is top low = absurd (omega (arith, ints, is))
