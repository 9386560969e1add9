-- The integers behind the fairness test.
use Rattle.std.proofs.Common.{ℕ, ◌*◌, ◌<◌, ◌≡◌, ℤ, pos, neg_ℤ, ◌+ℤ◌, ◌-ℤ◌, ◌*ℤ◌, ◌≤ℤ◌, arith, ap}
use Rattle.std.proofs.lemmas.Int.{ints}
use Rattle.std.proofs.Math.Nat.{mul-pos}
use Rattle.ice_defs.proofs.Products.{times_add, times-le}
use Rattle.ice_defs.proofs.Multiples.{times_cancel}
use Rattle.ice_frac.proofs.Ring.{is_diff, diff_same, diff_pos, diffs}

-- what the rows are worth above what is paid for them at the cap, times the prices' denominator
abbrev pub rest_of : ℕ → ℕ → ℤ → ℤ → ℤ → ℤ
rest_of m total worth x most = ((pos m *ℤ worth) -ℤ (x *ℤ pos total)) -ℤ (pos m *ℤ most)

-- prices of a violation as small: the rest is at most what the held units cost, turned
pub rest-le : (m k total : ℕ) (c worth cost most x y : ℤ)
    → (pos k *ℤ worth) ≤ℤ ((y *ℤ pos total) +ℤ (pos 100 *ℤ cost)) → (c +ℤ (pos 100 *ℤ cost)) ≤ℤ (pos k *ℤ most) → (y *ℤ pos m) ≤ℤ (x *ℤ pos k)
    → (pos k *ℤ rest_of m total worth x most) ≤ℤ neg_ℤ (pos m *ℤ c)
rest-le m k total c worth cost most x y rows costs small =
    omega (
      arith,
      ints,
      times-le m (pos k *ℤ worth) ((y *ℤ pos total) +ℤ (pos 100 *ℤ cost)) rows,
      times-le m (c +ℤ (pos 100 *ℤ cost)) (pos k *ℤ most) costs,
      times-le total (y *ℤ pos m) (x *ℤ pos k) small,
      times_add (pos m) c (pos 100 *ℤ cost),
      spread,
      rest,
    )
  where
    spread : pos m *ℤ ((y *ℤ pos total) +ℤ (pos 100 *ℤ cost)) ≡ (pos total *ℤ (y *ℤ pos m)) +ℤ (pos m *ℤ (pos 100 *ℤ cost))
    spread = rw (is_diff y, is_diff cost) (simp (diffs, diff_pos) (diff_same _ _ _ _ (omega arith)))

    rest : pos k *ℤ rest_of m total worth x most ≡ ((pos m *ℤ (pos k *ℤ worth)) -ℤ (pos total *ℤ (x *ℤ pos k))) -ℤ (pos m *ℤ (pos k *ℤ most))
    rest = rw (is_diff worth, is_diff x, is_diff most) (simp (diffs, diff_pos) (diff_same _ _ _ _ (omega arith)))

-- the held payments with the rest are at most the distance, all times denominators
pub held-le : (m k n e d : ℕ) (h c v size : ℤ) → 0 < k → (pos k *ℤ v) ≤ℤ neg_ℤ (pos m *ℤ c) → (pos e *ℤ ((pos k *ℤ h) -ℤ (pos n *ℤ c))) ≤ℤ (pos d *ℤ (size *ℤ pos (n * k)))
    → (pos e *ℤ ((pos m *ℤ h) +ℤ (pos n *ℤ v))) ≤ℤ (pos d *ℤ (size *ℤ pos (n * m)))
held-le m k n e d h c v size hk rest held =
    times_cancel k _ _ (omega (arith, hk))
    (omega (
      arith,
      ints,
      times-le (e * n) (pos k *ℤ v) (neg_ℤ (pos m *ℤ c)) rest,
      times-le m (pos e *ℤ ((pos k *ℤ h) -ℤ (pos n *ℤ c))) (pos d *ℤ (size *ℤ pos (n * k))) held,
      left,
      right,
    ))
  where
    left : pos k *ℤ (pos e *ℤ ((pos m *ℤ h) +ℤ (pos n *ℤ v)))
        ≡ ((pos m *ℤ (pos e *ℤ ((pos k *ℤ h) -ℤ (pos n *ℤ c)))) +ℤ (pos (e * n) *ℤ (pos k *ℤ v))) -ℤ (pos (e * n) *ℤ neg_ℤ (pos m *ℤ c))
    left = rw (is_diff h, is_diff v, is_diff c) (simp (diffs, diff_pos) (diff_same _ _ _ _ (omega arith)))

    right : pos m *ℤ (pos d *ℤ (size *ℤ pos (n * k))) ≡ pos k *ℤ (pos d *ℤ (size *ℤ pos (n * m)))
    right = rw (is_diff size) (simp (diffs, diff_pos) (diff_same _ _ _ _ (omega arith)))

-- two distances: one that is equal to the held payments
-- with the rest, and one that is at least them
distance-le : (m n e f d : ℕ) (z least size : ℤ) → 0 < d → 0 < n → 0 < m → pos d *ℤ (least *ℤ pos (n * m)) ≡ pos f *ℤ z → (pos e *ℤ z) ≤ℤ (pos d *ℤ (size *ℤ pos (n * m)))
    → (least *ℤ pos e) ≤ℤ (size *ℤ pos f)
distance-le m n e f d z least size hd hn hm equal most =
    times_cancel (d * (n * m)) _ _ (omega (arith, mul-pos hd (mul-pos hn hm)))
    (omega (
      arith,
      ints,
      times-le f (pos e *ℤ z) (pos d *ℤ (size *ℤ pos (n * m))) most,
      left,
      ap (λ w. pos e *ℤ w) equal,
      swap,
      right,
    ))
  where
    left : pos (d * (n * m)) *ℤ (least *ℤ pos e) ≡ pos e *ℤ (pos d *ℤ (least *ℤ pos (n * m)))
    left = rw (is_diff least) (simp (diffs, diff_pos) (diff_same _ _ _ _ (omega arith)))

    swap : pos e *ℤ (pos f *ℤ z) ≡ pos f *ℤ (pos e *ℤ z)
    swap = rw (is_diff z) (simp (diffs, diff_pos) (diff_same _ _ _ _ (omega arith)))

    right : pos (d * (n * m)) *ℤ (size *ℤ pos f) ≡ pos f *ℤ (pos d *ℤ (size *ℤ pos (n * m)))
    right = rw (is_diff size) (simp (diffs, diff_pos) (diff_same _ _ _ _ (omega arith)))

-- all together
pub nearest-le : (m k n e f d total : ℕ) (h c worth cost most x y least size : ℤ) → 0 < m → 0 < k → 0 < n → 0 < d
    → (pos e *ℤ ((pos k *ℤ h) -ℤ (pos n *ℤ c))) ≤ℤ (pos d *ℤ (size *ℤ pos (n * k)))
    → (pos k *ℤ worth) ≤ℤ ((y *ℤ pos total) +ℤ (pos 100 *ℤ cost)) → (c +ℤ (pos 100 *ℤ cost)) ≤ℤ (pos k *ℤ most) → (y *ℤ pos m) ≤ℤ (x *ℤ pos k)
    → pos d *ℤ (least *ℤ pos (n * m)) ≡ pos f *ℤ ((pos m *ℤ h) +ℤ (pos n *ℤ rest_of m total worth x most))
    → (least *ℤ pos e) ≤ℤ (size *ℤ pos f)
nearest-le m k n e f d total h c worth cost most x y least size hm hk hn hd held rows costs small equal =
    distance-le m n e f d _ least size hd hn hm equal
    (held-le m k n e d h c (rest_of m total worth x most) size hk (rest-le m k total c worth cost most x y rows costs small) held)
