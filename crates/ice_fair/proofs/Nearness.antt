-- The greatest gap of the first bidders.
use Rattle.std.proofs.Common.{ℕ, ◌≡◌, ◌<◌, ◌≤◌, ◌+◌, ◌^◌, ◌⊎◌, inl, inr, length, ℤ, pos, neg_ℤ, ◌≤ℤ◌, arith, subst}
use Rattle.std.specs.Int.{int_max}
use Rattle.std.proofs.lemmas.Int.{ints, clamps, by_lt_z}
use Rattle.std.proofs.lemmas.Bool.{cases_lt}
use Rattle.ice_defs.specs.Prices.{Prices}
use Rattle.ice_fair_laws.specs.Fair.{PaidTrade}
use Rattle.ice_fair_laws.specs.Whole.{gap_num, IsGreatestGap}

module _ (t : PaidTrade) (p : Prices) (n : ℕ) (a : ℕ → ℤ) where
  abbrev pub gap_at : ℕ → ℤ
  gap_at b = gap_num t p n a b

  -- the size of one
  pub record IsSize (z v : ℤ) : Type 0 where
    pub over : z ≤ℤ v
    pub under : neg_ℤ z ≤ℤ v
    pub is : (z ≡ v) ⊎ (neg_ℤ z ≡ v)
    pub low : pos 0 ≤ℤ v
    pub high : v ≤ℤ pos (2 ^ 102)

  -- no bidder below this number has a greater one, and one has this
  pub record IsGapBelow (count : ℕ) (v : ℤ) : Type 0 where
    pub over : (b : ℕ) → b < count → gap_at b ≤ℤ v
    pub under : (b : ℕ) → b < count → neg_ℤ (gap_at b) ≤ℤ v
    pub attained : (b : ℕ) × (b < count) × ((gap_at b ≡ v) ⊎ (neg_ℤ (gap_at b) ≡ v))
    pub low : pos 0 ≤ℤ v
    pub high : v ≤ℤ pos (2 ^ 102)

  each-more : (P : ℕ → Type 0) (k : ℕ) → ((b : ℕ) → b < k → P b) → P k → (b : ℕ) → b < k + 1 → P b
  each-more P k before here b h = by (cases_lt b k)
    where
      by : (b < k) ⊎ (k ≤ b) → P b
      by (inl l) = before b l
      by (inr l) = let e : k ≡ b = omega (arith, h, l) in subst P e here

  pub gap-first : (v : ℤ) → IsSize (gap_at 0) v → IsGapBelow 1 v
  gap-first v is = record {
    over = each-more (λ b. gap_at b ≤ℤ v) 0 (λ b h. absurd (omega (arith, h))) is.over;
    under = each-more (λ b. neg_ℤ (gap_at b) ≤ℤ v) 0 (λ b h. absurd (omega (arith, h))) is.under;
    attained = (0, omega arith, is.is);
    low = is.low;
    high = is.high;
  }

  pub gap-more : (k : ℕ) (v s : ℤ) → IsGapBelow k v → IsSize (gap_at k) s → IsGapBelow (k + 1) (int_max v s)
  gap-more k v s before is =
      let left : v ≤ℤ int_max v s = omega (arith, ints, clamps) in
      let right : s ≤ℤ int_max v s = omega (arith, ints, clamps) in
      let (b, h, which) = before.attained in
      record {
        over = each-more (λ b. gap_at b ≤ℤ int_max v s) k (λ b h. let most = before.over b h in omega (arith, ints, most, left)) (let most = is.over in omega (arith, ints, most, right));
        under = each-more (λ b. neg_ℤ (gap_at b) ≤ℤ int_max v s) k (λ b h. let most = before.under b h in omega (arith, ints, most, left)) (let most = is.under in omega (arith, ints, most, right));
        attained = by_lt_z v s
            (λ less. let e : s ≡ int_max v s = omega (arith, ints, clamps, less) in (k, omega arith, subst (λ z. (gap_at k ≡ z) ⊎ (neg_ℤ (gap_at k) ≡ z)) e is.is))
            (λ le. let e : v ≡ int_max v s = omega (arith, ints, clamps, le) in (b, omega (arith, h), subst (λ z. (gap_at b ≡ z) ⊎ (neg_ℤ (gap_at b) ≡ z)) e which));
        low = (let low = before.low in omega (arith, ints, low, left));
        high = (let a = before.high in let b = is.high in omega (arith, ints, clamps, a, b));
      }

  pub gap-all : (v : ℤ) → IsGapBelow (length t.trees) v → IsGreatestGap t p n a v
  gap-all v is = record { over = is.over; under = is.under; attained = is.attained }
