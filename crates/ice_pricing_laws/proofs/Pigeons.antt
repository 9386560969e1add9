-- As many different numbers below a bound are at most the bound.
use Rattle.std.proofs.Common.{ℕ, zero, suc, ◌<◌, ◌≤◌, ◌≡◌, ◌≢◌, ◌⊎◌, cond, eqb, List, length, arith, ap, sym, ◌∙◌, inl, inr}
use Rattle.std.proofs.lemmas.Bool.{eq-eqb, ne_eqb, cases_eq, cases_lt}
use Rattle.ice_defs.specs.Pricing.{IsChoice}
use Rattle.ice_defs.specs.PricingRun.{Member}
use Rattle.ice_pricing_laws.specs.Pools.{no_member, member_at, DistinctIsShort}
use Rattle.ice_pricing_laws.proofs.Lists.{all-at}

-- the last number in place of the bound
swapped : (ℕ → ℕ) → ℕ → ℕ → ℕ → ℕ
swapped f n k i = cond (eqb (f i) n) k (f i)

abbrev IsSwapped : (ℕ → ℕ) → ℕ → ℕ → ℕ → Type 0
IsSwapped f n k i = ((f i ≡ n) × (swapped f n k i ≡ k)) ⊎ ((f i ≢ n) × (swapped f n k i ≡ f i))

is_swapped : (f : ℕ → ℕ) (n k i : ℕ) → IsSwapped f n k i
unfolding swapped
is_swapped f n k i = by (cases_eq (f i) n)
  where
    by : (f i ≡ n) ⊎ (f i ≢ n) → IsSwapped f n k i
    by (inl e) = inl (e, ap (λ b. cond b k (f i)) (eq-eqb (f i) n e))
    by (inr ne) = inr (ne, ap (λ b. cond b k (f i)) (ne_eqb (f i) n ne))

below_of : (f : ℕ → ℕ) (n k i : ℕ) → f i < suc n → k < suc n → f i ≢ k → IsSwapped f n k i → swapped f n k i < n
below_of f n k i low last ne (inl (e, s)) = not_n (λ h. ne (e ∙ sym h))
  where
    not_n : k ≢ n → swapped f n k i < n
    not_n h = by (cases_lt k n)
      where
        by : (k < n) ⊎ (n ≤ k) → swapped f n k i < n
        by (inl l) = omega (arith, s, l)
        by (inr l) = absurd (h (omega arith))
below_of f n k i low last ne (inr (h, s)) = by (cases_lt (f i) n)
  where
    by : (f i < n) ⊎ (n ≤ f i) → swapped f n k i < n
    by (inl l) = omega (arith, s, l)
    by (inr l) = absurd (h (omega arith))

apart_of : (f : ℕ → ℕ) (n k i j : ℕ) → f i ≢ f j → f i ≢ k → f j ≢ k → IsSwapped f n k i → IsSwapped f n k j → swapped f n k i ≢ swapped f n k j
apart_of f n k i j ne li lj (inl (e, s)) (inl (d, t)) h = ne (e ∙ sym d)
apart_of f n k i j ne li lj (inl (e, s)) (inr (d, t)) h = lj (sym (sym s ∙ h ∙ t))
apart_of f n k i j ne li lj (inr (e, s)) (inl (d, t)) h = li (sym s ∙ h ∙ t)
apart_of f n k i j ne li lj (inr (e, s)) (inr (d, t)) h = ne (sym s ∙ h ∙ t)

pub pigeons : (n m : ℕ) (f : ℕ → ℕ) → ((i : ℕ) → i < m → f i < n) → ((i j : ℕ) → i < j → j < m → f i ≢ f j) → m ≤ n
pigeons n zero f low apart = omega arith
pigeons zero (suc m) f low apart = absurd (let h = low 0 (omega arith) in omega (arith, h))
pigeons (suc n) (suc m) f low apart =
    let k : ℕ = f m in
    let last : k < suc n = low m (omega arith) in
    let most = pigeons n m (swapped f n k)
    (λ i h. below_of f n k i (low i (omega (arith, h))) last (apart i m h (omega arith)) (is_swapped f n k i))
    (λ i j h l. apart_of f n k i j (apart i j h (omega (arith, l))) (apart i m (omega (arith, h, l)) (omega arith)) (apart j m l (omega arith)) (is_swapped f n k i) (is_swapped f n k j)) in
    omega (arith, most)

-- ---- members

module _ (pool all : List Member) (has : (i : ℕ) → i < length pool → (j : ℕ) × (j < length all) × (member_at all j ≡ member_at pool i)) where
  place : (i : ℕ) → (i < length pool) ⊎ (length pool ≤ i) → ℕ
  place i (inl h) = (has i h).0
  place i (inr h) = 0

  placed : (i : ℕ) → i < length pool → (c : (i < length pool) ⊎ (length pool ≤ i)) → (place i c < length all) × (member_at all (place i c) ≡ member_at pool i)
  unfolding place
  placed i l (inl h) = ((has i h).1, (has i h).2)
  placed i l (inr h) = absurd (omega (arith, l, h))

  short : ((i j : ℕ) → i < j → j < length pool → member_at pool i ≢ member_at pool j) → length pool ≤ length all
  short apart =
      pigeons (length all) (length pool) (λ i. place i (cases_lt i (length pool)))
      (λ i h. (placed i h (cases_lt i (length pool))).0)
      (λ i j h l e.
      apart i j h l
      (sym (placed i (omega (arith, h, l)) (cases_lt i (length pool))).1 ∙ ap (member_at all) e ∙ (placed j l (cases_lt j (length pool))).1))

pub distinct_is_short : DistinctIsShort
distinct_is_short ts ws sets pool all members distinct has =
    short pool all (λ i h. has (member_at pool i) (all-at (λ m. IsChoice ts ws sets (m.bidder, m.set)) pool i no_member members h)) distinct
