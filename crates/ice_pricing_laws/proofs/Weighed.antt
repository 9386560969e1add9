-- Sums over a pool with weights, as sums over its rows, and
-- weights that are multiples of other numbers.
use Rattle.std.proofs.Common.{ℕ, zero, suc, ◌<◌, ◌≡◌, List, [], ◌∷◌, length, slice_index_or, ℤ, pos, ◌*ℤ◌, ◌≤ℤ◌, refl, arith, ap, sym, ◌∙◌}
use Rattle.std.specs.Int.{int_max}
use Rattle.std.specs.List.{AllByRecursion}
use Rattle.std.proofs.lemmas.Int.{ints}
use Rattle.std.proofs.Math.IntN.{*ℤ-zero, *ℤ_comm}
use Rattle.ice_defs.specs.Sum.{sum_below}
use Rattle.ice_defs.specs.Tree.{Tree}
use Rattle.ice_defs.specs.Set.{NodeSet, Weights}
use Rattle.ice_defs.specs.Trade.{Assignment}
use Rattle.ice_defs.specs.Rows.{weighted_sum, IsRow}
use Rattle.ice_defs.specs.PricingRun.{Member}
use Rattle.ice_defs.proofs.Sums.{sum_below-same, sum_below-le, sum_below-front}
use Rattle.ice_defs.proofs.Products.{sum_below-times, times-le}
use Rattle.ice_frac.proofs.Ring.{is_diff, diff_same, diff_pos, diffs, mul_assoc_ℤ, cancel_ℤ}
use Rattle.ice_pricing_laws.specs.Laws.{AreMembers}
use Rattle.ice_pricing_laws.specs.Weights.{rows_with}
use Rattle.ice_pricing_laws.proofs.Duals.{pool_sum}
use Rattle.ice_pricing_laws.proofs.Tops.{max-keeps}

abbrev pub weight_at : List ℕ → ℕ → ℤ
weight_at ns i = pos (slice_index_or ns i 0)

-- ---- rows

pub weighted-rows : (f : ℕ → NodeSet → ℤ) (pool : List Member) (ns : List ℕ) → length ns ≡ length pool
    → weighted_sum (λ row. f row.bidder row.set) (rows_with pool ns) ≡ pool_sum pool (λ m. f m.bidder m.set) (weight_at ns)
weighted-rows f [] ns size = refl
weighted-rows f (m ∷ pool) [] size = absurd (omega (arith, size))
weighted-rows f (m ∷ pool) (zero ∷ ns) size =
    let rest = weighted-rows f pool ns (omega (arith, size)) in
    let split = sum_below-front (λ i. f (slice_index_or (m ∷ pool) i (record { bidder = 0; set = [] })).bidder (slice_index_or (m ∷ pool) i (record { bidder = 0; set = [] })).set *ℤ weight_at (zero ∷ ns) i) (length pool) in
    omega (arith, ints, rest, split, *ℤ-zero (f m.bidder m.set))
weighted-rows f (m ∷ pool) (suc n ∷ ns) size =
    let rest = weighted-rows f pool ns (omega (arith, size)) in
    let split = sum_below-front (λ i. f (slice_index_or (m ∷ pool) i (record { bidder = 0; set = [] })).bidder (slice_index_or (m ∷ pool) i (record { bidder = 0; set = [] })).set *ℤ weight_at (suc n ∷ ns) i) (length pool) in
    omega (arith, ints, rest, split, *ℤ_comm (f m.bidder m.set) (pos (suc n)))

pub rows-proper : (ts : List Tree) (ws : List Weights) (sets : Assignment) (pool : List Member) (ns : List ℕ) → AreMembers ts ws sets pool → AllByRecursion (IsRow ts ws sets) (rows_with pool ns)
rows-proper ts ws sets [] ns members = tt
rows-proper ts ws sets (m ∷ pool) [] members = tt
rows-proper ts ws sets (m ∷ pool) (zero ∷ ns) (one, others) = rows-proper ts ws sets pool ns others
rows-proper ts ws sets (m ∷ pool) (suc n ∷ ns) (one, others) = ((one.0, omega arith, one.1), rows-proper ts ws sets pool ns others)

-- ---- multiples

pub cancel_left : (n : ℕ) (a b : ℤ) → 0 < n → pos n *ℤ a ≡ pos n *ℤ b → a ≡ b
cancel_left n a b h e = cancel_ℤ n a b h (*ℤ_comm a (pos n) ∙ e ∙ *ℤ_comm (pos n) b)

pub pool_sum-times : (pool : List Member) (k : ℤ) (f : Member → ℤ) (b : ℕ → ℤ) → pool_sum pool (λ m. k *ℤ f m) b ≡ k *ℤ pool_sum pool f b
pool_sum-times pool k f b = sum_below-same _ (λ i. k *ℤ (f (slice_index_or pool i (record { bidder = 0; set = [] })) *ℤ b i)) (length pool) (λ i h. mul_assoc_ℤ k _ (b i)) ∙ sum_below-times k _ (length pool)

pub pool_sum-same : (pool : List Member) (f g : Member → ℤ) (b : ℕ → ℤ) → ((m : Member) → f m ≡ g m) → pool_sum pool f b ≡ pool_sum pool g b
pool_sum-same pool f g b each = sum_below-same _ _ (length pool) (λ i h. ap (λ z. z *ℤ b i) (each (slice_index_or pool i (record { bidder = 0; set = [] }))))

-- the weights over d are the numbers over e, times a factor
abbrev pub AreMultiples : List Member → ℕ → ℕ → ℕ → (ℕ → ℤ) → (ℕ → ℤ) → Type 0
AreMultiples pool factor d e w b = (i : ℕ) → i < length pool → w i *ℤ pos e ≡ (pos factor *ℤ b i) *ℤ pos d

pub pool_sum-scaled : (pool : List Member) (factor d e : ℕ) (w b : ℕ → ℤ) (f : Member → ℤ) → AreMultiples pool factor d e w b
    → pos e *ℤ pool_sum pool f w ≡ pos d *ℤ (pos factor *ℤ pool_sum pool f b)
pool_sum-scaled pool factor d e w b f are =
    sym (sum_below-times (pos e) _ (length pool))
    ∙ sum_below-same _ (λ i. (pos d *ℤ pos factor) *ℤ (f (slice_index_or pool i (record { bidder = 0; set = [] })) *ℤ b i)) (length pool)
    (λ i h. turned (f (slice_index_or pool i (record { bidder = 0; set = [] }))) (w i) (b i) (are i h))
    ∙ sum_below-times (pos d *ℤ pos factor) _ (length pool)
    ∙ mul_assoc_ℤ (pos d) (pos factor) (pool_sum pool f b)
  where
    turned : (f w b : ℤ) → w *ℤ pos e ≡ (pos factor *ℤ b) *ℤ pos d → pos e *ℤ (f *ℤ w) ≡ (pos d *ℤ pos factor) *ℤ (f *ℤ b)
    turned f w b same = shuffle ∙ ap (λ z. f *ℤ z) same ∙ back
      where
        shuffle : pos e *ℤ (f *ℤ w) ≡ f *ℤ (w *ℤ pos e)
        shuffle = rw (is_diff f, is_diff w) (simp (diffs, diff_pos) (diff_same _ _ _ _ (omega arith)))

        back : f *ℤ ((pos factor *ℤ b) *ℤ pos d) ≡ (pos d *ℤ pos factor) *ℤ (f *ℤ b)
        back = rw (is_diff f, is_diff b) (simp (diffs, diff_pos) (diff_same _ _ _ _ (omega arith)))

-- what is wanted of all goods
pub wanted-most : (k e d : ℕ) (q a : ℕ → ℤ) (n : ℕ) → ((g : ℕ) → g < n → pos 0 ≤ℤ a g) → ((g : ℕ) → g < n → (pos k *ℤ (pos e *ℤ q g)) ≤ℤ (pos d *ℤ a g))
    → (pos k *ℤ (pos e *ℤ sum_below (λ g. int_max (q g) (pos 0)) n)) ≤ℤ (pos d *ℤ sum_below a n)
wanted-most k e d q a n low each =
    let most = sum_below-le (λ g. pos k *ℤ (pos e *ℤ int_max (q g) (pos 0))) (λ g. pos d *ℤ a g) n
    (λ g h. max-keeps (λ z. (pos k *ℤ (pos e *ℤ z)) ≤ℤ (pos d *ℤ a g)) (q g) (pos 0) (each g h)
    (let some = times-le d (pos 0) (a g) (low g h) in omega (arith, ints, some, *ℤ-zero (pos d), *ℤ-zero (pos e), *ℤ-zero (pos k), ap (λ z. pos k *ℤ z) (*ℤ-zero (pos e))))) in
    let left = sum_below-times (pos k) (λ g. pos e *ℤ int_max (q g) (pos 0)) n ∙ ap (λ z. pos k *ℤ z) (sum_below-times (pos e) (λ g. int_max (q g) (pos 0)) n) in
    omega (arith, ints, most, left, sum_below-times (pos d) a n)
