-- Under every profile a bidder's own trade is worth at least its set's lower value.
use Rattle.std.proofs.Common.{ℕ, ◌<◌, ◌≤◌, ◌≡◌, ◌⊎◌, inl, inr, Bool, true, false, cond, List, [], length, ℤ, pos, ◌*ℤ◌, ◌≤ℤ◌, arith, ap}
use Rattle.std.proofs.lemmas.Int.{ints}
use Rattle.std.proofs.lemmas.Bool.{cases_lt}
use Rattle.std.proofs.lemmas.List.{get_or_past, length-map}
use Rattle.std.proofs.Math.IntN.{*ℤ-zero}
use Rattle.ice_defs.specs.Set.{NodeSet, has, Weights, weight_of, value}
use Rattle.ice_defs.specs.Trade.{set_of, weights_of}
use Rattle.ice_defs.specs.Bounds.{Bounds, bounds_of, IsInside, IsProfile}
use Rattle.ice_defs.specs.Weighing.{lower_weights}
use Rattle.ice_defs.proofs.Sums.{sum_below-le}
use Rattle.ice_defs.proofs.Products.{sum_below-times}
use Rattle.ice_regret_laws.specs.Laws.{WorthCoversLower}
use Rattle.ice_regret_laws.proofs.Trades.{own_serves}
use Rattle.ice_defs.proofs.Weights.{weights_of-lower}

-- ---- one set

value-low : (k : ℕ) (s : NodeSet) (lower v : Weights) → ((n : ℕ) → (pos k *ℤ weight_of lower n) ≤ℤ weight_of v n) → (pos k *ℤ value s lower) ≤ℤ value s v
value-low k s lower v each =
    let values : Weights → ℕ → ℤ = λ w n. cond (has s n) (weight_of w n) (pos 0) in
    let all = sum_below-le (λ n. pos k *ℤ values lower n) (values v) (length s) (λ n h. by n (has s n) (each n)) in
    omega (arith, ints, all, sum_below-times (pos k) (values lower) (length s))
  where
    by : (n : ℕ) (b : Bool) → (pos k *ℤ weight_of lower n) ≤ℤ weight_of v n → (pos k *ℤ cond b (weight_of lower n) (pos 0)) ≤ℤ cond b (weight_of v n) (pos 0)
    by n true h = h
    by n false h = omega (arith, ints, *ℤ-zero (pos k))

-- ---- every node of every bidder: past the last one both weights are 0

past : (k : ℕ) (lower v : Weights) (n : ℕ) → length lower ≤ n → length v ≤ n → (pos k *ℤ weight_of lower n) ≤ℤ weight_of v n
past k lower v n h i =
    let none : pos k *ℤ weight_of lower n ≡ pos k *ℤ pos 0 = ap (λ z. pos k *ℤ z) (get_or_past lower n (pos 0) h) in
    omega (arith, ints, none, *ℤ-zero (pos k), get_or_past v n (pos 0) i)

inside-low : (k : ℕ) (bounds : Bounds) (v : Weights) → IsInside k bounds v → (n : ℕ) → (pos k *ℤ weight_of bounds.lo n) ≤ℤ weight_of v n
inside-low k bounds v inside n = by (cases_lt n (length v))
  where
    by : (n < length v) ⊎ (length v ≤ n) → (pos k *ℤ weight_of bounds.lo n) ≤ℤ weight_of v n
    by (inl h) = inside.low n h
    by (inr h) = past k bounds.lo v n (omega (arith, inside.same_length, h)) h

profile-low : (k : ℕ) (bounds : List Bounds) (v : List Weights) → IsProfile bounds k v → (b n : ℕ) → (pos k *ℤ weight_of (weights_of (lower_weights bounds) b) n) ≤ℤ weight_of (weights_of v b) n
profile-low k bounds v profile b n = by (cases_lt b (length bounds))
  where
    by : (b < length bounds) ⊎ (length bounds ≤ b) → (pos k *ℤ weight_of (weights_of (lower_weights bounds) b) n) ≤ℤ weight_of (weights_of v b) n
    by (inl h) = omega (arith, ints, inside-low k (bounds_of bounds b) (weights_of v b) (profile.inside b h) n, ap (λ w. pos k *ℤ weight_of w n) (weights_of-lower bounds b h))
    by (inr h) =
        past k (weights_of (lower_weights bounds) b) (weights_of v b) n
        (omega (arith, ap length (get_or_past (lower_weights bounds) b [] (omega (arith, h, length-map bounds (λ (x : Bounds). x.lo))))))
        (omega (arith, ap length (get_or_past v b [] (omega (arith, h, profile.same_length)))))

pub worth_covers_lower : WorthCoversLower
worth_covers_lower market bounds a k v b worth feasible profile there is =
    let low = value-low k (set_of a b) (weights_of (lower_weights bounds) b) (weights_of v b) (profile-low k bounds v profile b) in
    let most = is.bound (set_of a b) (own_serves market a feasible b there) in
    omega (arith, ints, low, most)
