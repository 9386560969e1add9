-- Under every profile an assignment leads the final one by no more
-- than at perturbed weights, since nodes that both share cancel.
use Rattle.std.proofs.Common.{ℕ, ◌<◌, ◌≡◌, Bool, true, false, cond, List, length, ℤ, pos, ◌+ℤ◌, ◌*ℤ◌, ◌≤ℤ◌, arith, ap}
use Rattle.std.proofs.lemmas.Int.{ints}
use Rattle.std.proofs.Math.IntN.{*ℤ-zero}
use Rattle.ice_defs.specs.Sum.{sum_below}
use Rattle.ice_defs.specs.Set.{NodeSet, has, Weights, weight_of, value}
use Rattle.ice_defs.specs.Trade.{Assignment, set_of, weights_of, total_value}
use Rattle.ice_defs.specs.Bounds.{Bounds, bounds_of, IsInside, IsProfile}
use Rattle.ice_defs.specs.Weighing.{lower_weights, perturbed_list, perturbed_weights}
use Rattle.ice_defs.proofs.Sums.{sum_below-le, sum_below-add}
use Rattle.ice_defs.proofs.Products.{sum_below-times}
use Rattle.ice_defs.proofs.Weights.{weight_of-perturbed_list, weights_of-lower, weights_of-perturbed}

-- a node of both sets counts as much on both sides, one of the first alone at
-- most its upper value, and one of the second alone at least its lower value
node-le : (one final : Bool) (k : ℕ) (lo hi v : ℤ) → (pos k *ℤ lo) ≤ℤ v → v ≤ℤ (pos k *ℤ hi)
    → (cond one v (pos 0) +ℤ (pos k *ℤ cond final lo (pos 0))) ≤ℤ (cond final v (pos 0) +ℤ (pos k *ℤ cond one (cond final lo hi) (pos 0)))
node-le true true k lo hi v low high = omega (arith, ints)
node-le true false k lo hi v low high = omega (arith, ints, *ℤ-zero (pos k))
node-le false true k lo hi v low high = omega (arith, ints, *ℤ-zero (pos k))
node-le false false k lo hi v low high = omega (arith, ints)

-- sums of two parts, the second k times
parts-le : (k n : ℕ) (p q r s : ℕ → ℤ) → ((j : ℕ) → j < n → (p j +ℤ (pos k *ℤ q j)) ≤ℤ (r j +ℤ (pos k *ℤ s j)))
    → (sum_below p n +ℤ (pos k *ℤ sum_below q n)) ≤ℤ (sum_below r n +ℤ (pos k *ℤ sum_below s n))
parts-le k n p q r s each =
    let all = sum_below-le (λ j. p j +ℤ (pos k *ℤ q j)) (λ j. r j +ℤ (pos k *ℤ s j)) n each in
    let left = sum_below-add p (λ j. pos k *ℤ q j) n in
    let right = sum_below-add r (λ j. pos k *ℤ s j) n in
    omega (arith, ints, all, left, right, sum_below-times (pos k) q n, sum_below-times (pos k) s n)

-- one bidder
pub bidder-le : (k : ℕ) (bounds : Bounds) (one final : NodeSet) (v : Weights) → length bounds.hi ≡ length bounds.lo → length one ≡ length bounds.lo → length final ≡ length bounds.lo
    → IsInside k bounds v
    → (value one v +ℤ (pos k *ℤ value final bounds.lo)) ≤ℤ (value final v +ℤ (pos k *ℤ value one (perturbed_list final bounds.lo bounds.hi)))
bidder-le k bounds one final v his ones finals inside =
    let n = length bounds.lo in
    let value_in : NodeSet → Weights → ℕ → ℤ = λ s w j. cond (has s j) (weight_of w j) (pos 0) in
    let w = perturbed_list final bounds.lo bounds.hi in
    let all = parts-le k n (value_in one v) (value_in final bounds.lo) (value_in final v) (value_in one w) each in
    let lows : pos k *ℤ value final bounds.lo ≡ pos k *ℤ sum_below (value_in final bounds.lo) n = ap (λ m. pos k *ℤ sum_below (value_in final bounds.lo) m) finals in
    let perturbed : pos k *ℤ value one w ≡ pos k *ℤ sum_below (value_in one w) n = ap (λ m. pos k *ℤ sum_below (value_in one w) m) ones in
    omega (arith, ints, all, ap (sum_below (value_in one v)) ones, ap (sum_below (value_in final v)) finals, lows, perturbed)
  where
    each : (j : ℕ) → j < length bounds.lo
        → (cond (has one j) (weight_of v j) (pos 0) +ℤ (pos k *ℤ cond (has final j) (weight_of bounds.lo j) (pos 0)))
        ≤ℤ (cond (has final j) (weight_of v j) (pos 0) +ℤ (pos k *ℤ cond (has one j) (weight_of (perturbed_list final bounds.lo bounds.hi) j) (pos 0)))
    each j h =
        let l : j < length v = omega (arith, inside.same_length, h) in
        let here = node-le (has one j) (has final j) k (weight_of bounds.lo j) (weight_of bounds.hi j) (weight_of v j) (inside.low j l) (inside.high j l) in
        let w = weight_of-perturbed_list final bounds.lo bounds.hi j his h in
        let same = ap (λ x. pos k *ℤ cond (has one j) x (pos 0)) w in
        omega (arith, ints, here, same)

-- all bidders
pub total-le : (k : ℕ) (bounds : List Bounds) (one final : Assignment) (v : List Weights)
    → length one ≡ length bounds → length final ≡ length bounds
    → ((b : ℕ) → b < length bounds → length (bounds_of bounds b).hi ≡ length (bounds_of bounds b).lo)
    → ((b : ℕ) → b < length bounds → length (set_of one b) ≡ length (bounds_of bounds b).lo)
    → ((b : ℕ) → b < length bounds → length (set_of final b) ≡ length (bounds_of bounds b).lo)
    → IsProfile bounds k v
    → (total_value one v +ℤ (pos k *ℤ total_value final (lower_weights bounds))) ≤ℤ (total_value final v +ℤ (pos k *ℤ total_value one (perturbed_weights final bounds)))
total-le k bounds one final v ones finals his one_nodes final_nodes profile =
    let n = length bounds in
    let value_in : Assignment → List Weights → ℕ → ℤ = λ a ws b. value (set_of a b) (weights_of ws b) in
    let lower = lower_weights bounds in
    let perturbed = perturbed_weights final bounds in
    let all = parts-le k n (value_in one v) (value_in final lower) (value_in final v) (value_in one perturbed) each in
    let lows : pos k *ℤ total_value final lower ≡ pos k *ℤ sum_below (value_in final lower) n = ap (λ m. pos k *ℤ sum_below (value_in final lower) m) finals in
    let bests : pos k *ℤ total_value one perturbed ≡ pos k *ℤ sum_below (value_in one perturbed) n = ap (λ m. pos k *ℤ sum_below (value_in one perturbed) m) ones in
    omega (arith, ints, all, ap (sum_below (value_in one v)) ones, ap (sum_below (value_in final v)) finals, lows, bests)
  where
    each : (b : ℕ) → b < length bounds
        → (value (set_of one b) (weights_of v b) +ℤ (pos k *ℤ value (set_of final b) (weights_of (lower_weights bounds) b)))
        ≤ℤ (value (set_of final b) (weights_of v b) +ℤ (pos k *ℤ value (set_of one b) (weights_of (perturbed_weights final bounds) b)))
    each b h =
        let here = bidder-le k (bounds_of bounds b) (set_of one b) (set_of final b) (weights_of v b) (his b h) (one_nodes b h) (final_nodes b h) (profile.inside b h) in
        let low = ap (λ w. pos k *ℤ value (set_of final b) w) (weights_of-lower bounds b h) in
        let high = ap (λ w. pos k *ℤ value (set_of one b) w) (weights_of-perturbed final bounds b h) in
        omega (arith, ints, here, low, high)
