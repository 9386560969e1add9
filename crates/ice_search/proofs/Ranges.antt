-- How much sets may be worth.
use Rattle.std.proofs.Common.{ℕ, ◌+◌, ◌*◌, ◌<◌, ◌≤◌, ◌≡◌, Bool, true, false, cond, List, [], ◌∷◌, length, ℤ, pos, neg_ℤ, ◌+ℤ◌, ◌≤ℤ◌, refl, arith, ap, ◌∙◌, subst}
use Rattle.std.specs.Prelude.{sum_by}
use Rattle.std.proofs.lemmas.Int.{ints}
use Rattle.std.proofs.lemmas.List.Sums.{sum_by-append}
use Rattle.ice_defs.specs.Sum.{sum_below}
use Rattle.ice_defs.specs.Tree.{Tree}
use Rattle.ice_defs.specs.Set.{NodeSet, Weights, has, weight_of, value}
use Rattle.ice_defs.specs.Trade.{Assignment, tree_of, set_of, weights_of, total_value}
use Rattle.ice_defs.proofs.Sums.{sum_below-le, sum_below-low, sum_below-high, sum_below-front}
use Rattle.ice_defs.specs.Conditions.{AreModest, AreWeightsOf}

term_low : (b : Bool) (z : ℤ) → neg_ℤ (pos 100000000000) ≤ℤ z → neg_ℤ (pos 100000000000) ≤ℤ cond b z (pos 0)
term_low true z low = low
term_low false z low = omega (arith, ints)

term_high : (b : Bool) (z : ℤ) → z ≤ℤ pos 100000000000 → cond b z (pos 0) ≤ℤ pos 100000000000
term_high true z high = high
term_high false z high = omega (arith, ints)

-- a set of n nodes
value_low : (s : NodeSet) (w : Weights) → AreModest w → length s ≡ length w → neg_ℤ (pos (length s * 100000000000)) ≤ℤ value s w
value_low s w modest same =
    sum_below-low (λ n. cond (has s n) (weight_of w n) (pos 0)) (length s) 100000000000 (λ n l. term_low (has s n) (weight_of w n) (modest.low n (omega (arith, l, same))))

value_high : (s : NodeSet) (w : Weights) → AreModest w → length s ≡ length w → value s w ≤ℤ pos (length s * 100000000000)
value_high s w modest same =
    sum_below-high (λ n. cond (has s n) (weight_of w n) (pos 0)) (length s) 100000000000 (λ n l. term_high (has s n) (weight_of w n) (modest.high n (omega (arith, l, same))))

more_pos : (n m : ℕ) → (pos (n * 100000000000) +ℤ pos (m * 100000000000)) ≡ pos ((n + m) * 100000000000)
more_pos n m = omega (arith, ints)

more_neg : (n m : ℕ) → (neg_ℤ (pos (n * 100000000000)) +ℤ neg_ℤ (pos (m * 100000000000))) ≡ neg_ℤ (pos ((n + m) * 100000000000))
more_neg n m = omega (arith, ints)

one_more : (t : Tree) (ts : List Tree) → length t + sum_by length ts ≡ sum_by length (t ∷ ts)
one_more t ts = omega (arith, sum_by-append (λ (y : Tree). length y) (t ∷ []) ts)

nodes_sum : (ts : List Tree) → sum_below (λ b. pos (length (tree_of ts b) * 100000000000)) (length ts) ≡ pos (sum_by length ts * 100000000000)
nodes_sum [] = refl
nodes_sum (t ∷ ts) =
    let last : (pos (length t * 100000000000) +ℤ pos (sum_by length ts * 100000000000)) ≡ pos (sum_by length (t ∷ ts) * 100000000000) =
    more_pos (length t) (sum_by length ts) ∙ ap (λ n. let z : ℤ = pos (n * 100000000000) in z) (one_more t ts) in
    sum_below-front (λ b. pos (length (tree_of (t ∷ ts) b) * 100000000000)) (length ts) ∙ ap (λ z. pos (length t * 100000000000) +ℤ z) (nodes_sum ts) ∙ last

nodes_less : (ts : List Tree) → sum_below (λ b. neg_ℤ (pos (length (tree_of ts b) * 100000000000))) (length ts) ≡ neg_ℤ (pos (sum_by length ts * 100000000000))
nodes_less [] = refl
nodes_less (t ∷ ts) =
    let last : (neg_ℤ (pos (length t * 100000000000)) +ℤ neg_ℤ (pos (sum_by length ts * 100000000000))) ≡ neg_ℤ (pos (sum_by length (t ∷ ts) * 100000000000)) =
    more_neg (length t) (sum_by length ts) ∙ ap (λ n. neg_ℤ (pos (n * 100000000000))) (one_more t ts) in
    sum_below-front (λ b. neg_ℤ (pos (length (tree_of (t ∷ ts) b) * 100000000000))) (length ts) ∙ ap (λ z. neg_ℤ (pos (length t * 100000000000)) +ℤ z) (nodes_less ts) ∙ last

module _ (ts : List Tree) (ws : List Weights) (a : Assignment) (weights : AreWeightsOf ts ws) (same : length a ≡ length ts)
    (sizes : (b : ℕ) → b < length ts → length (set_of a b) ≡ length (tree_of ts b)) (few : sum_by length ts ≤ 2000) where
  worth : ℕ → ℤ
  worth b = value (set_of a b) (weights_of ws b)

  by_trees : total_value a ws ≡ sum_below worth (length ts)
  unfolding worth
  by_trees = ap (sum_below (λ b. value (set_of a b) (weights_of ws b))) same

  low_at : (b : ℕ) → b < length ts → neg_ℤ (pos (length (tree_of ts b) * 100000000000)) ≤ℤ worth b
  unfolding worth
  low_at b l =
      let size = sizes b l in
      let low = value_low (set_of a b) (weights_of ws b) (weights.modest b l) (omega (arith, size, weights.nodes b l)) in
      subst (λ n. neg_ℤ (pos (n * 100000000000)) ≤ℤ value (set_of a b) (weights_of ws b)) size low

  high_at : (b : ℕ) → b < length ts → worth b ≤ℤ pos (length (tree_of ts b) * 100000000000)
  unfolding worth
  high_at b l =
      let size = sizes b l in
      let high = value_high (set_of a b) (weights_of ws b) (weights.modest b l) (omega (arith, size, weights.nodes b l)) in
      subst (λ n. value (set_of a b) (weights_of ws b) ≤ℤ pos (n * 100000000000)) size high

  pub total_low : neg_ℤ (pos 200000000000000) ≤ℤ total_value a ws
  total_low =
      let all = sum_below-le (λ b. neg_ℤ (pos (length (tree_of ts b) * 100000000000))) worth (length ts) low_at in
      omega (arith, ints, all, nodes_less ts, by_trees, few)

  pub total_high : total_value a ws ≤ℤ pos 200000000000000
  total_high =
      let all = sum_below-le worth (λ b. pos (length (tree_of ts b) * 100000000000)) (length ts) high_at in
      omega (arith, ints, all, nodes_sum ts, by_trees, few)
