-- Weights that are filled from bounds meet the conditions of bounds.
use Rattle.std.proofs.Common.{ℕ, ◌-◌, ◌*◌, ◌<◌, ◌≤◌, ◌≡◌, Bool, true, false, cond, List, [], length, map, replicate, ℤ, pos, neg_ℤ, ◌*ℤ◌, ◌≤ℤ◌, arith, ap, sym, ◌∙◌, subst}
use Rattle.std.proofs.lemmas.Int.{ints}
use Rattle.std.proofs.lemmas.List.{length-map, get_or-map, length-replicate}
use Rattle.std.proofs.Math.IntN.{*ℤ_comm}
use Rattle.ice_defs.specs.Tree.{Tree}
use Rattle.ice_defs.specs.Set.{has, weight_of}
use Rattle.ice_defs.specs.Trade.{Assignment, tree_of, set_of}
use Rattle.ice_defs.specs.Bounds.{Bounds, bounds_of}
use Rattle.ice_defs.specs.Lawful.{AreBounds}
use Rattle.ice_defs.specs.Weighing.{weighted_value, weighted_list, perturbed_list, lower_weights, weighted_weights, perturbed_weights}
use Rattle.ice_tree.proofs.Filling.{length-weighted_list, get_or-weighted_list, length-perturbed_list, get_or-perturbed_list, weights_of-lower, weights_of-weighted, weights_of-perturbed, length-lower, length-weighted, length-perturbed}
use Rattle.ice_tree.specs.Alike.{AreAlike}
use Rattle.ice_defs.specs.Conditions.{AreModest, AreWeightsOf, AreBoundsOf}
use Rattle.ice_defs.proofs.Products.{times-low, times-high}

-- weights of 0 for the trees are alike with their bounds
pub zeros_alike : (ts : List Tree) (bounds : List Bounds) → AreBoundsOf ts bounds → AreAlike (map (λ t. replicate (length t) (pos 0)) ts) bounds
zeros_alike ts bounds are = record {
  count = length-map ts (λ (t : Tree). replicate (length t) (pos 0)) ∙ sym are.same_length;
  nodes = λ b h.
      let there : b < length ts = omega (arith, h, are.same_length) in
      ap length (get_or-map (λ (t : Tree). replicate (length t) (pos 0)) ts b [] [] there)
      ∙ length-replicate (length (tree_of ts b)) (pos 0) ∙ sym (are.each b there).lo_count;
}

lower_at : (nodes : ℕ) (x : Bounds) → AreBounds nodes x → AreModest x.lo
lower_at nodes x are = record {
  low = λ n h. omega (arith, ints, are.low n (omega (arith, h, are.lo_count)));
  high = λ n h. omega (arith, ints, are.ordered n (omega (arith, h, are.lo_count)), are.high n (omega (arith, h, are.lo_count)));
}

pub lower_modest : (ts : List Tree) (bounds : List Bounds) → AreBoundsOf ts bounds → AreWeightsOf ts (lower_weights bounds)
lower_modest ts bounds are = record {
  same_length = length-lower bounds ∙ are.same_length;
  nodes = λ b h. ap length (weights_of-lower bounds b (omega (arith, h, are.same_length))) ∙ (are.each b h).lo_count;
  modest = λ b h. subst AreModest (sym (weights_of-lower bounds b (omega (arith, h, are.same_length)))) (lower_at (length (tree_of ts b)) (bounds_of bounds b) (are.each b h));
}

scaled_low : (w : ℕ) (z : ℤ) → neg_ℤ (pos 1000000000) ≤ℤ z → neg_ℤ (pos (w * 1000000000)) ≤ℤ (pos w *ℤ z)
scaled_low w z h = subst (λ p. neg_ℤ (pos (w * 1000000000)) ≤ℤ p) (*ℤ_comm z (pos w)) (times-low z 1000000000 w h)

scaled_high : (w : ℕ) (z : ℤ) → z ≤ℤ pos 1000000000 → (pos w *ℤ z) ≤ℤ pos (w * 1000000000)
scaled_high w z h = subst (λ p. p ≤ℤ pos (w * 1000000000)) (*ℤ_comm z (pos w)) (times-high z 1000000000 w h)

weighted_low : (w : ℕ) (lo hi : ℤ) → w ≤ 100 → neg_ℤ (pos 1000000000) ≤ℤ lo → neg_ℤ (pos 1000000000) ≤ℤ hi → neg_ℤ (pos 100000000000) ≤ℤ weighted_value w lo hi
weighted_low w lo hi few l h = omega (arith, ints, scaled_low w lo l, scaled_low (100 - w) hi h, few)

weighted_high : (w : ℕ) (lo hi : ℤ) → w ≤ 100 → lo ≤ℤ pos 1000000000 → hi ≤ℤ pos 1000000000 → weighted_value w lo hi ≤ℤ pos 100000000000
weighted_high w lo hi few l h = omega (arith, ints, scaled_high w lo l, scaled_high (100 - w) hi h, few)

weighted_at : (w nodes : ℕ) (x : Bounds) → w ≤ 100 → AreBounds nodes x → AreModest (weighted_list w x.lo x.hi)
weighted_at w nodes x few are =
    let size : length x.hi ≡ length x.lo = are.hi_count ∙ sym are.lo_count in
    record {
      low = λ n h.
          let i : n < length x.lo = subst (λ k. n < k) (length-weighted_list w x.lo x.hi size) h in
          let j : n < nodes = omega (arith, i, are.lo_count) in
          subst (λ z. neg_ℤ (pos 100000000000) ≤ℤ z) (sym (get_or-weighted_list w x.lo x.hi n size i))
          (weighted_low w (weight_of x.lo n) (weight_of x.hi n) few (are.low n j) (omega (arith, ints, are.low n j, are.ordered n j)));
      high = λ n h.
          let i : n < length x.lo = subst (λ k. n < k) (length-weighted_list w x.lo x.hi size) h in
          let j : n < nodes = omega (arith, i, are.lo_count) in
          subst (λ z. z ≤ℤ pos 100000000000) (sym (get_or-weighted_list w x.lo x.hi n size i))
          (weighted_high w (weight_of x.lo n) (weight_of x.hi n) few (omega (arith, ints, are.high n j, are.ordered n j)) (are.high n j));
    }

pub weighted_modest : (w : ℕ) (ts : List Tree) (bounds : List Bounds) → w ≤ 100 → AreBoundsOf ts bounds → AreWeightsOf ts (weighted_weights w bounds)
weighted_modest w ts bounds few are = record {
  same_length = length-weighted w bounds ∙ are.same_length;
  nodes = λ b h.
      let x = bounds_of bounds b in
      ap length (weights_of-weighted w bounds b (omega (arith, h, are.same_length)))
      ∙ length-weighted_list w x.lo x.hi ((are.each b h).hi_count ∙ sym (are.each b h).lo_count) ∙ (are.each b h).lo_count;
  modest = λ b h. subst AreModest (sym (weights_of-weighted w bounds b (omega (arith, h, are.same_length)))) (weighted_at w (length (tree_of ts b)) (bounds_of bounds b) few (are.each b h));
}

perturbed_at : (s : List Bool) (nodes : ℕ) (x : Bounds) → AreBounds nodes x → AreModest (perturbed_list s x.lo x.hi)
perturbed_at s nodes x are =
    let size : length x.hi ≡ length x.lo = are.hi_count ∙ sym are.lo_count in
    record {
      low = λ n h.
          let i : n < length x.lo = subst (λ k. n < k) (length-perturbed_list s x.lo x.hi size) h in
          let j : n < nodes = omega (arith, i, are.lo_count) in
          subst (λ z. neg_ℤ (pos 100000000000) ≤ℤ z) (sym (get_or-perturbed_list s x.lo x.hi n size i))
          (low_at (has s n) (weight_of x.lo n) (weight_of x.hi n) (are.low n j) (are.ordered n j));
      high = λ n h.
          let i : n < length x.lo = subst (λ k. n < k) (length-perturbed_list s x.lo x.hi size) h in
          let j : n < nodes = omega (arith, i, are.lo_count) in
          subst (λ z. z ≤ℤ pos 100000000000) (sym (get_or-perturbed_list s x.lo x.hi n size i))
          (high_at (has s n) (weight_of x.lo n) (weight_of x.hi n) (are.high n j) (are.ordered n j));
    }
  where
    low_at : (inside : Bool) (lo hi : ℤ) → neg_ℤ (pos 1000000000) ≤ℤ lo → lo ≤ℤ hi → neg_ℤ (pos 100000000000) ≤ℤ cond inside lo hi
    low_at true lo hi l o = omega (arith, ints, l)
    low_at false lo hi l o = omega (arith, ints, l, o)

    high_at : (inside : Bool) (lo hi : ℤ) → hi ≤ℤ pos 1000000000 → lo ≤ℤ hi → cond inside lo hi ≤ℤ pos 100000000000
    high_at true lo hi h o = omega (arith, ints, h, o)
    high_at false lo hi h o = omega (arith, ints, h)

pub perturbed_modest : (chosen : Assignment) (ts : List Tree) (bounds : List Bounds) → AreBoundsOf ts bounds → AreWeightsOf ts (perturbed_weights chosen bounds)
perturbed_modest chosen ts bounds are = record {
  same_length = length-perturbed chosen bounds ∙ are.same_length;
  nodes = λ b h.
      let x = bounds_of bounds b in
      ap length (weights_of-perturbed chosen bounds b (omega (arith, h, are.same_length)))
      ∙ length-perturbed_list (set_of chosen b) x.lo x.hi ((are.each b h).hi_count ∙ sym (are.each b h).lo_count) ∙ (are.each b h).lo_count;
  modest = λ b h.
      subst AreModest (sym (weights_of-perturbed chosen bounds b (omega (arith, h, are.same_length))))
      (perturbed_at (set_of chosen b) (length (tree_of ts b)) (bounds_of bounds b) (are.each b h));
}
