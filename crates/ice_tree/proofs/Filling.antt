-- Weights that are filled from bounds, node by node and bidder by bidder.
use Rattle.std.proofs.Common.{ℕ, zero, suc, ◌*◌, ◌<◌, ◌≤◌, ◌≡◌, cond, List, [], ◌∷◌, length, ℤ, pos, neg_ℤ, negsuc, ◌*ℤ◌, ◌≤ℤ◌, refl, arith, ap, sym, ◌∙◌}
use Rattle.std.specs.Int.RustNames.{unsigned_abs}
use Rattle.std.proofs.Math.Nat.{mul-le-mul_right}
use Rattle.std.proofs.lemmas.Int.{ints, unsigned_abs-mul}
use Rattle.std.proofs.lemmas.List.{ext_get_or, get_or-map, length-map}
use Rattle.ice_defs.specs.Set.{NodeSet, Weights, has, weight_of}
use Rattle.ice_defs.specs.Trade.{Assignment, weights_of, set_of}
use Rattle.ice_defs.specs.Bounds.{Bounds, bounds_of, no_bounds}
use Rattle.ice_defs.specs.Weighing.{weighted_value, weighted_list, perturbed_list, lower_weights, weighted_weights, perturbed_weights}
use Rattle.ice_tree.specs.Alike.{AreAlike}
pub use Rattle.ice_defs.proofs.Weights.{length-perturbed_list, weights_of-lower, length-perturbed, weights_of-perturbed}
pub use Rattle.ice_defs.proofs.Weights.{weight_of-perturbed_list as get_or-perturbed_list}
use Rattle.ice_defs.proofs.Weights.{weight_of-perturbed_list}

-- ---- products

abs_from_within : (z : ℤ) (k : ℕ) → neg_ℤ (pos k) ≤ℤ z → z ≤ℤ pos k → unsigned_abs z ≤ k
abs_from_within (pos a) k low high = omega (arith, ints)
abs_from_within (negsuc a) k low high = omega (arith, ints)

within_from_abs : (z : ℤ) (k : ℕ) → unsigned_abs z ≤ k → (neg_ℤ (pos k) ≤ℤ z) × (z ≤ℤ pos k)
within_from_abs (pos a) k h = (omega (arith, ints), omega (arith, ints))
within_from_abs (negsuc a) k h = (omega (arith, ints), omega (arith, ints))

-- a hundred times a value
pub times-within : (w : ℕ) (z : ℤ) → w ≤ 100 → neg_ℤ (pos 1000000000) ≤ℤ z → z ≤ℤ pos 1000000000
    → (neg_ℤ (pos 100000000000) ≤ℤ (pos w *ℤ z)) × ((pos w *ℤ z) ≤ℤ pos 100000000000)
times-within w z few low high =
    let size : unsigned_abs z ≤ 1000000000 = abs_from_within z 1000000000 low high in
    let product : unsigned_abs (pos w *ℤ z) ≡ w * unsigned_abs z = unsigned_abs-mul (pos w) z in
    within_from_abs (pos w *ℤ z) 100000000000 (omega (arith, product, mul-le-mul_right (unsigned_abs z) few))

-- ---- one bidder

pub length-weighted_list : (w : ℕ) (los his : List ℤ) → length his ≡ length los → length (weighted_list w los his) ≡ length los
length-weighted_list w [] his e = refl
length-weighted_list w (lo ∷ los) [] e = absurd (omega arith)
length-weighted_list w (lo ∷ los) (hi ∷ his) e = omega (arith, length-weighted_list w los his (omega arith))

pub get_or-weighted_list : (w : ℕ) (los his : List ℤ) (n : ℕ) → length his ≡ length los → n < length los
    → weight_of (weighted_list w los his) n ≡ weighted_value w (weight_of los n) (weight_of his n)
get_or-weighted_list w [] his n e h = absurd (omega arith)
get_or-weighted_list w (lo ∷ los) [] n e h = absurd (omega arith)
get_or-weighted_list w (lo ∷ los) (hi ∷ his) zero e h = refl
get_or-weighted_list w (lo ∷ los) (hi ∷ his) (suc n) e h = get_or-weighted_list w los his n (omega arith) (omega arith)

pub lower_filled : (ws los : List ℤ) → length ws ≡ length los → ((k : ℕ) → k < length los → weight_of ws k ≡ weight_of los k) → ws ≡ los
lower_filled ws los e each = ext_get_or (pos 0) ws los e (λ k h. each k (omega (arith, e)))

pub weighted_filled : (w : ℕ) (ws los his : List ℤ) → length ws ≡ length los → length his ≡ length los
    → ((k : ℕ) → k < length los → weight_of ws k ≡ weighted_value w (weight_of los k) (weight_of his k)) → ws ≡ weighted_list w los his
weighted_filled w ws los his e f each =
    ext_get_or (pos 0) ws (weighted_list w los his) (e ∙ sym (length-weighted_list w los his f))
    (λ k h. each k (omega (arith, e)) ∙ sym (get_or-weighted_list w los his k f (omega (arith, e))))

pub perturbed_filled : (s : NodeSet) (ws los his : List ℤ) → length ws ≡ length los → length his ≡ length los
    → ((k : ℕ) → k < length los → weight_of ws k ≡ cond (has s k) (weight_of los k) (weight_of his k)) → ws ≡ perturbed_list s los his
perturbed_filled s ws los his e f each =
    ext_get_or (pos 0) ws (perturbed_list s los his) (e ∙ sym (length-perturbed_list s los his f))
    (λ k h. each k (omega (arith, e)) ∙ sym (weight_of-perturbed_list s los his k f (omega (arith, e))))

-- ---- all bidders

pub weights_of-weighted : (w : ℕ) (bounds : List Bounds) (b : ℕ) → b < length bounds → weights_of (weighted_weights w bounds) b ≡ weighted_list w (bounds_of bounds b).lo (bounds_of bounds b).hi
weights_of-weighted w bounds b h = get_or-map (λ (x : Bounds). weighted_list w x.lo x.hi) bounds b no_bounds [] h

pub length-lower : (bounds : List Bounds) → length (lower_weights bounds) ≡ length bounds
length-lower bounds = length-map bounds (λ (x : Bounds). x.lo)

pub length-weighted : (w : ℕ) (bounds : List Bounds) → length (weighted_weights w bounds) ≡ length bounds
length-weighted w bounds = length-map bounds (λ (x : Bounds). weighted_list w x.lo x.hi)

-- lists of weights that agree at each bidder
pub all_filled : (ws target : List Weights) (n : ℕ) → length ws ≡ n → length target ≡ n → ((b : ℕ) → b < n → weights_of ws b ≡ weights_of target b) → ws ≡ target
all_filled ws target n e f each = ext_get_or [] ws target (e ∙ sym f) (λ b h. each b (omega (arith, e)))

-- ---- filled weights are alike again

pub AreAlike-lower : (bounds : List Bounds) → AreAlike (lower_weights bounds) bounds
AreAlike-lower bounds = record {
  count = length-lower bounds;
  nodes = λ b h. ap length (weights_of-lower bounds b h);
}

pub AreAlike-weighted : (w : ℕ) (bounds : List Bounds) → ((b : ℕ) → b < length bounds → length (bounds_of bounds b).hi ≡ length (bounds_of bounds b).lo) → AreAlike (weighted_weights w bounds) bounds
AreAlike-weighted w bounds same = record {
  count = length-weighted w bounds;
  nodes = λ b h. ap length (weights_of-weighted w bounds b h) ∙ length-weighted_list w (bounds_of bounds b).lo (bounds_of bounds b).hi (same b h);
}

pub AreAlike-perturbed : (chosen : Assignment) (bounds : List Bounds) → ((b : ℕ) → b < length bounds → length (bounds_of bounds b).hi ≡ length (bounds_of bounds b).lo)
    → AreAlike (perturbed_weights chosen bounds) bounds
AreAlike-perturbed chosen bounds same = record {
  count = length-perturbed chosen bounds;
  nodes = λ b h. ap length (weights_of-perturbed chosen bounds b h) ∙ length-perturbed_list (set_of chosen b) (bounds_of bounds b).lo (bounds_of bounds b).hi (same b h);
}
