-- Weights at lower values, and those that sets perturb.
use Rattle.std.proofs.Common.{ℕ, zero, suc, ◌<◌, ◌≡◌, cond, List, [], ◌∷◌, length, ℤ, refl, arith}
use Rattle.std.proofs.lemmas.List.{get_or-map}
use Rattle.ice_defs.specs.Set.{NodeSet, has, weight_of}
use Rattle.ice_defs.specs.Trade.{Assignment, set_of, weights_of}
use Rattle.ice_defs.specs.Bounds.{Bounds, bounds_of, no_bounds}
use Rattle.ice_defs.specs.Weighing.{lower_weights, perturbed_list, perturbed_weights}

pub length-perturbed_list : (s : NodeSet) (los his : List ℤ) → length his ≡ length los → length (perturbed_list s los his) ≡ length los
length-perturbed_list s [] his e = refl
length-perturbed_list s (lo ∷ los) [] e = absurd (omega arith)
length-perturbed_list [] (lo ∷ los) (hi ∷ his) e = omega (arith, length-perturbed_list [] los his (omega arith))
length-perturbed_list (inside ∷ s) (lo ∷ los) (hi ∷ his) e = omega (arith, length-perturbed_list s los his (omega arith))

pub weight_of-perturbed_list : (s : NodeSet) (los his : List ℤ) (n : ℕ) → length his ≡ length los → n < length los
    → weight_of (perturbed_list s los his) n ≡ cond (has s n) (weight_of los n) (weight_of his n)
weight_of-perturbed_list s [] his n e h = absurd (omega arith)
weight_of-perturbed_list s (lo ∷ los) [] n e h = absurd (omega arith)
weight_of-perturbed_list [] (lo ∷ los) (hi ∷ his) zero e h = refl
weight_of-perturbed_list [] (lo ∷ los) (hi ∷ his) (suc n) e h = weight_of-perturbed_list [] los his n (omega arith) (omega arith)
weight_of-perturbed_list (inside ∷ s) (lo ∷ los) (hi ∷ his) zero e h = refl
weight_of-perturbed_list (inside ∷ s) (lo ∷ los) (hi ∷ his) (suc n) e h = weight_of-perturbed_list s los his n (omega arith) (omega arith)

pub weights_of-lower : (bounds : List Bounds) (b : ℕ) → b < length bounds → weights_of (lower_weights bounds) b ≡ (bounds_of bounds b).lo
weights_of-lower bounds b h = get_or-map (λ (x : Bounds). x.lo) bounds b no_bounds [] h

pub length-perturbed : (chosen : Assignment) (bounds : List Bounds) → length (perturbed_weights chosen bounds) ≡ length bounds
length-perturbed chosen [] = refl
length-perturbed [] (x ∷ bounds) = omega (arith, length-perturbed [] bounds)
length-perturbed (s ∷ chosen) (x ∷ bounds) = omega (arith, length-perturbed chosen bounds)

pub weights_of-perturbed : (chosen : Assignment) (bounds : List Bounds) (b : ℕ) → b < length bounds
    → weights_of (perturbed_weights chosen bounds) b ≡ perturbed_list (set_of chosen b) (bounds_of bounds b).lo (bounds_of bounds b).hi
weights_of-perturbed chosen [] b h = absurd (omega arith)
weights_of-perturbed [] (x ∷ bounds) zero h = refl
weights_of-perturbed [] (x ∷ bounds) (suc b) h = weights_of-perturbed [] bounds b (omega arith)
weights_of-perturbed (s ∷ chosen) (x ∷ bounds) zero h = refl
weights_of-perturbed (s ∷ chosen) (x ∷ bounds) (suc b) h = weights_of-perturbed chosen bounds b (omega arith)
