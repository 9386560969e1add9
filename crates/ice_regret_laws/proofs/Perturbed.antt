-- The best value at perturbed weights, less the final value at lower ones, is the regret.
use Rattle.std.proofs.Common.{ℕ, ◌<◌, ◌≡◌, Bool, true, false, cond, List, length, ℤ, pos, ◌+ℤ◌, ◌-ℤ◌, ◌*ℤ◌, ◌≤ℤ◌, refl, arith, ap, sym, ◌∙◌, subst}
use Rattle.std.proofs.lemmas.Int.{ints}
use Rattle.ice_defs.specs.Set.{NodeSet, has, Weights, weight_of, value}
use Rattle.ice_defs.specs.Trade.{Assignment, tree_of, set_of, weights_of, IsFeasible, total_value, IsBestOfAll}
use Rattle.ice_defs.specs.Bounds.{Bounds, bounds_of, IsInside, IsProfile}
use Rattle.ice_defs.specs.Lawful.{AreBounds}
use Rattle.ice_defs.specs.Weighing.{lower_weights, perturbed_list, perturbed_weights}
use Rattle.ice_defs.specs.Market.{Market}
use Rattle.ice_defs.specs.Regret.{lead, IsRegret}
use Rattle.ice_defs.proofs.Sums.{sum_below-same}
use Rattle.ice_defs.proofs.Products.{times_add, times-le}
use Rattle.ice_regret_laws.specs.Laws.{PerturbedGivesRegret, PerturbedAttains}
use Rattle.ice_defs.proofs.Multiples.{one_time}
use Rattle.ice_regret_laws.proofs.Cancelled.{total-le}
use Rattle.ice_regret_laws.proofs.Regrets.{regret_is_one}
use Rattle.ice_defs.proofs.Weights.{length-perturbed_list, weight_of-perturbed_list, weights_of-lower, length-perturbed, weights_of-perturbed}

-- ---- perturbed weights are a profile

between : (b : Bool) (lo hi : ℤ) → lo ≤ℤ hi → ((pos 1 *ℤ lo) ≤ℤ cond b lo hi) × (cond b lo hi ≤ℤ (pos 1 *ℤ hi))
between true lo hi h = (omega (arith, ints, one_time lo), omega (arith, ints, one_time hi))
between false lo hi h = (omega (arith, ints, one_time lo), omega (arith, ints, one_time hi))

perturbed_inside : (nodes : ℕ) (s : NodeSet) (bounds : Bounds) → AreBounds nodes bounds → IsInside 1 bounds (perturbed_list s bounds.lo bounds.hi)
perturbed_inside nodes s bounds are = record {
  same_length = size;
  low = λ n h. (ends n (omega (arith, size, h))).0;
  high = λ n h. (ends n (omega (arith, size, h))).1;
}
  where
    his : length bounds.hi ≡ length bounds.lo
    his = omega (arith, are.lo_count, are.hi_count)

    size : length (perturbed_list s bounds.lo bounds.hi) ≡ length bounds.lo
    size = length-perturbed_list s bounds.lo bounds.hi his

    ends : (n : ℕ) → n < length bounds.lo
        → ((pos 1 *ℤ weight_of bounds.lo n) ≤ℤ weight_of (perturbed_list s bounds.lo bounds.hi) n) × (weight_of (perturbed_list s bounds.lo bounds.hi) n ≤ℤ (pos 1 *ℤ weight_of bounds.hi n))
    ends n h =
        let is = weight_of-perturbed_list s bounds.lo bounds.hi n his h in
        let (low, high) = between (has s n) (weight_of bounds.lo n) (weight_of bounds.hi n) (are.ordered n (omega (arith, are.lo_count, h))) in
        (omega (arith, ints, is, low), omega (arith, ints, is, high))

-- a set is worth as much at its own perturbed weights as at lower ones
value-own : (s : NodeSet) (los his : List ℤ) → length his ≡ length los → length s ≡ length los → value s (perturbed_list s los his) ≡ value s los
value-own s los his e size =
    sum_below-same (λ n. cond (has s n) (weight_of (perturbed_list s los his) n) (pos 0)) (λ n. cond (has s n) (weight_of los n) (pos 0)) (length s)
    (λ n h. ap (λ x. cond (has s n) x (pos 0)) (weight_of-perturbed_list s los his n e (omega (arith, size, h))) ∙ by (has s n) (weight_of los n) (weight_of his n))
  where
    by : (b : Bool) (lo hi : ℤ) → cond b (cond b lo hi) (pos 0) ≡ cond b lo (pos 0)
    by true lo hi = refl
    by false lo hi = refl

module _ (market : Market) (bounds : List Bounds) (final : Assignment) (same : length bounds ≡ length market.trees)
    (each : (b : ℕ) → b < length market.trees → AreBounds (length (tree_of market.trees b)) (bounds_of bounds b)) (feasible : IsFeasible market.trees market.exact final) where
  bounds_at : (b : ℕ) → b < length bounds → AreBounds (length (tree_of market.trees b)) (bounds_of bounds b)
  bounds_at b h = each b (omega (arith, same, h))

  his : (b : ℕ) → b < length bounds → length (bounds_of bounds b).hi ≡ length (bounds_of bounds b).lo
  his b h = omega (arith, (bounds_at b h).lo_count, (bounds_at b h).hi_count)

  nodes : (a : Assignment) → IsFeasible market.trees market.exact a → (b : ℕ) → b < length bounds → length (set_of a b) ≡ length (bounds_of bounds b).lo
  nodes a is b h = omega (arith, (is.satisfied b (omega (arith, same, h))).same_length, (bounds_at b h).lo_count)

  pub perturbed_profile : IsProfile bounds 1 (perturbed_weights final bounds)
  perturbed_profile = record {
    whole = omega arith;
    same_length = length-perturbed final bounds;
    inside = λ b h. subst (IsInside 1 (bounds_of bounds b)) (sym (weights_of-perturbed final bounds b h)) (perturbed_inside _ (set_of final b) (bounds_of bounds b) (bounds_at b h));
  }

  -- the final assignment is worth as much at perturbed weights as at lower ones
  pub total-own : total_value final (perturbed_weights final bounds) ≡ total_value final (lower_weights bounds)
  total-own =
      sum_below-same (λ b. value (set_of final b) (weights_of (perturbed_weights final bounds) b)) (λ b. value (set_of final b) (weights_of (lower_weights bounds) b)) (length final)
      (λ b h.
      let l : b < length bounds = omega (arith, same, feasible.same_length, h) in
      ap (value (set_of final b)) (weights_of-perturbed final bounds b l)
      ∙ value-own (set_of final b) (bounds_of bounds b).lo (bounds_of bounds b).hi (his b l) (nodes final feasible b l)
      ∙ sym (ap (value (set_of final b)) (weights_of-lower bounds b l)))

  -- the lead under a profile is at most k times the one at perturbed weights
  pub lead-le : (k : ℕ) (v : List Weights) (a : Assignment) → IsProfile bounds k v → IsFeasible market.trees market.exact a
      → lead a final v ≤ℤ (pos k *ℤ (total_value a (perturbed_weights final bounds) -ℤ total_value final (lower_weights bounds)))
  lead-le k v a profile is =
      let best = total_value a (perturbed_weights final bounds) in
      let low = total_value final (lower_weights bounds) in
      let both = total-le k bounds a final v (omega (arith, same, is.same_length)) (omega (arith, same, feasible.same_length)) his (nodes a is) (nodes final feasible) profile in
      let back : (best -ℤ low) +ℤ low ≡ best = omega (arith, ints) in
      let whole : pos k *ℤ ((best -ℤ low) +ℤ low) ≡ pos k *ℤ best = ap (λ z. pos k *ℤ z) back in
      omega (arith, ints, both, whole, times_add (pos k) (best -ℤ low) low)

  pub is_regret : (best : ℤ) → IsBestOfAll market.trees market.exact (perturbed_weights final bounds) best → IsRegret market bounds final (best -ℤ total_value final (lower_weights bounds))
  is_regret best is =
      let (a, ok, has_best) = is.attained in
      record {
        attained = (1, perturbed_weights final bounds, a, perturbed_profile, ok, omega (arith, ints, has_best, total-own, one_time (best -ℤ total_value final (lower_weights bounds))));
        bound = λ k v other profile fits.
            let low = total_value final (lower_weights bounds) in
            let most = is.bound other fits in
            omega (arith, ints, lead-le k v other profile fits, times-le k (total_value other (perturbed_weights final bounds) -ℤ low) (best -ℤ low) (omega (arith, ints, most)));
      }

pub perturbed_gives_regret : PerturbedGivesRegret
perturbed_gives_regret market bounds final best same each feasible is = is_regret market bounds final same each feasible best is

pub perturbed_attains : PerturbedAttains
perturbed_attains market bounds final rival regret same each feasible is best =
    let weights : List Weights = perturbed_weights final bounds in
    let one = regret_is_one market bounds final (total_value rival weights -ℤ total_value final (lower_weights bounds)) regret (is_regret market bounds final same each feasible (total_value rival weights) best) is in
    (perturbed_profile market bounds final same each feasible, omega (arith, ints, one, total-own market bounds final same each feasible))
