-- Weighted and perturbed values are small enough for nets.
use Rattle.std.proofs.Common.{ℕ, ◌-◌, ◌<◌, ◌≤◌, ◌≡◌, Bool, true, false, cond, length, ℤ, pos, neg_ℤ, ◌≤ℤ◌, arith, sym, subst}
use Rattle.std.proofs.lemmas.Int.{ints}
use Rattle.ice_defs.specs.Set.{NodeSet, has, weight_of}
use Rattle.ice_defs.specs.Bounds.{Bounds}
use Rattle.ice_defs.specs.Weighing.{weighted_list, perturbed_list}
use Rattle.ice_defs.specs.Lawful.{AreBounds}
use Rattle.ice_defs.proofs.Weights.{length-perturbed_list, weight_of-perturbed_list}
use Rattle.ice_tree.proofs.Filling.{times-within, length-weighted_list, get_or-weighted_list}
use Rattle.ice_best.specs.Nets.{AreAtMostTrillion}

pub weighted-modest : (weight nodes : ℕ) (b : Bounds) → weight ≤ 100 → AreBounds nodes b → AreAtMostTrillion (weighted_list weight b.lo b.hi)
weighted-modest weight nodes b few are = record {
  low = λ n h. (within n (omega (arith, length-weighted_list weight b.lo b.hi same, h))).0;
  high = λ n h. (within n (omega (arith, length-weighted_list weight b.lo b.hi same, h))).1;
}
  where
    same : length b.hi ≡ length b.lo
    same = omega (arith, are.lo_count, are.hi_count)

    within : (n : ℕ) → n < length b.lo
        → (neg_ℤ (pos 1000000000000) ≤ℤ weight_of (weighted_list weight b.lo b.hi) n) × (weight_of (weighted_list weight b.lo b.hi) n ≤ℤ pos 1000000000000)
    within n h =
        let l : n < nodes = omega (arith, are.lo_count, h) in
        let low = are.low n l in
        let ordered = are.ordered n l in
        let high = are.high n l in
        let is = get_or-weighted_list weight b.lo b.hi n same h in
        let (a, c) = times-within weight (weight_of b.lo n) few low (omega (arith, ints, ordered, high)) in
        let (d, e) = times-within (100 - weight) (weight_of b.hi n) (omega arith) (omega (arith, ints, low, ordered)) high in
        (omega (arith, ints, is, a, d), omega (arith, ints, is, c, e))

-- a lower or an upper value is far below the limit
either-small : (inside : Bool) (lo hi : ℤ) → neg_ℤ (pos 1000000000) ≤ℤ lo → lo ≤ℤ hi → hi ≤ℤ pos 1000000000
    → (neg_ℤ (pos 1000000000000) ≤ℤ cond inside lo hi) × (cond inside lo hi ≤ℤ pos 1000000000000)
either-small true lo hi low ordered high = (omega (arith, ints, low), omega (arith, ints, ordered, high))
either-small false lo hi low ordered high = (omega (arith, ints, low, ordered), omega (arith, ints, high))

pub perturbed-modest : (s : NodeSet) (nodes : ℕ) (b : Bounds) → AreBounds nodes b → AreAtMostTrillion (perturbed_list s b.lo b.hi)
perturbed-modest s nodes b are = record {
  low = λ n h. (within n (omega (arith, length-perturbed_list s b.lo b.hi same, h))).0;
  high = λ n h. (within n (omega (arith, length-perturbed_list s b.lo b.hi same, h))).1;
}
  where
    same : length b.hi ≡ length b.lo
    same = omega (arith, are.lo_count, are.hi_count)

    within : (n : ℕ) → n < length b.lo
        → (neg_ℤ (pos 1000000000000) ≤ℤ weight_of (perturbed_list s b.lo b.hi) n) × (weight_of (perturbed_list s b.lo b.hi) n ≤ℤ pos 1000000000000)
    within n h =
        let l : n < nodes = omega (arith, are.lo_count, h) in
        subst (λ z. (neg_ℤ (pos 1000000000000) ≤ℤ z) × (z ≤ℤ pos 1000000000000)) (sym (weight_of-perturbed_list s b.lo b.hi n same h))
        (either-small (has s n) (weight_of b.lo n) (weight_of b.hi n) (are.low n l) (are.ordered n l) (are.high n l))
