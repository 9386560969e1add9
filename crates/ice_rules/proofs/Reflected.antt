-- A set that is best at the centre of the bounds is as good as any that is best throughout.
use Rattle.std.proofs.Common.{ℕ, zero, suc, ◌<◌, ◌≡◌, Bool, true, false, cond, List, [], ◌∷◌, length, ℤ, pos, ◌+ℤ◌, ◌-ℤ◌, ◌*ℤ◌, ◌≤ℤ◌, refl, arith, ap}
use Rattle.std.proofs.lemmas.Int.{ints}
use Rattle.std.proofs.Math.IntN.{*ℤ-zero}
use Rattle.ice_defs.specs.Tree.{Tree}
use Rattle.ice_defs.specs.Set.{NodeSet, has, Weights, weight_of, value, units}
use Rattle.ice_defs.specs.Bounds.{Bounds, IsInside}
use Rattle.ice_defs.specs.Prices.{Prices, cost_of}
use Rattle.ice_defs.specs.Rules.{net_at}
use Rattle.ice_defs.proofs.Sums.{sum_below-same, sum_below-add}
use Rattle.ice_best_at_prices.specs.Net.{IsBestAtPrices}
use Rattle.ice_defs.proofs.Products.{times_add, times-le, sum_below-times}
use Rattle.ice_rules.specs.Profiles.{AreCentre}
use Rattle.ice_rules.specs.Centre.{IsAsGoodAsAny}
use Rattle.ice_defs.proofs.Multiples.{times_less, times_swap}

-- f 0, f 1, .., f (n - 1)
pub tabulated : (ℕ → ℤ) → ℕ → List ℤ
tabulated f zero = []
tabulated f (suc n) = f 0 ∷ tabulated (λ k. f (suc k)) n

pub length-tabulated : (f : ℕ → ℤ) (n : ℕ) → length (tabulated f n) ≡ n
unfolding tabulated
length-tabulated f zero = refl
length-tabulated f (suc n) = omega (arith, length-tabulated (λ k. f (suc k)) n)

pub weight_of-tabulated : (f : ℕ → ℤ) (n k : ℕ) → k < n → weight_of (tabulated f n) k ≡ f k
unfolding tabulated
weight_of-tabulated f zero k h = absurd (omega arith)
weight_of-tabulated f (suc n) zero h = refl
weight_of-tabulated f (suc n) (suc k) h = weight_of-tabulated (λ j. f (suc j)) n k (omega arith)

module _ (t : Tree) (p : Prices) (bounds : Bounds) (c : Weights) (are : AreCentre bounds c) (k : ℕ) (v : Weights) (inside : IsInside k bounds v) where
  -- the profile on the other side of the centre
  turned : ℕ → ℤ
  turned n = (pos k *ℤ weight_of c n) -ℤ weight_of v n

  reflected : Weights
  reflected = tabulated turned (length bounds.lo)

  reflected_is : (n : ℕ) → n < length bounds.lo → weight_of reflected n ≡ (pos k *ℤ weight_of c n) -ℤ weight_of v n
  unfolding reflected turned
  reflected_is n h = weight_of-tabulated turned (length bounds.lo) n h

  reflected_size : length reflected ≡ length bounds.lo
  unfolding reflected
  reflected_size = length-tabulated turned (length bounds.lo)

  reflected_inside : IsInside k bounds reflected
  reflected_inside = record {
    same_length = reflected_size;
    low = λ n h. (ends n (omega (arith, reflected_size, h))).0;
    high = λ n h. (ends n (omega (arith, reflected_size, h))).1;
  }
    where
      ends : (n : ℕ) → n < length bounds.lo → ((pos k *ℤ weight_of bounds.lo n) ≤ℤ weight_of reflected n) × (weight_of reflected n ≤ℤ (pos k *ℤ weight_of bounds.hi n))
      ends n h =
          let l : n < length v = omega (arith, inside.same_length, h) in
          let middle : pos k *ℤ weight_of c n ≡ pos k *ℤ (weight_of bounds.lo n +ℤ weight_of bounds.hi n) = ap (λ z. pos k *ℤ z) (are.each n h) in
          let parts = times_add (pos k) (weight_of bounds.lo n) (weight_of bounds.hi n) in
          (omega (arith, ints, reflected_is n h, middle, parts, inside.high n l), omega (arith, ints, reflected_is n h, middle, parts, inside.low n l))

  -- a profile and the reflected one sum to the centre
  values_reflect : (a : NodeSet) → length a ≡ length bounds.lo → value a v +ℤ value a reflected ≡ pos k *ℤ value a c
  values_reflect a size =
      let there = λ (n : ℕ). cond (has a n) (weight_of v n) (pos 0) in
      let back = λ (n : ℕ). cond (has a n) (weight_of reflected n) (pos 0) in
      let middle = λ (n : ℕ). cond (has a n) (weight_of c n) (pos 0) in
      let same = sum_below-same (λ n. there n +ℤ back n) (λ n. pos k *ℤ middle n) (length a) (λ n h. by n (has a n) (reflected_is n (omega (arith, size, h)))) in
      omega (arith, ints, same, sum_below-add there back (length a), sum_below-times (pos k) middle (length a))
    where
      by : (n : ℕ) (b : Bool) → weight_of reflected n ≡ (pos k *ℤ weight_of c n) -ℤ weight_of v n
          → cond b (weight_of v n) (pos 0) +ℤ cond b (weight_of reflected n) (pos 0) ≡ pos k *ℤ cond b (weight_of c n) (pos 0)
      by n true e = omega (arith, ints, e)
      by n false e = omega (arith, ints, *ℤ-zero (pos k))

  nets_reflect : (a : NodeSet) → length a ≡ length bounds.lo → net_at t p k v a +ℤ net_at t p k reflected a ≡ pos k *ℤ net_at t p 2 c a
  nets_reflect a size = by (pos p.den) (value a v) (value a reflected) (value a c) (cost_of p (units t a)) (values_reflect a size)
    where
      by : (d x y z q : ℤ) → x +ℤ y ≡ pos k *ℤ z → ((d *ℤ x) -ℤ (pos k *ℤ q)) +ℤ ((d *ℤ y) -ℤ (pos k *ℤ q)) ≡ pos k *ℤ ((d *ℤ z) -ℤ (pos 2 *ℤ q))
      by d x y z q e =
          let whole : d *ℤ (x +ℤ y) ≡ d *ℤ (pos k *ℤ z) = ap (λ u. d *ℤ u) e in
          omega (arith, ints, whole, times_add d x y, times_swap k d z, times_less (pos k) (d *ℤ z) (pos 2 *ℤ q), times_swap k (pos 2) q)

  as_good : (a best : NodeSet) → length a ≡ length bounds.lo → length best ≡ length bounds.lo → net_at t p 2 c best ≤ℤ net_at t p 2 c a
      → net_at t p k reflected a ≤ℤ net_at t p k reflected best → net_at t p k v best ≤ℤ net_at t p k v a
  as_good a best a_size best_size at_centre at_reflected =
      omega (arith, ints, nets_reflect a a_size, nets_reflect best best_size, times-le k _ _ at_centre, at_reflected)

pub centre_is_good : (t : Tree) (p : Prices) (bounds : Bounds) (c : Weights) (out : NodeSet) (net : ℤ) → length bounds.lo ≡ length t → AreCentre bounds c → IsBestAtPrices t c 2 p out net
    → IsAsGoodAsAny t p bounds out
centre_is_good t p bounds c out net nodes are is best sat throughout k v some inside =
    as_good t p bounds c are k v inside out best (omega (arith, is.satisfied.same_length, nodes)) (omega (arith, sat.same_length, nodes))
    (omega (arith, ints, is.greatest best sat, is.has))
    (throughout k (reflected t p bounds c are k v inside) out some (reflected_inside t p bounds c are k v inside) is.satisfied)
