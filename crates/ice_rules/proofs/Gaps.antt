-- By how much one set's net exceeds another's, at all profiles.
use Rattle.std.proofs.Common.{ℕ, ◌<◌, ◌≡◌, Bool, true, false, cond, length, ℤ, pos, ◌-ℤ◌, ◌*ℤ◌, ◌≤ℤ◌, refl, arith, ap, ◌∙◌}
use Rattle.std.proofs.lemmas.Int.{ints}
use Rattle.std.proofs.Math.IntN.{*ℤ-zero}
use Rattle.ice_defs.specs.Sum.{sum_below}
use Rattle.ice_defs.specs.Tree.{Tree}
use Rattle.ice_defs.specs.Set.{NodeSet, has, Weights, weight_of, value, units}
use Rattle.ice_defs.specs.Bounds.{Bounds, IsInside}
use Rattle.ice_defs.specs.Prices.{Prices, cost_of}
use Rattle.ice_defs.specs.Rules.{net_at}
use Rattle.ice_defs.proofs.Sums.{sum_below-le, sum_below-less}
use Rattle.ice_defs.proofs.Products.{times-le, sum_below-times}
use Rattle.ice_rules.specs.Profiles.{AreAgainst, AreInFavour}
use Rattle.ice_defs.proofs.Multiples.{times_less, one_time, times_swap}

-- upper values on what only the first set has, and lower ones on what only the second has
pub record Favours (bounds : Bounds) (a s : NodeSet) (w : Weights) : Type 0 where
  pub up : (n : ℕ) → n < length bounds.lo → has a n ≡ true → has s n ≡ false → weight_of w n ≡ weight_of bounds.hi n
  pub down : (n : ℕ) → n < length bounds.lo → has a n ≡ false → has s n ≡ true → weight_of w n ≡ weight_of bounds.lo n

-- the weights against a set favour each other one over it
pub against_favours : (bounds : Bounds) (a s : NodeSet) (w : Weights) → AreAgainst bounds s w → Favours bounds a s w
against_favours bounds a s w are = record {
  up = λ n h i o. are.each n h ∙ ap (λ b. cond b (weight_of bounds.lo n) (weight_of bounds.hi n)) o;
  down = λ n h o i. are.each n h ∙ ap (λ b. cond b (weight_of bounds.lo n) (weight_of bounds.hi n)) i;
}

-- and those in favour of a set favour it over each other one
pub in_favour_favours : (bounds : Bounds) (a s : NodeSet) (w : Weights) → AreInFavour bounds a w → Favours bounds a s w
in_favour_favours bounds a s w are = record {
  up = λ n h i o. are.each n h ∙ ap (λ b. cond b (weight_of bounds.hi n) (weight_of bounds.lo n)) i;
  down = λ n h o i. are.each n h ∙ ap (λ b. cond b (weight_of bounds.hi n) (weight_of bounds.lo n)) o;
}

node-le : (x y : Bool) (k : ℕ) (v w lo hi : ℤ) → (pos k *ℤ lo) ≤ℤ v → v ≤ℤ (pos k *ℤ hi) → (x ≡ true → y ≡ false → w ≡ hi) → (x ≡ false → y ≡ true → w ≡ lo)
    → (cond x v (pos 0) -ℤ cond y v (pos 0)) ≤ℤ (pos k *ℤ (cond x w (pos 0) -ℤ cond y w (pos 0)))
node-le true true k v w lo hi low high up down = omega (arith, ints, times_less (pos k) w w)
node-le true false k v w lo hi low high up down =
    let e : pos k *ℤ w ≡ pos k *ℤ hi = ap (λ z. pos k *ℤ z) (up refl refl) in
    omega (arith, ints, low, high, e, times_less (pos k) w (pos 0), *ℤ-zero (pos k))
node-le false true k v w lo hi low high up down =
    let e : pos k *ℤ w ≡ pos k *ℤ lo = ap (λ z. pos k *ℤ z) (down refl refl) in
    omega (arith, ints, low, high, e, times_less (pos k) (pos 0) w, *ℤ-zero (pos k))
node-le false false k v w lo hi low high up down = omega (arith, ints, times_less (pos k) (pos 0) (pos 0), *ℤ-zero (pos k))

values-le : (bounds : Bounds) (a s : NodeSet) (w v : Weights) (k : ℕ) → Favours bounds a s w → IsInside k bounds v → length a ≡ length bounds.lo → length s ≡ length bounds.lo
    → (value a v -ℤ value s v) ≤ℤ (pos k *ℤ (value a w -ℤ value s w))
values-le bounds a s w v k favours inside a_size s_size =
    let av = λ (n : ℕ). cond (has a n) (weight_of v n) (pos 0) in
    let sv = λ (n : ℕ). cond (has s n) (weight_of v n) (pos 0) in
    let aw = λ (n : ℕ). cond (has a n) (weight_of w n) (pos 0) in
    let sw = λ (n : ℕ). cond (has s n) (weight_of w n) (pos 0) in
    let nodes = length bounds.lo in
    let each = sum_below-le (λ n. av n -ℤ sv n) (λ n. pos k *ℤ (aw n -ℤ sw n)) (length bounds.lo)
    (λ n h. node-le (has a n) (has s n) k (weight_of v n) (weight_of w n) (weight_of bounds.lo n) (weight_of bounds.hi n)
    (inside.low n (omega (arith, inside.same_length, h))) (inside.high n (omega (arith, inside.same_length, h))) (favours.up n h) (favours.down n h)) in
    let gaps = sum_below-less aw sw (length bounds.lo) in
    let gap : pos k *ℤ sum_below (λ n. aw n -ℤ sw n) (length bounds.lo) ≡ pos k *ℤ (sum_below aw (length bounds.lo) -ℤ sum_below sw (length bounds.lo)) = ap (λ z. pos k *ℤ z) gaps in
    let one : pos k *ℤ (value a w -ℤ value s w) ≡ pos k *ℤ (sum_below aw (length bounds.lo) -ℤ value s w) = ap (λ z. pos k *ℤ (z -ℤ value s w)) (ap (sum_below aw) a_size) in
    let two : pos k *ℤ (sum_below aw (length bounds.lo) -ℤ value s w) ≡ pos k *ℤ (sum_below aw (length bounds.lo) -ℤ sum_below sw (length bounds.lo)) = ap (λ z. pos k *ℤ (sum_below aw (length bounds.lo) -ℤ z)) (ap (sum_below sw) s_size) in
    omega (arith, ints, each, sum_below-less av sv (length bounds.lo), sum_below-times (pos k) (λ n. aw n -ℤ sw n) (length bounds.lo), gap, one, two, ap (sum_below av) a_size, ap (sum_below sv) s_size)

-- at no profile does the first set gain more over the second than at weights that favour it
pub greatest_gain : (t : Tree) (p : Prices) (bounds : Bounds) (a s : NodeSet) (w v : Weights) (k : ℕ)
    → Favours bounds a s w → IsInside k bounds v → length a ≡ length bounds.lo → length s ≡ length bounds.lo
    → (net_at t p k v a -ℤ net_at t p k v s) ≤ℤ (pos k *ℤ (net_at t p 1 w a -ℤ net_at t p 1 w s))
greatest_gain t p bounds a s w v k favours inside a_size s_size =
    by (pos p.den) (value a v) (value s v) (value a w) (value s w) (cost_of p (units t a)) (cost_of p (units t s))
    (times-le p.den _ _ (values-le bounds a s w v k favours inside a_size s_size))
  where
    by : (d av sv aw sw ac sc : ℤ) → (d *ℤ (av -ℤ sv)) ≤ℤ (d *ℤ (pos k *ℤ (aw -ℤ sw)))
        → (((d *ℤ av) -ℤ (pos k *ℤ ac)) -ℤ ((d *ℤ sv) -ℤ (pos k *ℤ sc))) ≤ℤ (pos k *ℤ (((d *ℤ aw) -ℤ (pos 1 *ℤ ac)) -ℤ ((d *ℤ sw) -ℤ (pos 1 *ℤ sc))))
    by d av sv aw sw ac sc h =
        let inner : ((d *ℤ aw) -ℤ (pos 1 *ℤ ac)) -ℤ ((d *ℤ sw) -ℤ (pos 1 *ℤ sc)) ≡ (d *ℤ (aw -ℤ sw)) -ℤ (ac -ℤ sc) =
        omega (arith, ints, one_time ac, one_time sc, times_less d aw sw) in
        let outer : pos k *ℤ (((d *ℤ aw) -ℤ (pos 1 *ℤ ac)) -ℤ ((d *ℤ sw) -ℤ (pos 1 *ℤ sc))) ≡ pos k *ℤ ((d *ℤ (aw -ℤ sw)) -ℤ (ac -ℤ sc)) = ap (λ z. pos k *ℤ z) inner in
        omega (arith, ints, h, outer, times_less d av sv, times_less (pos k) (d *ℤ (aw -ℤ sw)) (ac -ℤ sc), times_less (pos k) ac sc, times_swap k d (aw -ℤ sw))
