-- The net of a set at rates is its value at the net weights.
use Rattle.std.proofs.Common.{ℕ, ◌*◌, ◌^◌, ◌<◌, ◌≤◌, ◌≡◌, Bool, true, false, cond, eqb, length, ℤ, pos, ◌+ℤ◌, ◌-ℤ◌, ◌*ℤ◌, neg_ℤ, ◌≤ℤ◌, arith, ap, sym, ◌∙◌, ◌⊎◌, inl, inr}
use Rattle.std.proofs.lemmas.Int.{ints}
use Rattle.std.proofs.lemmas.Bool.{cases_lt, cases_eq}
use Rattle.std.proofs.lemmas.List.{get_or_past}
use Rattle.std.proofs.Math.IntN.{*ℤ-zero, zero-*ℤ}
use Rattle.ice_defs.specs.declared.NodeKind.{NodeKind}
use Rattle.ice_defs.specs.declared.NodeKind.TheVariants.{Choose, Buy, Sell}
use Rattle.ice_defs.specs.Sum.{sum_below}
use Rattle.ice_defs.specs.Tree.{Tree, kind_of}
use Rattle.ice_defs.specs.Set.{NodeSet, has, Weights, weight_of, value, leaf_units, units}
use Rattle.ice_defs.proofs.Sums.{sum_below-same, sum_below-add, sum_below-swap, sum_below-zero, sum_below-single, sum_below-low, sum_below-high, at_other, at_same}
use Rattle.ice_defs.proofs.Products.{times_neg, sum_below-times}
use Rattle.ice_best.specs.Nets.{Rates, rate_of, node_cost, set_cost, net_at_rates, IsNet, AllNets, AreNetWeights}

-- ---- what a node costs, good by good

-- units u of one good cost its rate times u
one_good : (rates : Rates) (good : ℕ) (u : ℤ) → sum_below (λ g. rate_of rates g *ℤ cond (eqb good g) u (pos 0)) (length rates) ≡ rate_of rates good *ℤ u
one_good rates good u =
    sum_below-same _ (λ g. cond (eqb good g) (rate_of rates good *ℤ u) (pos 0)) (length rates) (λ g h. by g (cases_eq good g)) ∙ whole (cases_lt good (length rates))
  where
    by : (g : ℕ) → (good ≡ g) ⊎ (good ≡ g → ⊥) → rate_of rates g *ℤ cond (eqb good g) u (pos 0) ≡ cond (eqb good g) (rate_of rates good *ℤ u) (pos 0)
    by g (inl e) =
        ap (λ z. rate_of rates g *ℤ z) (at_same good g u e) ∙ ap (λ j. rate_of rates j *ℤ u) (sym e)
        ∙ sym (at_same good g (rate_of rates good *ℤ u) e)
    by g (inr ne) =
        ap (λ z. rate_of rates g *ℤ z) (at_other good g u ne) ∙ *ℤ-zero (rate_of rates g)
        ∙ sym (at_other good g (rate_of rates good *ℤ u) ne)

    whole : (good < length rates) ⊎ (length rates ≤ good) → sum_below (λ g. cond (eqb good g) (rate_of rates good *ℤ u) (pos 0)) (length rates) ≡ rate_of rates good *ℤ u
    whole (inl h) = sum_below-single good (length rates) (rate_of rates good *ℤ u) h
    whole (inr h) =
        sum_below-zero _ (length rates) (λ g l. at_other good g (rate_of rates good *ℤ u) (omega arith))
        ∙ sym (ap (λ z. z *ℤ u) (get_or_past rates good (pos 0) h) ∙ zero-*ℤ u)

costs-leaf : (kind : NodeKind) (rates : Rates) → sum_below (λ g. rate_of rates g *ℤ leaf_units kind g) (length rates) ≡ node_cost kind rates
costs-leaf (Choose least most) rates = sum_below-zero _ (length rates) (λ g h. *ℤ-zero (rate_of rates g))
costs-leaf (Buy good units) rates = one_good rates good (pos units)
costs-leaf (Sell good units) rates = one_good rates good (neg_ℤ (pos units)) ∙ times_neg (rate_of rates good) (pos units)

-- a node outside costs nothing
costs-inside : (inside : Bool) (kind : NodeKind) (rates : Rates)
    → sum_below (λ g. rate_of rates g *ℤ cond inside (leaf_units kind g) (pos 0)) (length rates) ≡ cond inside (node_cost kind rates) (pos 0)
costs-inside true kind rates = costs-leaf kind rates
costs-inside false kind rates = sum_below-zero _ (length rates) (λ g h. *ℤ-zero (rate_of rates g))

-- ---- what a set costs and nets

-- the cost of a set is that of its nodes
pub set_cost-nodes : (t : Tree) (s : NodeSet) (rates : Rates) → set_cost t rates s ≡ sum_below (λ n. cond (has s n) (node_cost (kind_of t n) rates) (pos 0)) (length t)
set_cost-nodes t s rates =
    sum_below-same _ (λ g. sum_below (λ n. rate_of rates g *ℤ cond (has s n) (leaf_units (kind_of t n) g) (pos 0)) (length t)) (length rates)
    (λ g h. sym (sum_below-times (rate_of rates g) (λ n. cond (has s n) (leaf_units (kind_of t n) g) (pos 0)) (length t)))
    ∙ sum_below-swap (λ g n. rate_of rates g *ℤ cond (has s n) (leaf_units (kind_of t n) g) (pos 0)) (length rates) (length t)
    ∙ sum_below-same _ (λ n. cond (has s n) (node_cost (kind_of t n) rates) (pos 0)) (length t) (λ n h. costs-inside (has s n) (kind_of t n) rates)

pub value-nets : (t : Tree) (w : Weights) (scale : ℕ) (rates : Rates) (times : ℕ) (nets : Weights) (s : NodeSet) → AreNetWeights t w scale rates times nets → length s ≡ length t
    → value s nets ≡ net_at_rates t w scale rates times s
value-nets t w scale rates times nets s are size =
    let netted = λ (n : ℕ). cond (has s n) (weight_of nets n) (pos 0) in
    let costs = λ (n : ℕ). cond (has s n) (node_cost (kind_of t n) rates) (pos 0) in
    let values = λ (n : ℕ). cond (has s n) (weight_of w n) (pos 0) in
    let each = sum_below-same (λ n. netted n +ℤ (pos times *ℤ costs n)) (λ n. pos scale *ℤ values n) (length t) (λ n h. by n (has s n) (are.each n h)) in
    let added = sum_below-add netted (λ n. pos times *ℤ costs n) (length t) in
    let scaled_sum = sum_below-times (pos scale) values (length t) in
    let costly = sum_below-times (pos times) costs (length t) in
    let cost : pos times *ℤ set_cost t rates s ≡ pos times *ℤ sum_below costs (length t) = ap (λ z. pos times *ℤ z) (set_cost-nodes t s rates) in
    let nets_size = ap (sum_below netted) size in
    let scaled : pos scale *ℤ sum_below values (length s) ≡ pos scale *ℤ sum_below values (length t) = ap (λ z. pos scale *ℤ z) (ap (sum_below values) size) in
    omega (arith, ints, each, added, scaled_sum, costly, cost, nets_size, scaled)
  where
    by : (n : ℕ) (b : Bool) → weight_of nets n ≡ ((pos scale *ℤ weight_of w n) -ℤ (pos times *ℤ node_cost (kind_of t n) rates))
        → cond b (weight_of nets n) (pos 0) +ℤ (pos times *ℤ cond b (node_cost (kind_of t n) rates) (pos 0)) ≡ pos scale *ℤ cond b (weight_of w n) (pos 0)
    by n true e = omega (arith, ints, e)
    by n false e = omega (arith, ints, *ℤ-zero (pos times), *ℤ-zero (pos scale))

-- ---- the size of a value

-- the value of a set at nets is no larger than 200 of them
pub value-small : (t : Tree) (s : NodeSet) (nets : Weights) (v : ℤ) → length t ≤ 200 → length nets ≡ length t → AllNets nets → length s ≡ length t → value s nets ≡ v
    → (neg_ℤ (pos (200 * 2 ^ 90)) ≤ℤ v) × (v ≤ℤ pos (200 * 2 ^ 90))
value-small t s nets v few nodes small size same =
    let term = λ (n : ℕ). cond (has s n) (weight_of nets n) (pos 0) in
    let under = sum_below-low term (length s) (2 ^ 90) (λ n h. low_at (has s n) n (small n (omega (arith, size, nodes, h)))) in
    let over = sum_below-high term (length s) (2 ^ 90) (λ n h. high_at (has s n) n (small n (omega (arith, size, nodes, h)))) in
    (omega (arith, ints, same, under, size, few), omega (arith, ints, same, over, size, few))
  where
    low_at : (b : Bool) (n : ℕ) → IsNet (weight_of nets n) → neg_ℤ (pos (2 ^ 90)) ≤ℤ cond b (weight_of nets n) (pos 0)
    low_at true n h = h.low
    low_at false n h = omega (arith, ints)

    high_at : (b : Bool) (n : ℕ) → IsNet (weight_of nets n) → cond b (weight_of nets n) (pos 0) ≤ℤ pos (2 ^ 90)
    high_at true n h = h.high
    high_at false n h = omega (arith, ints)
