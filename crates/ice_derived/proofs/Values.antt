-- The value of a set at charged nets is its net less its charges, and these are its tolls.
use Rattle.std.proofs.Common.{ℕ, ◌*◌, ◌^◌, ◌<◌, ◌≤◌, ◌≡◌, Bool, true, false, cond, List, length, Option, Some, None, ℤ, pos, neg_ℤ, ◌+ℤ◌, ◌-ℤ◌, ◌*ℤ◌, ◌≤ℤ◌, refl, arith, ap, sym, ◌∙◌, subst}
use Rattle.std.specs.Prelude.{IfSome}
use Rattle.std.proofs.lemmas.Int.{ints}
use Rattle.std.proofs.Math.IntN.{*ℤ-zero}
use Rattle.ice_defs.specs.Sum.{sum_below}
use Rattle.ice_defs.specs.Greatest.{IsGreatest}
use Rattle.ice_defs.specs.Tree.{Tree, kind_of}
use Rattle.ice_defs.specs.Set.{NodeSet, Weights, has, weight_of, IsSmall, value}
use Rattle.ice_defs.specs.Fixing.{Fixing}
use Rattle.ice_defs.specs.Trade.{weights_of}
use Rattle.ice_defs.specs.Bound.{Multipliers, IsOpen}
use Rattle.ice_defs.proofs.Sums.{sum_below-same, sum_below-add, sum_below-swap, sum_below-zero, sum_below-low, sum_below-high}
use Rattle.ice_defs.proofs.Products.{sum_below-times}
use Rattle.ice_best.specs.Nets.{node_cost, set_cost, node_net}
use Rattle.ice_best.proofs.NetValues.{set_cost-nodes}
use Rattle.ice_defs.specs.Derived.{Derived, derived_at, Tolls, toll_of, tolls_on, net_with}
use Rattle.ice_bound.specs.Laws.{tolls_on_node}
use Rattle.ice_derived.specs.Nets.{net_less, AreNetsLess}

-- ---- the size of a value

-- the value of a set at small weights is no larger than 200 of them
value-small : (t : Tree) (s : NodeSet) (nets : Weights) (v : ℤ) → length t ≤ 200 → ((n : ℕ) → n < length t → IsSmall (weight_of nets n)) → length s ≡ length t → value s nets ≡ v
    → (neg_ℤ (pos (200 * 2 ^ 94)) ≤ℤ v) × (v ≤ℤ pos (200 * 2 ^ 94))
value-small t s nets v few small size same =
    let term = λ (n : ℕ). cond (has s n) (weight_of nets n) (pos 0) in
    let under = sum_below-low term (length s) (2 ^ 94) (λ n h. low_at (has s n) n (small n (omega (arith, size, h)))) in
    let over = sum_below-high term (length s) (2 ^ 94) (λ n h. high_at (has s n) n (small n (omega (arith, size, h)))) in
    (omega (arith, ints, same, under, size, few), omega (arith, ints, same, over, size, few))
  where
    low_at : (b : Bool) (n : ℕ) → IsSmall (weight_of nets n) → neg_ℤ (pos (2 ^ 94)) ≤ℤ cond b (weight_of nets n) (pos 0)
    low_at true n h = h.low
    low_at false n h = omega (arith, ints)

    high_at : (b : Bool) (n : ℕ) → IsSmall (weight_of nets n) → cond b (weight_of nets n) (pos 0) ≤ℤ pos (2 ^ 94)
    high_at true n h = h.high
    high_at false n h = omega (arith, ints)

-- ---- what a set is charged, node by node

module _ (ds : List Derived) (tolls : Tolls) (b : ℕ) (s : NodeSet) where
  amount : ℕ → ℕ → ℤ
  amount k n = weight_of (weights_of (derived_at ds k).amounts b) n

  tolled : ℕ → ℤ
  tolled n = cond (has s n) (tolls_on_node ds tolls b n) (pos 0)

  -- a node outside pays nothing
  tolled-inside : (n : ℕ) → tolled n ≡ sum_below (λ k. toll_of tolls k *ℤ cond (has s n) (amount k n) (pos 0)) (length ds)
  unfolding tolled amount
  tolled-inside n = by (has s n)
    where
      by : (i : Bool) → cond i (tolls_on_node ds tolls b n) (pos 0) ≡ sum_below (λ k. toll_of tolls k *ℤ cond i (weight_of (weights_of (derived_at ds k).amounts b) n) (pos 0)) (length ds)
      by true = refl
      by false = sym (sum_below-zero _ (length ds) (λ k h. *ℤ-zero (toll_of tolls k)))

  tolls_on-nodes : tolls_on ds tolls b s ≡ sum_below tolled (length s)
  unfolding tolled amount
  tolls_on-nodes =
      sum_below-same (λ k. toll_of tolls k *ℤ value s (weights_of (derived_at ds k).amounts b)) (λ k. sum_below (λ n. toll_of tolls k *ℤ cond (has s n) (amount k n) (pos 0)) (length s)) (length ds)
      (λ k h. sym (sum_below-times (toll_of tolls k) (λ n. cond (has s n) (amount k n) (pos 0)) (length s)))
      ∙ sum_below-swap (λ k n. toll_of tolls k *ℤ cond (has s n) (amount k n) (pos 0)) (length ds) (length s)
      ∙ sum_below-same (λ n. sum_below (λ k. toll_of tolls k *ℤ cond (has s n) (amount k n) (pos 0)) (length ds)) tolled (length s) (λ n h. sym (tolled-inside n))

  -- the charges of a set are its tolls
  value-charges : (charges : Weights) → ((n : ℕ) → n < length s → weight_of charges n ≡ tolls_on_node ds tolls b n) → value s charges ≡ tolls_on ds tolls b s
  unfolding tolled
  value-charges charges each =
      sum_below-same (λ n. cond (has s n) (weight_of charges n) (pos 0)) tolled (length s) (λ n h. ap (λ z. cond (has s n) z (pos 0)) (each n h)) ∙ sym tolls_on-nodes

-- ---- charged nets

module _ (t : Tree) (w : Weights) (m : Multipliers) (charges nets : Weights) (are : AreNetsLess t w m charges nets) where
  value-nets_less : (s : NodeSet) → length s ≡ length t → value s nets ≡ net_less t w m charges s
  value-nets_less s size =
      let netted = λ (n : ℕ). cond (has s n) (weight_of nets n) (pos 0) in
      let charged = λ (n : ℕ). cond (has s n) (weight_of charges n) (pos 0) in
      let costs = λ (n : ℕ). cond (has s n) (node_cost (kind_of t n) m) (pos 0) in
      let values = λ (n : ℕ). cond (has s n) (weight_of w n) (pos 0) in
      let each = sum_below-same (λ n. (netted n +ℤ costs n) +ℤ charged n) (λ n. pos 4096 *ℤ values n) (length t) (λ n h. by n (has s n) (are.each n h)) in
      let added = sum_below-add (λ n. netted n +ℤ costs n) charged (length t) in
      let more = sum_below-add netted costs (length t) in
      let scaled = sum_below-times (pos 4096) values (length t) in
      let cost : set_cost t m s ≡ sum_below costs (length t) = set_cost-nodes t s m in
      let nets_size = ap (sum_below netted) size in
      let charges_size = ap (sum_below charged) size in
      let values_size = ap (sum_below values) size in
      omega (arith, ints, each, added, more, scaled, cost, nets_size, charges_size, values_size)
    where
      by : (n : ℕ) (i : Bool) → weight_of nets n ≡ (node_net t w 4096 m 1 n -ℤ weight_of charges n)
          → (cond i (weight_of nets n) (pos 0) +ℤ cond i (node_cost (kind_of t n) m) (pos 0)) +ℤ cond i (weight_of charges n) (pos 0) ≡ pos 4096 *ℤ cond i (weight_of w n) (pos 0)
      by n true e = omega (arith, ints, e)
      by n false e = omega (arith, ints)

  module _ (x : Fixing) (few : length t ≤ 200) where
    greatest-less : (v : ℤ) → IsGreatest (IsOpen t x) (λ s. value s nets) v → IsGreatest (IsOpen t x) (net_less t w m charges) v
    greatest-less v is =
        let (s, o, same) = is.attained in
        record {
          attained = (s, o, sym (value-nets_less s (o.0).same_length) ∙ same);
          bound = λ r ok. subst (λ z. z ≤ℤ v) (value-nets_less r (ok.0).same_length) (is.bound r ok);
        }

    small-less : (v : ℤ) → IsGreatest (IsOpen t x) (λ s. value s nets) v → (neg_ℤ (pos (200 * 2 ^ 94)) ≤ℤ v) × (v ≤ℤ pos (200 * 2 ^ 94))
    small-less v is =
        let (s, o, same) = is.attained in
        value-small t s nets v few are.small (o.0).same_length same

    -- ---- what the table says of a bidder

    pub some-greatest : (o : Option ℤ) → IfSome o (IsGreatest (IsOpen t x) (λ s. value s nets)) → IfSome o (IsGreatest (IsOpen t x) (net_less t w m charges))
    some-greatest None is = tt
    some-greatest (Some v) is = greatest-less v is

    pub some-low : (o : Option ℤ) → IfSome o (IsGreatest (IsOpen t x) (λ s. value s nets)) → IfSome o (λ v. neg_ℤ (pos (200 * 2 ^ 94)) ≤ℤ v)
    some-low None is = tt
    some-low (Some v) is = (small-less v is).0

    pub some-high : (o : Option ℤ) → IfSome o (IsGreatest (IsOpen t x) (λ s. value s nets)) → IfSome o (λ v. v ≤ℤ pos (200 * 2 ^ 94))
    some-high None is = tt
    some-high (Some v) is = (small-less v is).1

-- ---- charges at tolls

-- the greatest net less charges is that with derived goods
pub greatest-with : (ds : List Derived) (tolls : Tolls) (b : ℕ) (t : Tree) (w : Weights) (m : Multipliers) (charges : Weights) (x : Fixing) (v : ℤ)
    → ((n : ℕ) → n < length t → weight_of charges n ≡ tolls_on_node ds tolls b n)
    → IsGreatest (IsOpen t x) (net_less t w m charges) v → IsGreatest (IsOpen t x) (net_with ds tolls b t w m) v
greatest-with ds tolls b t w m charges x v each is =
    let (s, o, same) = is.attained in
    record {
      attained = (s, o, sym (net_is s (o.0).same_length) ∙ same);
      bound = λ r ok. subst (λ z. z ≤ℤ v) (net_is r (ok.0).same_length) (is.bound r ok);
    }
  where
    net_is : (s : NodeSet) → length s ≡ length t → net_less t w m charges s ≡ net_with ds tolls b t w m s
    net_is s size = omega (arith, ints, value-charges ds tolls b s charges (λ n h. each n (omega (arith, size, h))))
