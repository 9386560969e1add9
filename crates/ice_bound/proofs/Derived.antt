-- Bounds with derived goods: without tolls, with more derived goods, and at charged weights.
use Rattle.std.proofs.Common.{ℕ, zero, suc, ◌+◌, ◌<◌, ◌≤◌, ◌≡◌, Bool, true, false, cond, List, [], ◌++◌, length, take, drop, ℤ, pos, ◌+ℤ◌, ◌-ℤ◌, ◌*ℤ◌, refl, arith, ap, sym, ◌∙◌, subst, ◌⊎◌, inl, inr, length-append}
use Rattle.std.proofs.lemmas.Int.{ints}
use Rattle.std.proofs.lemmas.Bool.{cases_lt}
use Rattle.std.proofs.lemmas.List.{get_or_past, get_or_append_left, get_or-map, take_all, length-drop, length-map}
use Rattle.std.proofs.Math.ListN.{drop_of_length-le}
use Rattle.std.proofs.Math.IntN.{*ℤ-zero, zero-*ℤ, *ℤ_comm}
use Rattle.ice_defs.specs.Sum.{sum_below}
use Rattle.ice_defs.specs.Greatest.{IsGreatest}
use Rattle.ice_defs.specs.Tree.{Tree}
use Rattle.ice_defs.specs.Set.{NodeSet, Weights, has, weight_of, value, units}
use Rattle.ice_defs.specs.Fixing.{Fixing}
use Rattle.ice_defs.specs.Trade.{tree_of, weights_of, fixing_of}
use Rattle.ice_defs.specs.Bound.{Multipliers, cost, net, IsOpen, IsBound}
use Rattle.ice_defs.specs.Derived.{Derived, no_derived, derived_at, Tolls, toll_of, tolls_on, tolls_on_limits, net_with, IsBoundWith}
use Rattle.ice_defs.proofs.Sums.{sum_below-same, sum_below-add, sum_below-swap, sum_below-zero}
use Rattle.ice_defs.proofs.Products.{sum_below-times}
use Rattle.ice_defs.proofs.Multiples.{times_swap}
use Rattle.ice_bound.specs.Multipliers.{multiplier_of}
use Rattle.ice_bound.specs.Laws.{in_4096ths, PlainBoundIsBound, BoundStays, tolls_on_node, AreCharged, ChargedGivesNet}

-- ---- sums whose last terms are 0

pub sum_below-tail : (f : ℕ → ℤ) (n m : ℕ) → ((k : ℕ) → n ≤ k → f k ≡ pos 0) → sum_below f (n + m) ≡ sum_below f n
sum_below-tail f n zero none = let e : n + 0 ≡ n = omega arith in ap (sum_below f) e
sum_below-tail f n (suc m) none =
    let e : n + suc m ≡ suc (n + m) = omega arith in
    ap (sum_below f) e ∙ (omega (arith, ints, sum_below-tail f n m none, none (n + m) (omega arith)))

-- what lies behind the last toll adds nothing
pub toll-past : (tolls : Tolls) (k : ℕ) (z : ℤ) → length tolls ≤ k → toll_of tolls k *ℤ z ≡ pos 0
toll-past tolls k z h = ap (λ t. t *ℤ z) (get_or_past tolls k (pos 0) h) ∙ zero-*ℤ z

-- ---- no tolls

module _ (ds : List Derived) where
  tolls_on-none : (b : ℕ) (s : NodeSet) → tolls_on ds [] b s ≡ pos 0
  tolls_on-none b s = sum_below-zero _ (length ds) (λ k h. zero-*ℤ (value s (weights_of (derived_at ds k).amounts b)))

  limits-none : tolls_on_limits ds [] ≡ pos 0
  limits-none = sum_below-zero _ (length ds) (λ k h. zero-*ℤ (derived_at ds k).limit)

-- numbers in 4096ths cost 64 times as much
cost-4096ths : (t : Tree) (s : NodeSet) (m : Multipliers) → cost t s (in_4096ths m) ≡ pos 64 *ℤ cost t s m
cost-4096ths t s m =
    ap (sum_below (λ g. multiplier_of (in_4096ths m) g *ℤ units t s g)) (length-map m (λ z. pos 64 *ℤ z))
    ∙ sum_below-same (λ g. multiplier_of (in_4096ths m) g *ℤ units t s g) (λ g. pos 64 *ℤ (multiplier_of m g *ℤ units t s g)) (length m) each
    ∙ sum_below-times (pos 64) (λ g. multiplier_of m g *ℤ units t s g) (length m)
  where
    each : (g : ℕ) → g < length m → multiplier_of (in_4096ths m) g *ℤ units t s g ≡ pos 64 *ℤ (multiplier_of m g *ℤ units t s g)
    each g h =
        ap (λ z. z *ℤ units t s g) (get_or-map (λ z. pos 64 *ℤ z) m g (pos 0) (pos 0) h)
        ∙ *ℤ_comm (pos 64 *ℤ multiplier_of m g) (units t s g) ∙ times_swap 64 (units t s g) (multiplier_of m g)
        ∙ ap (λ z. pos 64 *ℤ z) (*ℤ_comm (units t s g) (multiplier_of m g))

-- ---- so many times as much

module _ {X : Type 0} (Is : X → Type 0) (f g : X → ℤ) (same : (x : X) → g x ≡ pos 64 *ℤ f x) where
  greatest-up : (v : ℤ) → IsGreatest Is f v → IsGreatest Is g (pos 64 *ℤ v)
  greatest-up v is = record {
    attained = (is.attained.0, is.attained.1, same is.attained.0 ∙ ap (λ z. pos 64 *ℤ z) is.attained.2);
    bound = λ x ok. omega (arith, ints, same x, is.bound x ok);
  }

  greatest-down : (v : ℤ) (is : IsGreatest Is g v) → IsGreatest Is f (f is.attained.0)
  greatest-down v is = record {
    attained = (is.attained.0, is.attained.1, refl);
    bound = λ x ok. omega (arith, ints, same x, same is.attained.0, is.attained.2, is.bound x ok);
  }

module _ (ds : List Derived) (ts : List Tree) (ws : List Weights) (m : Multipliers) (xs : List Fixing) where
  plain_net : ℕ → NodeSet → ℤ
  plain_net b = net (tree_of ts b) (weights_of ws b) m

  net_in_4096ths : ℕ → NodeSet → ℤ
  net_in_4096ths b = net_with ds [] b (tree_of ts b) (weights_of ws b) (in_4096ths m)

  nets_are : (b : ℕ) (s : NodeSet) → net_in_4096ths b s ≡ pos 64 *ℤ plain_net b s
  unfolding plain_net net_in_4096ths
  nets_are b s = omega (arith, ints, tolls_on-none ds b s, cost-4096ths (tree_of ts b) s m)

  up : (v : ℤ) → IsBound ts ws m xs v → IsBoundWith ds [] ts ws (in_4096ths m) xs v
  unfolding plain_net net_in_4096ths
  up v (total, (best, greatest, is), low, high) =
      let sum = sum_below-times (pos 64) best (length ts) in (
        pos 64 *ℤ total,
        (
          λ b. pos 64 *ℤ best b,
          λ b h. greatest-up (IsOpen (tree_of ts b) (fixing_of xs b)) (plain_net b) (net_in_4096ths b) (nets_are b) (best b) (greatest b h),
          omega (arith, ints, sum, is),
        ),
        omega (arith, ints, limits-none ds, low),
        omega (arith, ints, limits-none ds, high),
      )

  module _ (best : ℕ → ℤ) (greatest : (b : ℕ) → b < length ts → IsGreatest (IsOpen (tree_of ts b) (fixing_of xs b)) (net_in_4096ths b) (best b)) where
    -- the greatest net of a bidder that is there
    found : (b : ℕ) → (b < length ts) ⊎ (length ts ≤ b) → ℤ
    found b (inl h) = plain_net b (greatest b h).attained.0
    found b (inr h) = pos 0

    found_is : (b : ℕ) (c : (b < length ts) ⊎ (length ts ≤ b)) → b < length ts → IsGreatest (IsOpen (tree_of ts b) (fixing_of xs b)) (plain_net b) (found b c)
    unfolding found
    found_is b (inl h) l = greatest-down (IsOpen (tree_of ts b) (fixing_of xs b)) (plain_net b) (net_in_4096ths b) (nets_are b) (best b) (greatest b h)
    found_is b (inr h) l = absurd (omega (arith, h, l))

    found_sum : (b : ℕ) (c : (b < length ts) ⊎ (length ts ≤ b)) → b < length ts → best b ≡ pos 64 *ℤ found b c
    unfolding found
    found_sum b (inl h) l = omega (arith, ints, nets_are b (greatest b h).attained.0, (greatest b h).attained.2)
    found_sum b (inr h) l = absurd (omega (arith, h, l))

    each : ℕ → ℤ
    each b = found b (cases_lt b (length ts))

  down : (v : ℤ) → IsBoundWith ds [] ts ws (in_4096ths m) xs v → IsBound ts ws m xs v
  unfolding plain_net net_in_4096ths each
  down v (total, (best, greatest, is), low, high) =
      let least = each best greatest in
      let sum = sum_below-same best (λ b. pos 64 *ℤ least b) (length ts) (λ b h. found_sum best greatest b (cases_lt b (length ts)) h) in
      let times = sum_below-times (pos 64) least (length ts) in (
        sum_below least (length ts),
        (least, λ b h. found_is best greatest b (cases_lt b (length ts)) h, refl),
        omega (arith, ints, limits-none ds, sum, times, is, low),
        omega (arith, ints, limits-none ds, sum, times, is, high),
      )

pub plain_bound_is_bound : PlainBoundIsBound
plain_bound_is_bound ds ts exact ws m side v few = (
  λ is.
      subst (λ (n : Multipliers). IsBoundWith ds (drop (length exact) (in_4096ths m)) ts ws n side v) (sym front)
      (subst (λ (k : Tolls). IsBoundWith ds k ts ws (in_4096ths m) side v) (sym rest) (up ds ts ws m side v is)),
  λ is.
      down ds ts ws m side v
      (subst (λ (k : Tolls). IsBoundWith ds k ts ws (in_4096ths m) side v) rest
      (subst (λ (n : Multipliers). IsBoundWith ds (drop (length exact) (in_4096ths m)) ts ws n side v) front is)),
)
  where
    size : length (in_4096ths m) ≤ length exact
    size = omega (arith, length-map m (λ z. pos 64 *ℤ z), few)

    front : take (length exact) (in_4096ths m) ≡ in_4096ths m
    front = take_all (length exact) (in_4096ths m) size

    rest : drop (length exact) (in_4096ths m) ≡ []
    rest = drop_of_length-le (in_4096ths m) size

-- ---- more derived goods

module _ (ds es : List Derived) (tolls : Tolls) (ts : List Tree) (ws : List Weights) (m : Multipliers) (xs : List Fixing)
    (on : (b : ℕ) (s : NodeSet) → tolls_on ds tolls b s ≡ tolls_on es tolls b s) (limits : tolls_on_limits ds tolls ≡ tolls_on_limits es tolls) where
  bound-same : (v : ℤ) → IsBoundWith ds tolls ts ws m xs v → IsBoundWith es tolls ts ws m xs v
  bound-same v (total, (best, greatest, is), low, high) = (
    total,
    (
      best,
      λ b h. record {
        attained = ((greatest b h).attained.0, (greatest b h).attained.1, omega (arith, ints, on b (greatest b h).attained.0, (greatest b h).attained.2));
        bound = λ s ok. omega (arith, ints, on b s, (greatest b h).bound s ok);
      },
      is,
    ),
    omega (arith, ints, limits, low),
    omega (arith, ints, limits, high),
  )

module _ (ds more : List Derived) (tolls : Tolls) (few : length tolls ≤ length ds) where
  sum-more : (f g : ℕ → ℤ) → ((k : ℕ) → k < length ds → f k ≡ g k) → ((k : ℕ) → length ds ≤ k → g k ≡ pos 0)
      → sum_below f (length ds) ≡ sum_below g (length (ds ++ more))
  sum-more f g same none =
      sum_below-same f g (length ds) same ∙ sym (sum_below-tail g (length ds) (length more) none) ∙ sym (ap (sum_below g) (length-append ds more))

  more_on : (b : ℕ) (s : NodeSet) → tolls_on ds tolls b s ≡ tolls_on (ds ++ more) tolls b s
  more_on b s =
      sum-more (λ k. toll_of tolls k *ℤ value s (weights_of (derived_at ds k).amounts b)) (λ k. toll_of tolls k *ℤ value s (weights_of (derived_at (ds ++ more) k).amounts b))
      (λ k h. ap (λ d. let e : Derived = d in toll_of tolls k *ℤ value s (weights_of e.amounts b)) (sym (get_or_append_left ds more no_derived k h)))
      (λ k h. toll-past tolls k _ (omega (arith, few, h)))

  more_limits : tolls_on_limits ds tolls ≡ tolls_on_limits (ds ++ more) tolls
  more_limits =
      sum-more (λ k. toll_of tolls k *ℤ (derived_at ds k).limit) (λ k. toll_of tolls k *ℤ (derived_at (ds ++ more) k).limit)
      (λ k h. ap (λ d. let e : Derived = d in toll_of tolls k *ℤ e.limit) (sym (get_or_append_left ds more no_derived k h)))
      (λ k h. toll-past tolls k _ (omega (arith, few, h)))

pub bound_stays : BoundStays
bound_stays ds more ts exact ws m side v few =
    let tolls = drop (length exact) m in
    let fit : length tolls ≤ length ds = omega (arith, length-drop (length exact) m, few) in (
      bound-same ds (ds ++ more) tolls ts ws (take (length exact) m) side (more_on ds more tolls fit) (more_limits ds more tolls fit) v,
      bound-same (ds ++ more) ds tolls ts ws (take (length exact) m) side (λ b s. sym (more_on ds more tolls fit b s)) (sym (more_limits ds more tolls fit)) v,
    )

-- ---- charged weights

module _ (ds : List Derived) (tolls : Tolls) (b : ℕ) (s : NodeSet) where
  amount : ℕ → ℕ → ℤ
  amount k n = weight_of (weights_of (derived_at ds k).amounts b) n

  tolled : ℕ → ℤ
  tolled n = cond (has s n) (tolls_on_node ds tolls b n) (pos 0)

  -- a node outside pays nothing
  tolled-inside : (n : ℕ) → tolled n ≡ sum_below (λ k. toll_of tolls k *ℤ cond (has s n) (amount k n) (pos 0)) (length ds)
  unfolding tolled amount
  tolled-inside n = by (has s n)
    where
      by : (i : Bool) → cond i (tolls_on_node ds tolls b n) (pos 0) ≡ sum_below (λ k. toll_of tolls k *ℤ cond i (weight_of (weights_of (derived_at ds k).amounts b) n) (pos 0)) (length ds)
      by true = refl
      by false = sym (sum_below-zero _ (length ds) (λ k h. *ℤ-zero (toll_of tolls k)))

  tolls_on-nodes : tolls_on ds tolls b s ≡ sum_below tolled (length s)
  unfolding tolled amount
  tolls_on-nodes =
      sum_below-same (λ k. toll_of tolls k *ℤ value s (weights_of (derived_at ds k).amounts b)) (λ k. sum_below (λ n. toll_of tolls k *ℤ cond (has s n) (amount k n) (pos 0)) (length s)) (length ds)
      (λ k h. sym (sum_below-times (toll_of tolls k) (λ n. cond (has s n) (amount k n) (pos 0)) (length s)))
      ∙ sum_below-swap (λ k n. toll_of tolls k *ℤ cond (has s n) (amount k n) (pos 0)) (length ds) (length s)
      ∙ sum_below-same (λ n. sum_below (λ k. toll_of tolls k *ℤ cond (has s n) (amount k n) (pos 0)) (length ds)) tolled (length s) (λ n h. sym (tolled-inside n))

  value-charged : (w charged : Weights) → AreCharged ds tolls b w charged → length s ≡ length w → value s charged +ℤ tolls_on ds tolls b s ≡ pos 4096 *ℤ value s w
  unfolding tolled
  value-charged w charged are size =
      let charges = λ (n : ℕ). cond (has s n) (weight_of charged n) (pos 0) in
      let values = λ (n : ℕ). cond (has s n) (weight_of w n) (pos 0) in
      let each = sum_below-same (λ n. charges n +ℤ tolled n) (λ n. pos 4096 *ℤ values n) (length s) (λ n h. by n (has s n) (are.each n (omega (arith, size, h)))) in
      omega (arith, ints, each, sum_below-add charges tolled (length s), sum_below-times (pos 4096) values (length s), tolls_on-nodes)
    where
      by : (n : ℕ) (i : Bool) → weight_of charged n ≡ (pos 4096 *ℤ weight_of w n) -ℤ tolls_on_node ds tolls b n
          → cond i (weight_of charged n) (pos 0) +ℤ cond i (tolls_on_node ds tolls b n) (pos 0) ≡ pos 4096 *ℤ cond i (weight_of w n) (pos 0)
      by n true e = omega (arith, ints, e)
      by n false e = omega (arith, ints)

pub charged_gives_net : ChargedGivesNet
charged_gives_net ds tolls b t w charged m s are size = omega (arith, ints, value-charged ds tolls b s w charged are size)
