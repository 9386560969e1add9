-- The greatest sale, over the list of all sets and over the satisfied sets, and sales as weights.
use Rattle.std.proofs.Common.{ℕ, zero, suc, ◌+◌, ◌*◌, ◌<◌, ◌≤◌, ◌≡◌, Bool, true, false, cond, List, [], ◌∷◌, length, map, replicate, ℤ, pos, neg_ℤ, ◌+ℤ◌, ◌≤ℤ◌, refl, arith, ap, sym, ◌∙◌, ◌⊎◌, inl, inr, subst, set, below_more}
use Rattle.std.specs.List.{Contains, filter}
use Rattle.std.proofs.lemmas.Int.{ints, fold-int_max_bounds, fold-int_max_reached}
use Rattle.std.proofs.lemmas.List.{length-map, get_or-map}
use Rattle.std.proofs.lemmas.List.Elements.{Contains-append_left, Contains-append_right, All-contains, filter_passes}
use mir.Syntax.{w64}
use mir.Val.{SFits}
use Rattle.ice_defs.specs.declared.Mark.TheVariants.{Free}
use Rattle.ice_defs.specs.Sum.{sum_below}
use Rattle.ice_defs.specs.Tree.{Tree, kind_of}
use Rattle.ice_defs.specs.Set.{NodeSet, has, IsSatisfied, Weights, weight_of, value, leaf_units, units}
use Rattle.ice_defs.specs.SetFault.{is_satisfied}
use Rattle.ice_defs.specs.Sale.{all_sets, satisfied_sets, greatest_sale}
use Rattle.ice_defs.specs.Fixing.{Fixing, Meets}
use Rattle.ice_defs.specs.Bound.{IsOpen}
use Rattle.ice_defs.specs.Greatest.{IsGreatest}
use Rattle.ice_defs.proofs.Sums.{sum_below-add, sum_below-zero, sum_below-low, sum_below-high}
use Rattle.ice_best.proofs.NewEntry.{weight_of-put_same, weight_of-put_other}
use Rattle.ice_best.proofs.Deciding.{is_satisfied-true, is_satisfied-from}
use Rattle.ice_defs.proofs.NodeSets.{meets_free}
use Rattle.ice_defs.proofs.EmptySets.{empty_satisfied, units-empty}

-- ---- lists

Contains-map : {X Y : Type 0} (f : X → Y) (xs : List X) (x : X) → Contains xs x → Contains (map f xs) (f x)
Contains-map f xs x (k, h, e) = (k, omega (arith, length-map xs f), get_or-map f xs k x (f x) h ∙ ap f e)

from_map : {X Y : Type 0} (f : X → Y) (xs : List X) (y : Y) → Contains (map f xs) y → (x : X) × Contains xs x × (f x ≡ y)
from_map f [] y (k, h, e) = absurd (omega (arith, h))
from_map f (x ∷ xs) y (zero, h, e) = (x, (0, omega arith, refl), e)
from_map f (x ∷ xs) y (suc k, h, e) =
    let (z, (j, l, i), same) = from_map f xs y (k, omega (arith, h), e) in
    (z, (suc j, omega (arith, l), i), same)

Contains-filter : {X : Type 0} (p : X → Bool) (xs : List X) (x : X) → p x ≡ true → Contains xs x → Contains (filter p xs) x
Contains-filter p [] x passes (k, h, e) = absurd (omega (arith, h))
Contains-filter {X} p (y ∷ ys) x passes (zero, h, e) =
    subst (λ b. Contains (cond b (y ∷ filter p ys) (filter p ys)) x) (sym (ap p e ∙ passes)) (0, omega arith, e)
Contains-filter {X} p (y ∷ ys) x passes (suc k, h, e) = by (p y) (Contains-filter p ys x passes (k, omega (arith, h), e))
  where
    by : (b : Bool) → Contains (filter p ys) x → Contains (cond b (y ∷ filter p ys) (filter p ys)) x
    by true (j, l, i) = (suc j, omega (arith, l), i)
    by false there = there

-- each set stands in the list of all sets
pub all_sets-has : (s : NodeSet) → Contains (all_sets (length s)) s
unfolding all_sets
all_sets-has [] = (0, omega arith, refl)
all_sets-has (true ∷ s) = Contains-append_right (map (λ r. false ∷ r) (all_sets (length s))) _ (true ∷ s) (Contains-map (λ r. true ∷ r) (all_sets (length s)) s (all_sets-has s))
all_sets-has (false ∷ s) = Contains-append_left _ _ (false ∷ s) (Contains-map (λ r. false ∷ r) (all_sets (length s)) s (all_sets-has s))

-- ---- the greatest sale

-- of the same things there is one greatest size
pub greatest_unique : {X : Type 0} {Is : X → Type 0} {size : X → ℤ} (v w : ℤ) → IsGreatest Is size v → IsGreatest Is size w → v ≡ w
greatest_unique {X} {Is} {size} v w a b =
    let under = b.bound a.attained.0 a.attained.1 in
    let over = a.bound b.attained.0 b.attained.1 in
    omega (arith, ints, under, over, a.attained.2, b.attained.2)

module _ (t : Tree) (g : ℕ) where
  sold : NodeSet → ℤ
  sold s = neg_ℤ (units t s g)

  satisfied_there : (s : NodeSet) → IsSatisfied t s → Contains (satisfied_sets t) s
  unfolding satisfied_sets
  satisfied_there s sat =
      Contains-filter (is_satisfied t) (all_sets (length t)) s (is_satisfied-from t s sat)
      (subst (λ n. Contains (all_sets n) s) sat.same_length (all_sets-has s))

  there_satisfied : (s : NodeSet) → Contains (satisfied_sets t) s → IsSatisfied t s
  unfolding satisfied_sets
  there_satisfied s there = is_satisfied-true t s (All-contains (λ r. is_satisfied t r ≡ true) (satisfied_sets t) s (filter_passes (is_satisfied t) (all_sets (length t))) there)

  pub greatest_sale-greatest : IsGreatest (IsSatisfied t) (λ s. neg_ℤ (units t s g)) (greatest_sale t g)
  unfolding greatest_sale sold
  greatest_sale-greatest = record {
    attained = attained (fold-int_max_reached (pos 0) (map sold (satisfied_sets t)) _ refl);
    bound = λ s sat.
        All-contains (λ z. z ≤ℤ greatest_sale t g) (map sold (satisfied_sets t)) (sold s) (fold-int_max_bounds (pos 0) (map sold (satisfied_sets t)) _ refl).1
        (Contains-map sold (satisfied_sets t) s (satisfied_there s sat));
  }
    where
      attained : (greatest_sale t g ≡ pos 0) ⊎ Contains (map sold (satisfied_sets t)) (greatest_sale t g)
          → (s : NodeSet) × IsSatisfied t s × (neg_ℤ (units t s g) ≡ greatest_sale t g)
      attained (inl none) = (replicate (length t) false, empty_satisfied t, omega (arith, ints, none, units-empty t g))
      attained (inr some) =
          let (s, there, same) = from_map sold (satisfied_sets t) _ some in
          (s, there_satisfied s there, same)

  pub greatest_sale-not_negative : pos 0 ≤ℤ greatest_sale t g
  unfolding greatest_sale
  greatest_sale-not_negative = (fold-int_max_bounds (pos 0) (map (λ s. neg_ℤ (units t s g)) (satisfied_sets t)) _ refl).0

-- ---- sales as weights

value-sold : (t : Tree) (s : NodeSet) (w : Weights) (g : ℕ) → ((n : ℕ) → n < length t → weight_of w n ≡ neg_ℤ (leaf_units (kind_of t n) g)) → length s ≡ length t
    → value s w ≡ neg_ℤ (units t s g)
value-sold t s w g each size =
    let sold = λ (n : ℕ). cond (has s n) (weight_of w n) (pos 0) in
    let bought = λ (n : ℕ). cond (has s n) (leaf_units (kind_of t n) g) (pos 0) in
    let none = sum_below-zero (λ n. sold n +ℤ bought n) (length t) (λ n h. by n (has s n) (each n h)) in
    let added = sum_below-add sold bought (length t) in
    let same = ap (sum_below sold) size in
    omega (arith, ints, none, added, same)
  where
    by : (n : ℕ) (b : Bool) → weight_of w n ≡ neg_ℤ (leaf_units (kind_of t n) g) → cond b (weight_of w n) (pos 0) +ℤ cond b (leaf_units (kind_of t n) g) (pos 0) ≡ pos 0
    by n true e = omega (arith, ints)
    by n false e = refl

-- the empty set is open where every node is free
pub empty_open : (t : Tree) (x : Fixing) → x ≡ replicate (length t) Free → IsOpen t x (replicate (length t) false)
empty_open t x e = (empty_satisfied t, subst (Meets (replicate (length t) false)) (sym e) (meets_free (replicate (length t) false) (length t)))

pub sale_greatest : (t : Tree) (w : Weights) (x : Fixing) (g : ℕ) (v : ℤ)
    → ((n : ℕ) → n < length t → weight_of w n ≡ neg_ℤ (leaf_units (kind_of t n) g)) → x ≡ replicate (length t) Free
    → IsGreatest (IsOpen t x) (λ s. value s w) v → IsGreatest (IsSatisfied t) (λ s. neg_ℤ (units t s g)) v
sale_greatest t w x g v each free is =
    let (s, (sat, meets), same) = is.attained in
    record {
      attained = (s, sat, omega (arith, ints, same, value-sold t s w g each sat.same_length));
      bound = λ r ok.
          let under = is.bound r (ok, subst (Meets r) (sym free) (meets_free r (length t))) in
          omega (arith, ints, under, value-sold t r w g each ok.same_length);
    }

-- what is sold at most is no more than the nodes' weights allow
pub sale-small : (t : Tree) (w : Weights) (x : Fixing) (v : ℤ) → length t ≤ 200
    → ((n : ℕ) → n < length t → neg_ℤ (pos 65535) ≤ℤ weight_of w n) → ((n : ℕ) → n < length t → weight_of w n ≤ℤ pos 65535)
    → IsGreatest (IsOpen t x) (λ s. value s w) v → (neg_ℤ (pos (200 * 65535)) ≤ℤ v) × (v ≤ℤ pos (200 * 65535))
sale-small t w x v few low high is =
    let (s, (sat, meets), same) = is.attained in
    let term = λ (n : ℕ). cond (has s n) (weight_of w n) (pos 0) in
    let under = sum_below-low term (length s) 65535 (λ n h. low_at (has s n) n (low n (omega (arith, sat.same_length)))) in
    let over = sum_below-high term (length s) 65535 (λ n h. high_at (has s n) n (high n (omega (arith, sat.same_length)))) in
    (omega (arith, ints, same, under, sat.same_length), omega (arith, ints, same, over, sat.same_length))
  where
    low_at : (b : Bool) (n : ℕ) → neg_ℤ (pos 65535) ≤ℤ weight_of w n → neg_ℤ (pos 65535) ≤ℤ cond b (weight_of w n) (pos 0)
    low_at true n h = h
    low_at false n h = omega (arith, ints)

    high_at : (b : Bool) (n : ℕ) → weight_of w n ≤ℤ pos 65535 → cond b (weight_of w n) (pos 0) ≤ℤ pos 65535
    high_at true n h = h
    high_at false n h = omega (arith, ints)

-- a write to the next weight keeps what held of each before it
pub put_each : (w : Weights) (n : ℕ) (v : ℤ) (P : ℕ → ℤ → Type 0) → n < length w → ((k : ℕ) → k < n → P k (weight_of w k)) → P n v
    → (k : ℕ) → k < n + 1 → P k (weight_of (set w n v) k)
put_each w n v P h before here =
    below_more (λ k. P k (weight_of (set w n v) k)) n
    (λ k l. subst (P k) (sym (weight_of-put_other w n k v (omega arith))) (before k l))
    (subst (P n) (sym (weight_of-put_same w n v h)) here)

pub sale_fits : (v : ℤ) → neg_ℤ (pos (200 * 65535)) ≤ℤ v → v ≤ℤ pos (200 * 65535) → SFits w64 v
sale_fits v low high = record { sfits = grind (arith, ints, low, high) }
