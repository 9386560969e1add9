-- A bound is above every feasible assignment that meets the fixings, and keeps the limits of
-- derived goods.
use Rattle.std.proofs.Common.{ℕ, ◌+◌, ◌<◌, ◌≤◌, ◌≡◌, Bool, true, false, List, [], ◌++◌, length, take, drop, replicate, ℤ, pos, ◌+ℤ◌, ◌-ℤ◌, ◌*ℤ◌, ◌≤ℤ◌, refl, arith, ap, ◌∙◌, length-append}
use Rattle.std.proofs.lemmas.Int.{ints, by_lt_z}
use Rattle.std.proofs.lemmas.List.{length-replicate, length-take, get_or-take, get_or-drop, get_or-append-add, get_or-replicate}
use Rattle.std.proofs.Math.ListN.{get_or-append}
use Rattle.std.proofs.Math.IntN.{*ℤ-zero}
use Rattle.ice_defs.specs.Sum.{sum_below}
use Rattle.ice_defs.specs.Tree.{Tree}
use Rattle.ice_defs.specs.Set.{Weights, value, units}
use Rattle.ice_defs.specs.Fixing.{Fixing}
use Rattle.ice_defs.specs.Trade.{Assignment, tree_of, set_of, weights_of, total_units, total_value, is_exact, IsCovered, IsFeasible, MeetsAll}
use Rattle.ice_defs.specs.Bound.{Multipliers, cost, net, IsDead, IsBound}
use Rattle.ice_defs.specs.Derived.{Derived, derived_at, KeepsLimit, Tolls, toll_of, tolls_on, tolls_on_limits, IsBoundWith, goods_alone, with_derived, flags_of}
use Rattle.ice_defs.specs.Log.{HasWrongSign}
use Rattle.ice_defs.proofs.Sums.{sum_below-same, sum_below-le, sum_below-add, sum_below-swap, sum_below-zero}
use Rattle.ice_bound.specs.declared.answer.Bound.{Bound}
use Rattle.ice_bound.specs.declared.answer.Bound.TheVariants.{Dead, AtMost}
use Rattle.ice_bound.specs.Multipliers.{multiplier_of}
use Rattle.ice_defs.specs.Conditions.{AreMultipliersOf}
use Rattle.ice_bound.specs.Answer.{IsAnswer, IsAboveAll}
use Rattle.ice_bound.specs.Laws.{BoundIsSound, DeadHasNone, BoundByIsSound}
use Rattle.ice_defs.proofs.Products.{sum_below-times, times_not_positive}
use Rattle.ice_defs.proofs.Multiples.{times_keep}

module _ (ts : List Tree) (exact : List Bool) (ws : List Weights) (m : Multipliers) (xs : List Fixing) (a : Assignment)
    (goods : length m ≤ length exact) (signs : ¬ HasWrongSign exact m) (feasible : IsFeasible ts exact a) (meets : MeetsAll a xs) where
  -- the units of a good cost at most 0: there are none left over of an exact one, and others have
  -- no negative multiplier
  good_cost-le : (g : ℕ) → g < length m → (multiplier_of m g *ℤ total_units ts a g) ≤ℤ pos 0
  good_cost-le g h =
      by (is_exact exact g) (feasible.balanced g (omega (arith, goods, h)))
      (λ plain. by_lt_z (multiplier_of m g) (pos 0) (λ below. absurd (signs (g, omega (arith, goods, h), plain, below))) (λ above. above))
    where
      by : (b : Bool) → IsCovered b (total_units ts a g) (pos 0) → (b ≡ false → pos 0 ≤ℤ multiplier_of m g) → (multiplier_of m g *ℤ total_units ts a g) ≤ℤ pos 0
      by true none sign = omega (arith, ints, ap (λ z. multiplier_of m g *ℤ z) none ∙ *ℤ-zero (multiplier_of m g))
      by false low sign = times_not_positive _ _ (sign refl) low

  costs : ℕ → ℤ
  costs b = cost (tree_of ts b) (set_of a b) m

  -- the bidders' costs sum to at most 0
  costs-le : sum_below costs (length ts) ≤ℤ pos 0
  unfolding costs
  costs-le =
      let by_good = λ (g : ℕ). multiplier_of m g *ℤ total_units ts a g in
      let swapped = sum_below-swap (λ b g. multiplier_of m g *ℤ units (tree_of ts b) (set_of a b) g) (length ts) (length m) in
      let each = sum_below-same (λ g. sum_below (λ b. multiplier_of m g *ℤ units (tree_of ts b) (set_of a b) g) (length ts)) by_good (length m)
      (λ g h. sum_below-times (multiplier_of m g) (λ b. units (tree_of ts b) (set_of a b) g) (length ts)) in
      let none = sum_below-le by_good (λ _. pos 0) (length m) good_cost-le in
      omega (arith, ints, swapped, each, none, sum_below-zero (λ _. pos 0) (length m) (λ k h. refl))

  values : ℕ → ℤ
  values b = value (set_of a b) (weights_of ws b)

  module _ (ds : List Derived) (tolls : Tolls) (some : (k : ℕ) → k < length ds → pos 0 ≤ℤ toll_of tolls k)
      (kept : (k : ℕ) → k < length ds → KeepsLimit a (derived_at ds k)) where
    paid : ℕ → ℤ
    paid b = tolls_on ds tolls b (set_of a b)

    -- what keeps the limits pays no more tolls than there are on the limits
    paid-le : sum_below paid (length a) ≤ℤ tolls_on_limits ds tolls
    unfolding paid
    paid-le =
        let taken = λ (k : ℕ). toll_of tolls k *ℤ total_value a (derived_at ds k).amounts in
        let swapped = sum_below-swap (λ b k. toll_of tolls k *ℤ value (set_of a b) (weights_of (derived_at ds k).amounts b)) (length a) (length ds) in
        let each = sum_below-same (λ k. sum_below (λ b. toll_of tolls k *ℤ value (set_of a b) (weights_of (derived_at ds k).amounts b)) (length a)) taken (length ds)
        (λ k h. sum_below-times (toll_of tolls k) (λ b. value (set_of a b) (weights_of (derived_at ds k).amounts b)) (length a)) in
        let most = sum_below-le taken (λ k. toll_of tolls k *ℤ (derived_at ds k).limit) (length ds)
        (λ k h. times_keep (toll_of tolls k) (total_value a (derived_at ds k).amounts) (derived_at ds k).limit (some k h) (kept k h)) in
        omega (arith, ints, swapped, each, most)

    -- in parts of any size, no sum of greatest nets is below the value
    nets-le : (parts : ℕ) (best : ℕ → ℤ) → ((b : ℕ) → b < length ts → (((pos parts *ℤ values b) -ℤ costs b) -ℤ paid b) ≤ℤ best b)
        → (pos parts *ℤ total_value a ws) ≤ℤ (sum_below best (length ts) +ℤ tolls_on_limits ds tolls)
    unfolding values
    nets-le parts best most =
        let nets = λ (b : ℕ). ((pos parts *ℤ values b) -ℤ costs b) -ℤ paid b in
        let each = sum_below-le nets best (length ts) most in
        let whole = sum_below-same (λ b. (nets b +ℤ costs b) +ℤ paid b) (λ b. pos parts *ℤ values b) (length ts) (λ b h. omega (arith, ints)) in
        let added = sum_below-add (λ b. nets b +ℤ costs b) paid (length ts) in
        let more = sum_below-add nets costs (length ts) in
        let times = sum_below-times (pos parts) values (length ts) in
        let same = ap (λ n. pos parts *ℤ sum_below values n) feasible.same_length in
        let same_paid = ap (sum_below paid) feasible.same_length in
        omega (arith, ints, each, whole, added, more, times, same, same_paid, costs-le, paid-le)

    bound_with-ge : (v : ℤ) → IsBoundWith ds tolls ts ws m xs v → total_value a ws ≤ℤ v
    unfolding costs values paid
    bound_with-ge v (total, (best, greatest, is), low, high) =
        omega (arith, ints, is, low, high, nets-le 4096 best (λ b h. (greatest b h).bound (set_of a b) (feasible.satisfied b h, meets b (omega (arith, feasible.same_length)))))

  pub bound-ge : (v : ℤ) → IsBound ts ws m xs v → total_value a ws ≤ℤ v
  unfolding costs values paid
  bound-ge v (total, (best, greatest, is), low, high) =
      let most : (b : ℕ) → b < length ts → net (tree_of ts b) (weights_of ws b) m (set_of a b) ≤ℤ best b
      = λ b h. (greatest b h).bound (set_of a b) (feasible.satisfied b h, meets b (omega (arith, feasible.same_length))) in
      omega (arith, ints, is, low, high, nets-le [] [] (λ k h. absurd (omega (arith, h))) (λ k h. absurd (omega (arith, h))) 64 best (λ b h. omega (arith, ints, most b h)))

pub none_dead : (ts : List Tree) (exact : List Bool) (xs : List Fixing) (b : ℕ) (a : Assignment) → b < length ts → IsDead ts xs b → IsFeasible ts exact a → ¬ MeetsAll a xs
none_dead ts exact xs b a l dead feasible meets = dead (set_of a b) (feasible.satisfied b l, meets b (omega (arith, feasible.same_length)))

pub bound_is_sound : BoundIsSound
bound_is_sound ts exact ws m side v a goods signs is feasible meets = bound-ge ts exact ws m side a (omega (arith, goods)) signs feasible meets v is

pub dead_has_none : DeadHasNone
dead_has_none ts exact side b a l dead feasible meets = none_dead ts exact side b a l dead feasible meets

-- an answer is above all
pub answer_above : (ts : List Tree) (exact : List Bool) (ws : List Weights) (m : Multipliers) (xs : List Fixing) (bound : Bound) → AreMultipliersOf exact m
    → IsAnswer ts ws m xs bound → IsAboveAll ts exact ws xs bound
answer_above ts exact ws m xs (Dead b) fit is a feasible meets = none_dead ts exact xs b a is.there is.dead feasible meets
answer_above ts exact ws m xs (AtMost v) fit is a feasible meets = bound_is_sound ts exact ws m xs v a fit.same_length fit.signs is feasible meets

-- ---- the numbers of a leaf

module _ (exact : List Bool) (ds : List Derived) (m : Multipliers) (signs : ¬ HasWrongSign (flags_of (with_derived ds) exact) m) where
  flags : List Bool
  flags = exact ++ replicate (length ds) false

  size : length flags ≡ length exact + length ds
  unfolding flags
  size = length-append exact (replicate (length ds) false) ∙ ap (λ n. length exact + n) (length-replicate (length ds) false)

  -- no good that isn't exact has a negative multiplier
  goods_signs : ¬ HasWrongSign exact (take (length exact) m)
  unfolding flags
  goods_signs (g, there, plain, below) =
      let same : multiplier_of (take (length exact) m) g ≡ multiplier_of m g = get_or-take (length exact) m g (pos 0) there in
      signs (g, omega (arith, size, there), get_or-append exact (replicate (length ds) false) false g there ∙ plain, omega (arith, ints, same, below))

  -- and no toll is negative
  tolls_signs : (k : ℕ) → k < length ds → pos 0 ≤ℤ toll_of (drop (length exact) m) k
  unfolding flags
  tolls_signs k h =
      let same : toll_of (drop (length exact) m) k ≡ multiplier_of m (length exact + k) = get_or-drop (length exact) m k (pos 0) in
      by_lt_z (toll_of (drop (length exact) m) k) (pos 0)
      (λ below. absurd (signs (
        length exact + k,
        omega (arith, size, h),
        get_or-append-add exact (replicate (length ds) false) k false ∙ get_or-replicate (length ds) k false false h,
        omega (arith, ints, same, below),
      )))
      (λ above. above)

pub bound_by_is_sound : BoundByIsSound
bound_by_is_sound goods_alone ts exact ws m side v a counts signs is feasible kept meets = bound_is_sound ts exact ws m side v a counts signs is feasible meets
bound_by_is_sound (with_derived ds) ts exact ws m side v a counts signs is feasible kept meets =
    bound_with-ge ts exact ws (take (length exact) m) side a (omega (arith, length-take (length exact) m)) (goods_signs exact ds m signs) feasible meets
    ds (drop (length exact) m) (tolls_signs exact ds m signs) kept v is
