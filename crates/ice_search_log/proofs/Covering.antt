-- A feasible assignment that meets a side meets one child of it, and not
-- both; so one that meets the start meets a part that isn't split.
use Rattle.std.proofs.Common.{ℕ, suc, ◌<◌, ◌≤◌, ◌≡◌, Bool, true, false, List, length, replicate, Some, None, ◌≤ℤ◌, arith, sym, subst, ◌⊎◌, inl, inr, length-append}
use Rattle.std.specs.List.{Contains}
use Rattle.std.proofs.lemmas.Int.{ints}
use Rattle.std.proofs.lemmas.List.{length-replicate}
use Rattle.std.proofs.lemmas.Bool.{cases_Bool, both_ways, false≢true}
use Rattle.ice_defs.specs.declared.Mark.TheVariants.{Must, Never}
use Rattle.ice_defs.specs.Tree.{Tree}
use Rattle.ice_defs.specs.Set.{has, Weights}
use Rattle.ice_defs.specs.Fixing.{Agrees}
use Rattle.ice_defs.specs.Trade.{Assignment, set_of, fixing_of, total_value, IsFeasible, MeetsAll}
use Rattle.ice_defs.specs.Bound.{Multipliers}
use Rattle.ice_defs.specs.Derived.{Means, goods_alone, with_derived, flags_of}
use Rattle.ice_defs.specs.Steps.{Side, with_mark}
use Rattle.ice_defs.specs.Log.{IsFreeNode}
use Rattle.ice_defs.specs.Conditions.{AreFixingsOf}
use Rattle.ice_bound.specs.Laws.{IsCounted}
use Rattle.ice_bound.proofs.Above.{bound_by_is_sound}
use Rattle.ice_refute.proofs.Refutes.{meets_all_put, limits_are_kept}
use Rattle.ice_refute.proofs.Kept.{mark_of-with_mark}
use Rattle.ice_search_log.specs.Parts.{Split, Part, part_at, AreLater, side_at, never_stops}
use Rattle.ice_search_log.specs.Searching.{HasNumbers, IsSearch}
use Rattle.ice_search_log.specs.Laws.{MeetsOne, SplitCovers, CoverIsWhole, BestIsBelow}
use Rattle.ice_search_log.proofs.Sides.{side_at-root}
use Rattle.ice_search_log.proofs.Written.{by_parts}

-- one child is met
pub meets_child : (ts : List Tree) (exact : List Bool) (side : Side) (b n : ℕ) (a : Assignment) → b < length ts → IsFeasible ts exact a → MeetsAll a side
    → MeetsAll a (with_mark side b n Must) ⊎ MeetsAll a (with_mark side b n Never)
meets_child ts exact side b n a l feasible meets = by (cases_Bool (has (set_of a b) n))
  where
    there : b < length a
    there = omega (arith, l, feasible.same_length)

    by : (has (set_of a b) n ≡ true) ⊎ (has (set_of a b) n ≡ false) → MeetsAll a (with_mark side b n Must) ⊎ MeetsAll a (with_mark side b n Never)
    by (inl e) = inl (meets_all_put a side b n Must meets there e)
    by (inr e) = inr (meets_all_put a side b n Never meets there e)

-- and the other isn't
not_both : (ts : List Tree) (exact : List Bool) (side : Side) (b n : ℕ) (a : Assignment) → AreFixingsOf ts side → IsFreeNode ts side b n → IsFeasible ts exact a
    → MeetsAll a (with_mark side b n Must) → MeetsAll a (with_mark side b n Never) → ⊥
not_both ts exact side b n a are free feasible must never = both_ways (has (set_of a b) n) outside inside
  where
    there : b < length side
    there = omega (arith, are.same_length, free.0)

    node : n < length (fixing_of side b)
    node = omega (arith, are.nodes b free.0, free.1)

    chosen : b < length a
    chosen = omega (arith, feasible.same_length, free.0)

    size : n < length (set_of a b)
    size = omega (arith, (feasible.satisfied b free.0).same_length, free.1)

    inside : has (set_of a b) n ≡ true
    inside = subst (λ y. Agrees y (has (set_of a b) n)) (mark_of-with_mark side b n Must there node) (must b chosen n size)

    outside : has (set_of a b) n ≡ false
    outside = subst (λ y. Agrees y (has (set_of a b) n)) (mark_of-with_mark side b n Never there node) (never b chosen n size)

pub split_covers : SplitCovers
split_covers ts exact side b n a are free feasible meets = by (meets_child ts exact side b n a free.0 feasible meets)
  where
    by : MeetsAll a (with_mark side b n Must) ⊎ MeetsAll a (with_mark side b n Never) → MeetsOne a (with_mark side b n Must) (with_mark side b n Never)
    by (inl must) = inl (must, λ never. not_both ts exact side b n a are free feasible must never)
    by (inr never) = inr (never, λ must. not_both ts exact side b n a are free feasible must never)

-- such numbers are as many as a bound wants, and no more than those it looks at
pub as_wanted : (means : Means) (exact : List Bool) (m : Multipliers) → HasNumbers means exact m → IsCounted means exact m × (length m ≤ length (flags_of means exact))
as_wanted goods_alone exact m has = (has, omega (arith, has))
as_wanted (with_derived ds) exact m has = (tt, omega (arith, has, length-append exact (replicate (length ds) false), length-replicate (length ds) false))

module _ (means : Means) (ts : List Tree) (exact : List Bool) (ws : List Weights) (start : Side) (first : Assignment) (parts : List Part) (is : IsSearch means ts exact ws start first parts) where
  pub later : AreLater parts
  later k s l has = let split = is.splits k s l has in (split.after, split.inside)

  module _ (a : Assignment) (feasible : IsFeasible ts exact a) where
    -- a part that isn't split, and that is met
    abbrev MeetsWhole : Type 0
    MeetsWhole = (k : ℕ) × (k < length parts) × ((part_at parts k).split ≡ None) × MeetsAll a (side_at start parts k)

    pub meets_whole : MeetsAll a start → MeetsWhole
    meets_whole meets =
        by_parts never_stops parts (λ k log. MeetsAll a (side_at start parts k) → MeetsWhole) later
        (λ k l whole. on_leaf k l whole)
        (λ k s xs ys l has must never. on_split k s l has must never)
        (length parts) 0 is.root (omega arith) (subst (MeetsAll a) (sym (side_at-root start parts is.root)) meets)
      where
        on_leaf : (k : ℕ) → k < length parts → (false ≡ true) ⊎ ((part_at parts k).split ≡ None) → MeetsAll a (side_at start parts k) → MeetsWhole
        on_leaf k l (inl e) met = absurd (false≢true e)
        on_leaf k l (inr whole) met = (k, l, whole, met)

        on_split : (k : ℕ) (s : Split) → k < length parts → (part_at parts k).split ≡ Some s → (MeetsAll a (side_at start parts s.must) → MeetsWhole)
            → (MeetsAll a (side_at start parts (suc s.must)) → MeetsWhole) → MeetsAll a (side_at start parts k) → MeetsWhole
        on_split k s l has must never met = by (meets_child ts exact (side_at start parts k) s.bidder s.node a (is.splits k s l has).free.0 feasible met)
          where
            by : MeetsAll a (with_mark (side_at start parts k) s.bidder s.node Must) ⊎ MeetsAll a (with_mark (side_at start parts k) s.bidder s.node Never) → MeetsWhole
            by (inl m) = must (subst (MeetsAll a) (sym (is.splits k s l has).must) m)
            by (inr m) = never (subst (MeetsAll a) (sym (is.splits k s l has).never) m)

  -- a key is above what meets its part
  pub key-ge : (k : ℕ) (a : Assignment) → k < length parts → IsFeasible ts exact a → MeetsAll a (side_at start parts k) → total_value a ws ≤ℤ (part_at parts k).key
  key-ge k a l feasible meets =
      let part = is.each k l in
      bound_by_is_sound means ts exact ws (part_at parts k).m (side_at start parts k) (part_at parts k).key a (as_wanted means exact (part_at parts k).m part.counts).0 part.signs part.bound feasible
      (limits_are_kept means ts exact a is.lawful feasible) meets

pub cover_is_whole : CoverIsWhole
cover_is_whole means ts exact ws start first parts open_parts value is each a feasible meets =
    let (k, l, whole, met) = meets_whole means ts exact ws start first parts is a feasible meets in
    by k l met (each k l whole)
  where
    by : (k : ℕ) → k < length parts → MeetsAll a (side_at start parts k) → ((part_at parts k).key ≤ℤ value) ⊎ Contains open_parts k
        → (total_value a ws ≤ℤ value) ⊎ ((k : ℕ) × (k < length parts) × Contains open_parts k × MeetsAll a (side_at start parts k))
    by k l met (inl low) = inl (omega (arith, ints, low, key-ge means ts exact ws start first parts is k a l feasible met))
    by k l met (inr listed) = inr (k, l, listed, met)

pub best_is_below : BestIsBelow
best_is_below means ts exact ws start first parts bound is each a feasible meets =
    let (k, l, whole, met) = meets_whole means ts exact ws start first parts is a feasible meets in
    omega (arith, ints, each k l whole, key-ge means ts exact ws start first parts is k a l feasible met)
