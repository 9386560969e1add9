-- A change of a node's gain followed to the entry of its parent.
use Rattle.std.proofs.Common.{ℕ, ◌+◌, ◌*◌, ◌^◌, ◌<◌, ◌≤◌, ◌≡◌, ◌≢◌, Bool, true, false, cond, eqb, length, set, ℤ, pos, ◌+ℤ◌, ◌-ℤ◌, refl, arith, rules, ap, sym, ◌∙◌, ◌⊎◌, inl, inr, ⊎_elim, subst}
use mir.Syntax.{w128}
use mir.Val.{SFits}
use Rattle.std.proofs.lemmas.Int.{ints}
use Rattle.std.proofs.lemmas.Bool.{cases_eq, cases_lt, both_ways, and_from, lt-ltb, eq-eqb, ne_eqb, true_from_ne_false}
use Rattle.ice_defs.specs.Tree.{Tree, IsTree, kind_of, parent_of, is_child, children_of, least_of, most_of}
use Rattle.ice_defs.specs.Set.{Weights, has, weight_of, IsSmall}
use Rattle.ice_defs.specs.Fixing.{Fixing}
use Rattle.ice_best.specs.declared.table.Table.{Table}
use Rattle.ice_best.specs.Choice.{picked_sum, IsGainSmall, IsBestChoice}
use Rattle.ice_best.specs.Table.{IsOpenEntry, IsEntry}
use Rattle.ice_best.specs.Roots.{size_of, IsRoomy}
use Rattle.ice_best.specs.Entries.{HasEntry, AreEntries, AreOtherEntries, ChangesEntry}
use Rattle.ice_best.specs.Rise.{IsRightBefore, IsDifference, IsFollowed, WasTableOf, MayStay}
use Rattle.ice_best.proofs.Children.{filter_at}
use Rattle.ice_best.proofs.Frame.{Agree, IsChoice-same, IsBestChoice-same, IsEntry-same, picked_sum-same, children_size-same}
use Rattle.ice_best.proofs.Bounding.{child_after}
use Rattle.ice_best.proofs.Roots.{size_of-gain, size_of-zero, size_of-bounds, children_size-le}
use Rattle.ice_best.proofs.NewEntry.{later_roomy, weight_of-put_same, weight_of-put_other}
use Rattle.ice_best.proofs.Renewing.{others_at_first, others_above}
use Rattle.ice_best.proofs.Rising.{rise_is, stays_best}

-- the gain of a right entry is small
gain_small : (t : Tree) (w : Weights) (x : Fixing) (table : Table) (n : ℕ) → IsTree t → length t ≤ 200 → n < length t
    → AreEntries t w x table n → IsGainSmall (weight_of table.gain n)
gain_small t w x table n tree few l entries =
    let roomy = later_roomy t w x table n tree few l (λ k h l'. entries k (omega (arith, h)) l') in
    let below = children_size-le t (weight_of table.gain) n tree l few roomy in
    let own = (entries n (omega arith) l).small_gain in
    let bounds = size_of-bounds (weight_of table.gain n) (pos (200 * 2 ^ 94)) (omega (arith, ints, below, own, roomy.room)) in
    record { low = bounds.0; high = bounds.1 }

-- a gain fits, and so does what two gains differ by
pub gain_fits_signed : (z : ℤ) → IsGainSmall z → SFits w128 z
gain_fits_signed z small =
    let low = small.low in
    let high = small.high in
    search (rules, ints, arith)

pub difference_fits : (z : ℤ) → IsDifference z → SFits w128 z
difference_fits z is =
    let low = is.low in
    let high = is.high in
    search (rules, ints, arith)

pub difference : (a b : ℤ) → IsGainSmall a → IsGainSmall b → IsDifference (a -ℤ b)
difference a b small small' =
    record { low = omega (arith, ints, small.low, small'.high); high = omega (arith, ints, small.high, small'.low) }

pub IsSmall-gain : (z : ℤ) → IsSmall z → IsGainSmall z
IsSmall-gain z small = record { low = omega (arith, ints, small.low); high = omega (arith, ints, small.high) }

-- where the entry of p changed and is right, the change is followed from there
module _ (t : Tree) (w : Weights) (x : Fixing) (old new : Table) (p : ℕ) (more : ℤ) (tree : IsTree t) (few : length t ≤ 200) (l : p < length t)
    (others : AreOtherEntries t w x old p) (changes : ChangesEntry t p old new)
    (needed_same : has new.needed p ≡ has old.needed p) (possible_same : has new.possible p ≡ has old.possible p)
    (entries : AreEntries t w x new p) (adds : (weight_of old.gain p +ℤ more) ≡ weight_of new.gain p)
    (small : (k : ℕ) → k ≤ p → IsGainSmall (weight_of old.gain k)) where
  flags : (c : ℕ) → (has new.needed c ≡ has old.needed c) × (has new.possible c ≡ has old.possible c)
  flags c = by (cases_eq c p)
    where
      by : (c ≡ p) ⊎ (c ≡ p → ⊥) → (has new.needed c ≡ has old.needed c) × (has new.possible c ≡ has old.possible c)
      by (inl e) = subst (λ k. (has new.needed k ≡ has old.needed k) × (has new.possible k ≡ has old.possible k)) (sym e) (needed_same, possible_same)
      by (inr ne) = (changes.needed_same c ne, changes.possible_same c ne)

  module _ (inner : 0 < p) where
    parent_first : parent_of t p < p
    parent_first = tree.parent_first p inner l

    right_before : IsRightBefore t w x new p (parent_of t p) more
    right_before g here other =
        IsEntry-same t w x (weight_of old.gain) g (has old.needed) (has new.needed) (has old.possible) (has new.possible) (has old.taken) (has new.taken) (parent_of t p)
        (λ c h child. (as_old c, (flags c).0, (flags c).1, taken_same c h child))
        (as_old (parent_of t p)) (flags (parent_of t p)).0 (flags (parent_of t p)).1
        (others (parent_of t p) (omega (arith, parent_first)) (omega (arith, parent_first)))
      where
        as_old : (c : ℕ) → g c ≡ weight_of old.gain c
        as_old c = by (cases_eq c p)
          where
            by : (c ≡ p) ⊎ (c ≡ p → ⊥) → g c ≡ weight_of old.gain c
            by (inl e) = subst (λ k. g k ≡ weight_of old.gain k) (sym e) (omega (arith, ints, here, adds))
            by (inr ne) = other c ne ∙ changes.gain_same c ne

        taken_same : (c : ℕ) → c < length t → is_child t (parent_of t p) c ≡ true → has new.taken c ≡ has old.taken c
        taken_same c h child =
            changes.taken_same c
            (λ j h' e.
            let at = filter_at (is_child t p) (length t) j h' in
            let mine = child_after t p _ tree at.1 at.0 in
            let after = child_after t (parent_of t p) c tree h child in
            let both : parent_of t c ≡ p = ap (parent_of t) (sym e) ∙ mine.1 in
            omega (arith, both, after.1, parent_first))

  step_up : IsFollowed t w x new p more
  step_up = record {
    others = λ k h apart. here k h apart (cases_lt 0 p);
    above = right_before;
    small = λ k h. small_at k h (cases_eq k p);
    difference =
        let before = small p (omega arith) in
        let after = gain_small t w x new p tree few l entries in
        record { low = omega (arith, ints, adds, before.high, after.low); high = omega (arith, ints, adds, before.low, after.high) };
  }
    where
      here : (k : ℕ) → k < length t → (0 < p → k ≢ parent_of t p) → (0 < p) ⊎ (p ≤ 0) → HasEntry t w x new k
      here k h apart (inl inner) = others_above t w x old new p tree changes others entries k (apart inner) h
      here k h apart (inr root) = entries k (omega (arith, root)) h

      small_at : (k : ℕ) → k ≤ p → (k ≡ p) ⊎ (k ≡ p → ⊥) → IsGainSmall (weight_of new.gain k)
      small_at k h (inl e) = subst (λ m. IsGainSmall (weight_of new.gain m)) (sym e) (gain_small t w x new p tree few l entries)
      small_at k h (inr ne) = subst (λ z. IsGainSmall z) (sym (changes.gain_same k ne)) (small k h)

same_changes : (t : Tree) (table : Table) (n : ℕ) → ChangesEntry t n table table
same_changes t table n = record { gain_same = λ k ne. refl; needed_same = λ k ne. refl; possible_same = λ k ne. refl; taken_same = λ k ne. refl }

-- a gain that is put changes one entry
raised_changes : (t : Tree) (table : Table) (n : ℕ) (v : ℤ) → ChangesEntry t n table (record { gain = set table.gain n v; needed = table.needed; possible = table.possible; taken = table.taken })
raised_changes t table n v = record {
  gain_same = λ k ne. weight_of-put_other table.gain n k v ne;
  needed_same = λ k ne. refl;
  possible_same = λ k ne. refl;
  taken_same = λ k ne. refl;
}

-- the entries from n on, where that of n is right with its new gain
raised_entries : (t : Tree) (w : Weights) (x : Fixing) (table : Table) (n : ℕ) (v : ℤ) → IsTree t
    → ((k : ℕ) → n < k → k < length t → HasEntry t w x table k)
    → IsEntry t w x (weight_of (set table.gain n v)) (has table.needed) (has table.possible) (has table.taken) n
    → (k : ℕ) → n ≤ k → k < length t → IsEntry t w x (weight_of (set table.gain n v)) (has table.needed) (has table.possible) (has table.taken) k
raised_entries t w x table n v tree later entry k h l = by (cases_lt n k)
  where
    by : (n < k) ⊎ (k ≤ n) → IsEntry t w x (weight_of (set table.gain n v)) (has table.needed) (has table.possible) (has table.taken) k
    by (inl m) =
        IsEntry-same t w x (weight_of table.gain) (weight_of (set table.gain n v)) (has table.needed) (has table.needed) (has table.possible) (has table.possible) (has table.taken) (has table.taken) k
        (λ c h' child. let after = child_after t k c tree h' child in (weight_of-put_other table.gain n c v (omega (arith, m, after.2)), refl, refl, refl))
        (weight_of-put_other table.gain n k v (omega (arith, m))) refl refl (later k m l)
    by (inr m) =
        let e : n ≡ k = omega arith in
        subst (λ k. IsEntry t w x (weight_of (set table.gain n v)) (has table.needed) (has table.possible) (has table.taken) k) e entry

-- ---- the parent's entry

module _ (t : Tree) (w : Weights) (x : Fixing) (table : Table) (n p : ℕ) (more : ℤ) (tree : IsTree t) (few : length t ≤ 200) (l : n < length t) (inner : 0 < n)
    (parent : p ≡ parent_of t n) (followed : IsFollowed t w x table n more) where
  first : p < n
  first = omega (arith, parent, tree.parent_first n inner l)

  apart : p ≢ n
  apart = omega (arith, first)

  child : is_child t p n ≡ true
  child = and_from _ _ (lt-ltb 0 n inner) (eq-eqb _ _ (sym parent))

  others : AreOtherEntries t w x table p
  others k ne h = followed.others k h (λ _ e. ne (e ∙ sym parent))

  later : AreEntries t w x table (p + 1)
  later k h l' = others k (omega (arith, h)) l'

  roomy : IsRoomy t (weight_of table.gain) (p + 1)
  roomy = later_roomy t w x table p tree few (omega (arith, first)) later

  -- the gains before n's changed
  gain_before : ℕ → ℤ
  gain_before k = cond (eqb k n) (weight_of table.gain n -ℤ more) (weight_of table.gain k)

  at_n : (gain_before n +ℤ more) ≡ weight_of table.gain n
  unfolding gain_before
  at_n =
      let is = ap (λ b. cond b (weight_of table.gain n -ℤ more) (weight_of table.gain n)) (eq-eqb n n refl) in
      omega (arith, ints, is)

  at_other : (k : ℕ) → k ≢ n → gain_before k ≡ weight_of table.gain k
  unfolding gain_before
  at_other k ne = ap (λ b. cond b (weight_of table.gain n -ℤ more) (weight_of table.gain k)) (ne_eqb k n ne)

  before : IsEntry t w x gain_before (has table.needed) (has table.possible) (has table.taken) p
  before =
      subst (λ q. IsEntry t w x gain_before (has table.needed) (has table.possible) (has table.taken) q) (sym parent)
      (followed.above inner gain_before at_n at_other)

  small_above : (k : ℕ) → k ≤ p → IsGainSmall (weight_of table.gain k)
  small_above k h = followed.small k (omega (arith, h, first))

  -- where the parent may not be inside, it adds nothing still
  closed_right : has table.possible p ≡ false → AreEntries t w x table p
  closed_right closed k h l' = by (cases_lt p k)
    where
      entry : HasEntry t w x table p
      entry = record {
        needed_from = before.needed_from;
        needed_must = before.needed_must;
        needed_child = before.needed_child;
        open_entry = λ may. absurd (both_ways _ closed may);
        closed_entry = before.closed_entry;
        closed_gain = λ f. sym (at_other p apart) ∙ before.closed_gain f;
        small_gain =
            let zero_is = ap size_of (sym (at_other p apart) ∙ before.closed_gain closed) in
            omega (arith, ints, zero_is, size_of-zero t (weight_of table.gain) p tree (omega (arith, first)) few roomy);
      }

      by : (p < k) ⊎ (k ≤ p) → HasEntry t w x table k
      by (inl m) = later k (omega (arith, m)) l'
      by (inr m) = let e : p ≡ k = omega arith in subst (λ k. HasEntry t w x table k) e entry

  pub follow_closed : has table.possible p ≡ false → IsFollowed t w x table p (pos 0)
  follow_closed closed =
      step_up t w x table table p (pos 0) tree few (omega (arith, first)) others (same_changes t table p) refl refl (closed_right closed) (omega (arith, ints)) small_above

  module _ (may_be : has table.possible p ≡ true) where
    opened : IsOpenEntry t w x gain_before (has table.needed) (has table.possible) (has table.taken) p
    opened = before.open_entry may_be

    -- where the choice stays the best, the parent adds what that adds
    module _ (small : IsSmall (weight_of w p)) (rise : ℤ) (all : Bool) (all_is : all ≡ true → least_of (kind_of t p) ≡ length (children_of t p))
        (may : MayStay (has table.taken n) all (most_of (kind_of t p)) (weight_of table.gain p -ℤ weight_of w p) (weight_of table.gain n) more rise) where
      may_stay : MayStay (has table.taken n) all (most_of (kind_of t p)) (picked_sum gain_before (has table.taken) (children_of t p)) (weight_of table.gain n) more rise
      may_stay =
          let choice : (weight_of table.gain p -ℤ weight_of w p) ≡ picked_sum gain_before (has table.taken) (children_of t p) =
          omega (arith, ints, opened.gain_is, at_other p apart) in
          subst (λ z. MayStay (has table.taken n) all (most_of (kind_of t p)) z (weight_of table.gain n) more rise) choice may

      best : IsBestChoice (weight_of table.gain) (has table.needed) (has table.possible) (least_of (kind_of t p)) (most_of (kind_of t p)) (children_of t p) (has table.taken)
      best =
          stays_best t gain_before (weight_of table.gain) n p more l child (sym at_n) (λ c h _ ne. sym (at_other c ne)) (has table.needed) (has table.possible)
          (least_of (kind_of t p)) (most_of (kind_of t p)) (has table.taken) all rise opened.pick all_is may_stay

      gain_is : (weight_of table.gain p +ℤ rise) ≡ (weight_of w p +ℤ picked_sum (weight_of table.gain) (has table.taken) (children_of t p))
      gain_is =
          let adds =
          rise_is t gain_before (weight_of table.gain) n p more l child (sym at_n) (λ c h _ ne. sym (at_other c ne)) (has table.needed) (has table.possible)
          (least_of (kind_of t p)) (most_of (kind_of t p)) (has table.taken) all rise opened.pick all_is may_stay in
          omega (arith, ints, adds, opened.gain_is, at_other p apart)

      pub raised_small : IsGainSmall (weight_of table.gain p +ℤ rise)
      raised_small =
          let bounds = size_of-bounds _ _ (size_of-gain t (weight_of table.gain) p tree (omega (arith, first)) few roomy (weight_of w p) (has table.taken) small).1 in
          record { low = omega (arith, ints, gain_is, bounds.0); high = omega (arith, ints, gain_is, bounds.1) }

      raised_entry : (g : ℕ → ℤ) → g p ≡ (weight_of table.gain p +ℤ rise) → ((k : ℕ) → k ≢ p → g k ≡ weight_of table.gain k)
          → IsEntry t w x g (has table.needed) (has table.possible) (has table.taken) p
      raised_entry g raised other = record {
        needed_from = before.needed_from;
        needed_must = before.needed_must;
        needed_child = before.needed_child;
        open_entry = λ f. record {
          not_never = opened.not_never;
          pick = IsBestChoice-same (weight_of table.gain) g (has table.needed) (has table.needed) (has table.possible) (has table.possible) (has table.taken) (has table.taken)
              (children_of t p) agree (least_of (kind_of t p)) (most_of (kind_of t p)) best;
          gain_is = omega (arith, ints, raised, gain_is, picked_sum-same (weight_of table.gain) g (has table.taken) (has table.taken) (children_of t p) agree.gain_same agree.chosen_same);
        };
        closed_entry = λ f. absurd (both_ways _ f may_be);
        closed_gain = λ f. absurd (both_ways _ f may_be);
        small_gain =
            let size = (size_of-gain t (weight_of table.gain) p tree (omega (arith, first)) few roomy (weight_of w p) (has table.taken) small).0 in
            let is = ap size_of (raised ∙ gain_is) in
            let same = children_size-same t (weight_of table.gain) g p (λ c h child'. other c (below c h child')) in
            omega (arith, ints, size, is, same);
      }
        where
          below : (c : ℕ) → c < length t → is_child t p c ≡ true → c ≢ p
          below c h child' = let after = child_after t p c tree h child' in omega (arith, after.2)

          agree : Agree (weight_of table.gain) g (has table.needed) (has table.needed) (has table.possible) (has table.possible) (has table.taken) (has table.taken) (children_of t p)
          agree =
              let at = λ (k : ℕ) (h : k < length (children_of t p)). filter_at (is_child t p) (length t) k h in
              record {
                gain_same = λ k h. other _ (below _ (at k h).1 (at k h).0);
                needed_same = λ k h. refl;
                possible_same = λ k h. refl;
                chosen_same = λ k h. refl;
              }

      pub follow_raised : (v : ℤ) → v ≡ (weight_of table.gain p +ℤ rise) → p < length table.gain
          → IsFollowed t w x (record { gain = set table.gain p v; needed = table.needed; possible = table.possible; taken = table.taken }) p rise
      follow_raised v is room =
          let here = weight_of-put_same table.gain p v room in
          step_up t w x table (record { gain = set table.gain p v; needed = table.needed; possible = table.possible; taken = table.taken }) p rise
          tree few (omega (arith, first)) others (raised_changes t table p v) refl refl
          (raised_entries t w x table p v tree (λ k h l'. others k (omega (arith, h)) l') (raised_entry (weight_of (set table.gain p v)) (here ∙ is) (λ k ne. weight_of-put_other table.gain p k v ne)))
          (sym is ∙ sym here) small_above

    -- where it is filled anew, it may be inside still, and is needed where it was
    module _ (new : Table) (changes : ChangesEntry t p table new) (entry : HasEntry t w x new p) where
      flags_below : (c : ℕ) → c < length t → is_child t p c ≡ true → (has new.needed c ≡ has table.needed c) × (has new.possible c ≡ has table.possible c)
      flags_below c h child' =
          let after = child_after t p c tree h child' in
          let other : c ≢ p = omega (arith, after.2) in
          (changes.needed_same c other, changes.possible_same c other)

      needed_same : has new.needed p ≡ has table.needed p
      needed_same = by (has new.needed p) (has table.needed p) refl refl
        where
          must_be : has new.needed p ≡ true → has table.needed p ≡ true
          must_be e =
              ⊎_elim (λ must. before.needed_must must) (λ (c, h, child', f). before.needed_child c h child' (sym (flags_below c h child').0 ∙ f)) (entry.needed_from e)

          was : has table.needed p ≡ true → has new.needed p ≡ true
          was e =
              ⊎_elim (λ must. entry.needed_must must) (λ (c, h, child', f). entry.needed_child c h child' ((flags_below c h child').0 ∙ f)) (before.needed_from e)

          by : (a b : Bool) → has new.needed p ≡ a → has table.needed p ≡ b → has new.needed p ≡ has table.needed p
          by true b e f = e ∙ sym (must_be e)
          by false true e f = was f ∙ sym f
          by false false e f = e ∙ sym f

      possible_same : has new.possible p ≡ has table.possible p
      possible_same =
          true_from_ne_false _
          (λ f.
          ⊎_elim (λ never. opened.not_never never)
          (λ none.
          let at = λ (k : ℕ) (h : k < length (children_of t p)). filter_at (is_child t p) (length t) k h in
          none (has table.taken)
          (IsChoice-same (has table.needed) (has new.needed) (has table.possible) (has new.possible) (least_of (kind_of t p)) (most_of (kind_of t p)) (children_of t p) (has table.taken) (has table.taken)
          (λ k h. (flags_below _ (at k h).1 (at k h).0).0) (λ k h. (flags_below _ (at k h).1 (at k h).0).1) (λ k h. refl) opened.pick.choice))
          (entry.closed_entry f))
          ∙ sym may_be

    pub follow_filled : (new : Table) → ChangesEntry t p table new → AreEntries t w x new p → IsFollowed t w x new p (weight_of new.gain p -ℤ weight_of table.gain p)
    follow_filled new changes entries =
        let entry = entries p (omega arith) (omega (arith, first)) in
        step_up t w x table new p (weight_of new.gain p -ℤ weight_of table.gain p) tree few (omega (arith, first)) others changes
        (needed_same new changes entry) (possible_same new changes entry) entries (omega (arith, ints)) small_above

-- ---- the node's own entry

module _ (t : Tree) (w : Weights) (x : Fixing) (table : Table) (n : ℕ) (weight : ℤ) (few : length t ≤ 200) (l : n < length t) (was : WasTableOf t w x table n weight) where
  tree_is : IsTree t
  tree_is = was.1.tree

  entries_before : AreEntries t was.0 x table 0
  entries_before = was.1.entries

  others_right : AreOtherEntries t w x table n
  others_right = others_at_first t was.0 w x table n was.1 was.2

  own : IsEntry t was.0 x (weight_of table.gain) (has table.needed) (has table.possible) (has table.taken) n
  own = entries_before n (omega arith) l

  small_before : (k : ℕ) → k ≤ n → IsGainSmall (weight_of table.gain k)
  small_before k h = gain_small t was.0 x table k tree_is few (omega (arith, h)) (λ m _ l'. entries_before m (omega arith) l')

  -- a node that may not be inside adds nothing at any weight
  closed_own : has table.possible n ≡ false → AreEntries t w x table n
  closed_own closed k h l' = by (cases_eq k n)
    where
      by : (k ≡ n) ⊎ (k ≡ n → ⊥) → HasEntry t w x table k
      by (inl e) = subst (λ m. HasEntry t w x table m) (sym e) (record {
        needed_from = own.needed_from;
        needed_must = own.needed_must;
        needed_child = own.needed_child;
        open_entry = λ may. absurd (both_ways _ closed may);
        closed_entry = own.closed_entry;
        closed_gain = own.closed_gain;
        small_gain = own.small_gain;
      })
      by (inr ne) = others_right k ne l'

  pub weigh_closed : has table.possible n ≡ false → IsFollowed t w x table n (pos 0)
  weigh_closed closed =
      step_up t w x table table n (pos 0) tree_is few l others_right (same_changes t table n) refl refl (closed_own closed) (omega (arith, ints)) small_before

  module _ (may_be : has table.possible n ≡ true) (small : IsSmall (weight_of w n)) where
    own_open : IsOpenEntry t was.0 x (weight_of table.gain) (has table.needed) (has table.possible) (has table.taken) n
    own_open = own.open_entry may_be

    own_gain : (weight_of table.gain n +ℤ (weight_of w n -ℤ weight)) ≡ (weight_of w n +ℤ picked_sum (weight_of table.gain) (has table.taken) (children_of t n))
    own_gain = omega (arith, ints, own_open.gain_is, was.3)

    own_roomy : IsRoomy t (weight_of table.gain) (n + 1)
    own_roomy = later_roomy t was.0 x table n tree_is few l (λ k h l'. entries_before k (omega arith) l')

    pub own_small : IsGainSmall (weight_of table.gain n +ℤ (weight_of w n -ℤ weight))
    own_small =
        let bounds = size_of-bounds _ _ (size_of-gain t (weight_of table.gain) n tree_is l few own_roomy (weight_of w n) (has table.taken) small).1 in
        record { low = omega (arith, ints, own_gain, bounds.0); high = omega (arith, ints, own_gain, bounds.1) }

    own_entry : (g : ℕ → ℤ) → g n ≡ (weight_of table.gain n +ℤ (weight_of w n -ℤ weight)) → ((k : ℕ) → k ≢ n → g k ≡ weight_of table.gain k)
        → IsEntry t w x g (has table.needed) (has table.possible) (has table.taken) n
    own_entry g here other = record {
      needed_from = own.needed_from;
      needed_must = own.needed_must;
      needed_child = own.needed_child;
      open_entry = λ f. record {
        not_never = own_open.not_never;
        pick = IsBestChoice-same (weight_of table.gain) g (has table.needed) (has table.needed) (has table.possible) (has table.possible) (has table.taken) (has table.taken)
            (children_of t n) agree (least_of (kind_of t n)) (most_of (kind_of t n)) own_open.pick;
        gain_is = omega (arith, ints, here, own_gain, picked_sum-same (weight_of table.gain) g (has table.taken) (has table.taken) (children_of t n) agree.gain_same agree.chosen_same);
      };
      closed_entry = λ f. absurd (both_ways _ f may_be);
      closed_gain = λ f. absurd (both_ways _ f may_be);
      small_gain =
          let size = (size_of-gain t (weight_of table.gain) n tree_is l few own_roomy (weight_of w n) (has table.taken) small).0 in
          let is = ap size_of (here ∙ own_gain) in
          let same = children_size-same t (weight_of table.gain) g n (λ c h child'. other c (below c h child')) in
          omega (arith, ints, size, is, same);
    }
      where
        below : (c : ℕ) → c < length t → is_child t n c ≡ true → c ≢ n
        below c h child' = let after = child_after t n c tree_is h child' in omega (arith, after.2)

        agree : Agree (weight_of table.gain) g (has table.needed) (has table.needed) (has table.possible) (has table.possible) (has table.taken) (has table.taken) (children_of t n)
        agree =
            let at = λ (k : ℕ) (h : k < length (children_of t n)). filter_at (is_child t n) (length t) k h in
            record {
              gain_same = λ k h. other _ (below _ (at k h).1 (at k h).0);
              needed_same = λ k h. refl;
              possible_same = λ k h. refl;
              chosen_same = λ k h. refl;
            }

    pub weigh_open : (v : ℤ) → v ≡ (weight_of table.gain n +ℤ (weight_of w n -ℤ weight)) → n < length table.gain
        → IsFollowed t w x (record { gain = set table.gain n v; needed = table.needed; possible = table.possible; taken = table.taken }) n (weight_of w n -ℤ weight)
    weigh_open v is room =
        let here = weight_of-put_same table.gain n v room in
        step_up t w x table (record { gain = set table.gain n v; needed = table.needed; possible = table.possible; taken = table.taken }) n (weight_of w n -ℤ weight)
        tree_is few l others_right (raised_changes t table n v) refl refl
        (raised_entries t w x table n v tree_is (λ k h l'. others_right k (omega (arith, h)) l') (own_entry (weight_of (set table.gain n v)) (here ∙ is) (λ k ne. weight_of-put_other table.gain n k v ne)))
        (sym is ∙ sym here) small_before

-- where n adds no more, or is the root, all entries are right
pub all_right : (t : Tree) (w : Weights) (x : Fixing) (table : Table) (n : ℕ) (more : ℤ) → IsFollowed t w x table n more → (0 < n → more ≡ pos 0) → AreEntries t w x table 0
all_right t w x table n more followed none k _ l = by (cases_lt 0 n)
  where
    by : (0 < n) ⊎ (n ≤ 0) → HasEntry t w x table k
    by (inr root) = followed.others k l (λ inner. absurd (omega (arith, root, inner)))
    by (inl inner) = here (cases_eq k (parent_of t n))
      where
        here : (k ≡ parent_of t n) ⊎ (k ≡ parent_of t n → ⊥) → HasEntry t w x table k
        here (inl e) =
            let zero_is = none inner in
            subst (λ m. HasEntry t w x table m) (sym e) (followed.above inner (weight_of table.gain) (omega (arith, ints, zero_is)) (λ m ne. refl))
        here (inr ne) = followed.others k l (λ _. ne)
