-- One more entry of a half-filled table.
use Rattle.std.proofs.Common.{ℕ, ◌+◌, ◌-◌, ◌^◌, ◌<◌, ◌≤◌, ◌≡◌, ◌≢◌, ◌↔◌, Bool, true, false, List, length, get_or, set, Option, Some, None, ℤ, pos, ◌+ℤ◌, ◌≤ℤ◌, refl, arith, ap, sym, ◌∙◌, ◌⊎◌, inl, inr, subst, ⊎_elim, get_or-set_same, get_or-set_other}
use Rattle.std.proofs.lemmas.Int.{ints}
use Rattle.std.proofs.lemmas.Bool.{cases_order, both_ways}
use Rattle.ice_defs.specs.declared.Mark.{Mark}
use Rattle.ice_defs.specs.declared.Mark.TheVariants.{Never}
use Rattle.ice_defs.specs.Tree.{Tree, IsTree, kind_of, parent_of, is_child, children_of, least_of, most_of}
use Rattle.ice_defs.specs.Set.{has, Weights, weight_of, IsSmall}
use Rattle.ice_defs.specs.Fixing.{Fixing, mark_of}
use Rattle.ice_best.specs.Choice.{picked_sum, IsGainSmall, ChangesOnly}
use Rattle.ice_best.specs.Table.{IsChoiceAt, IsOpenEntry, IsEntry, IsPick, IsOpened, IsNeededBy}
use Rattle.ice_best.specs.Roots.{size_of, children_size, IsRoomy}
use Rattle.ice_best.specs.declared.table.Table.{Table}
use Rattle.ice_best.specs.Entries.{AreEntries}
use Rattle.std.specs.Option.{IfSome}
use Rattle.ice_best.proofs.Children.{filter_at, filter_has}
use Rattle.ice_best.proofs.Flags.{has-put_same, has-put_other}
use Rattle.ice_best.proofs.Frame.{Agree, back, IsBestChoice-same, IsEntry-same, picked_sum-same, children_size-same}
use Rattle.ice_best.proofs.Bounding.{child_after}
use Rattle.ice_best.proofs.Roots.{size_of-gain, size_of-zero, size_of-bounds, IsRoomy-from}

pub weight_of-put_same : (s : List ℤ) (i : ℕ) (v : ℤ) → i < length s → weight_of (set s i v) i ≡ v
weight_of-put_same s i v h = rw get_or-set_same

pub weight_of-put_other : (s : List ℤ) (i n : ℕ) (v : ℤ) → n ≢ i → weight_of (set s i v) n ≡ weight_of s n
weight_of-put_other s i n v ne = rw get_or-set_other

module _ (t : Tree) (w : Weights) (x : Fixing) (gain : List ℤ) (needed possible taken taken' : List Bool) (n : ℕ)
    (tree : IsTree t) (few : length t ≤ 200) (l : n < length t)
    (room_g : n < length gain) (room_n : n < length needed) (room_p : n < length possible)
    (sum : Option ℤ) (need may : Bool) (v : ℤ)
    (picks : IsPick (mark_of x n) (weight_of gain) (has needed) (has possible) (least_of (kind_of t n)) (most_of (kind_of t n)) (children_of t n) (has taken') sum)
    (is_needed : (need ≡ true) ↔ IsNeededBy (mark_of x n) (has needed) (children_of t n))
    (is_opened : IsOpened (weight_of w n) sum may v)
    (changes : ChangesOnly taken taken' (children_of t n)) (small : IsSmall (weight_of w n)) (roomy : IsRoomy t (weight_of gain) (n + 1)) where
  -- a child of n has the entry that it had
  same_child : (c : ℕ) → c < length t → is_child t n c ≡ true
      → (weight_of (set gain n v) c ≡ weight_of gain c) × (has (set needed n need) c ≡ has needed c) × (has (set possible n may) c ≡ has possible c)
  same_child c h child =
      let after = child_after t n c tree h child in
      let other : c ≢ n = omega (arith, after.2) in
      (weight_of-put_other gain n c v other, has-put_other needed n c need other, has-put_other possible n c may other)

  agree : Agree (weight_of gain) (weight_of (set gain n v)) (has needed) (has (set needed n need)) (has possible) (has (set possible n may)) (has taken') (has taken') (children_of t n)
  agree =
      let at = λ (k : ℕ) (h : k < length (children_of t n)). filter_at (is_child t n) (length t) k h in
      record {
        gain_same = λ k h. (same_child _ (at k h).1 (at k h).0).0;
        needed_same = λ k h. (same_child _ (at k h).1 (at k h).0).1;
        possible_same = λ k h. (same_child _ (at k h).1 (at k h).0).2;
        chosen_same = λ k h. refl;
      }

  pub new_entry : IsEntry t w x (weight_of (set gain n v)) (has (set needed n need)) (has (set possible n may)) (has taken') n
  new_entry = record {
    needed_from = λ f.
        ⊎_elim (λ must. inl must)
        (λ (k, h, e).
        let at = filter_at (is_child t n) (length t) k h in
        inr (get_or (children_of t n) k 0, at.1, at.0, agree.needed_same k h ∙ e))
        (is_needed.0 (sym (has-put_same needed n need room_n) ∙ f));
    needed_must = λ must. has-put_same needed n need room_n ∙ is_needed.1 (inl must);
    needed_child = λ c h child f.
        let found = filter_has (is_child t n) (length t) c h child in
        has-put_same needed n need room_n
        ∙ is_needed.1 (inr (found.0, found.1, ap (has needed) found.2 ∙ sym (same_child c h child).1 ∙ f));
    open_entry = λ f. opens sum picks is_opened (sym (has-put_same possible n may room_p) ∙ f);
    closed_entry = λ f. closes sum picks is_opened (sym (has-put_same possible n may room_p) ∙ f);
    closed_gain = λ f. weight_of-put_same gain n v room_g ∙ adds_none sum is_opened (sym (has-put_same possible n may room_p) ∙ f);
    small_gain =
        let below = children_size-same t (weight_of gain) (weight_of (set gain n v)) n (λ c h child. (same_child c h child).0) in
        omega (arith, ints, below, bounded sum picks is_opened);
  }
    where
      opens : (sum : Option ℤ) → IsPick (mark_of x n) (weight_of gain) (has needed) (has possible) (least_of (kind_of t n)) (most_of (kind_of t n)) (children_of t n) (has taken') sum
          → IsOpened (weight_of w n) sum may v → may ≡ true
          → IsOpenEntry t w x (weight_of (set gain n v)) (has (set needed n need)) (has (set possible n may)) (has taken') n
      opens None picks o e = absurd (both_ways _ o.0 e)
      opens (Some y) picks o e = record {
        not_never = picks.some_mark;
        pick = IsBestChoice-same (weight_of gain) (weight_of (set gain n v)) (has needed) (has (set needed n need)) (has possible) (has (set possible n may)) (has taken') (has taken')
            (children_of t n) agree (least_of (kind_of t n)) (most_of (kind_of t n)) picks.some_best;
        gain_is =
            let same = picked_sum-same (weight_of gain) (weight_of (set gain n v)) (has taken') (has taken') (children_of t n) agree.gain_same (λ k h. refl) in
            let here = weight_of-put_same gain n v room_g in
            omega (arith, ints, same, here, o.1, picks.some_sum);
      }

      closes : (sum : Option ℤ) → IsPick (mark_of x n) (weight_of gain) (has needed) (has possible) (least_of (kind_of t n)) (most_of (kind_of t n)) (children_of t n) (has taken') sum
          → IsOpened (weight_of w n) sum may v → may ≡ false
          → (mark_of x n ≡ Never) ⊎ ((T : ℕ → Bool) → IsChoiceAt t (has (set needed n need)) (has (set possible n may)) n T → ⊥)
      closes (Some y) picks o e = absurd (both_ways _ e o.0)
      closes None picks o e =
          ⊎_elim (λ never. inl never)
          (λ none. inr (λ T choice. none T (back (weight_of gain) (weight_of (set gain n v)) (has needed) (has (set needed n need)) (has possible) (has (set possible n may)) (has taken') (has taken')
          (children_of t n) agree (least_of (kind_of t n)) (most_of (kind_of t n)) T choice)))
          picks.none

      adds_none : (sum : Option ℤ) → IsOpened (weight_of w n) sum may v → may ≡ false → v ≡ pos 0
      adds_none None o e = o.1
      adds_none (Some y) o e = absurd (both_ways _ e o.0)

      bounded : (sum : Option ℤ) → IsPick (mark_of x n) (weight_of gain) (has needed) (has possible) (least_of (kind_of t n)) (most_of (kind_of t n)) (children_of t n) (has taken') sum
          → IsOpened (weight_of w n) sum may v → size_of (weight_of (set gain n v) n) ≤ℤ (pos (2 ^ 94) +ℤ children_size t (weight_of gain) n)
      bounded None picks o =
          let zero_is = ap size_of (weight_of-put_same gain n v room_g ∙ o.1) in
          omega (arith, ints, zero_is, size_of-zero t (weight_of gain) n tree l few roomy)
      bounded (Some y) picks o =
          let is : weight_of (set gain n v) n ≡ (weight_of w n +ℤ picked_sum (weight_of gain) (has taken') (children_of t n)) =
          weight_of-put_same gain n v room_g ∙ omega (arith, ints, o.1, picks.some_sum) in
          let same = ap size_of is in
          let small_gain = (size_of-gain t (weight_of gain) n tree l few roomy (weight_of w n) (has taken') small).0 in
          omega (arith, ints, same, small_gain)

  pub later_entry : (k : ℕ) → n < k → k < length t → IsEntry t w x (weight_of gain) (has needed) (has possible) (has taken) k
      → IsEntry t w x (weight_of (set gain n v)) (has (set needed n need)) (has (set possible n may)) (has taken') k
  later_entry k h l' is =
      IsEntry-same t w x (weight_of gain) (weight_of (set gain n v)) (has needed) (has (set needed n need)) (has possible) (has (set possible n may)) (has taken) (has taken') k
      (λ c h' child.
      let after = child_after t k c tree h' child in
      let other : c ≢ n = omega (arith, after.2) in (
        weight_of-put_other gain n c v other,
        has-put_other needed n c need other,
        has-put_other possible n c may other,
        changes c (λ j h'' e.
            let at = filter_at (is_child t n) (length t) j h'' in
            let mine = child_after t n _ tree at.1 at.0 in
            let both : parent_of t c ≡ n = ap (parent_of t) (sym e) ∙ mine.1 in
            omega (arith, both, after.1)),
      ))
      (weight_of-put_other gain n k v (omega arith)) (has-put_other needed n k need (omega arith)) (has-put_other possible n k may (omega arith)) is

  pub all_entries : ((k : ℕ) → n + 1 ≤ k → k < length t → IsEntry t w x (weight_of gain) (has needed) (has possible) (has taken) k)
      → (k : ℕ) → n ≤ k → k < length t → IsEntry t w x (weight_of (set gain n v)) (has (set needed n need)) (has (set possible n may)) (has taken') k
  all_entries later k h l' = by (cases_order n k)
    where
      by : (n ≡ k) ⊎ ((n < k) ⊎ (k < n)) → IsEntry t w x (weight_of (set gain n v)) (has (set needed n need)) (has (set possible n may)) (has taken') k
      by (inl e) = subst (λ m. IsEntry t w x (weight_of (set gain n v)) (has (set needed n need)) (has (set possible n may)) (has taken') m) e new_entry
      by (inr (inl m)) = later_entry k m l' (later k (omega arith) l')
      by (inr (inr m)) = absurd (omega arith)

-- the gain of n fits
pub gain_fits : (t : Tree) (g : ℕ → ℤ) (n : ℕ) (tree : IsTree t) (l : n < length t) (few : length t ≤ 200) (roomy : IsRoomy t g (n + 1))
    → (weight : ℤ) → IsSmall weight → (mark : Mark) (needed possible chosen : ℕ → Bool) (least most : ℕ) (sum : Option ℤ)
    → IsPick mark g needed possible least most (children_of t n) chosen sum → IfSome sum (λ v. IsGainSmall (weight +ℤ v))
gain_fits t g n tree l few roomy weight small mark needed possible chosen least most None picks = tt
gain_fits t g n tree l few roomy weight small mark needed possible chosen least most (Some y) picks =
    let size = (size_of-gain t g n tree l few roomy weight chosen small).1 in
    let same = ap (λ z. weight +ℤ z) picks.some_sum in
    let bounds = size_of-bounds _ _ size in
    record { low = omega (arith, ints, same, bounds.0); high = omega (arith, ints, same, bounds.1) }

-- where the later entries are filled, their gains are roomy
pub later_roomy : (t : Tree) (w : Weights) (x : Fixing) (table : Table) (n : ℕ) → IsTree t → length t ≤ 200 → n < length t
    → AreEntries t w x table (n + 1) → IsRoomy t (weight_of table.gain) (n + 1)
later_roomy t w x table n tree few l later =
    IsRoomy-from t (weight_of table.gain) (length t - (n + 1)) (n + 1) tree few (omega arith) (λ k h l'. (later k h l').small_gain)
