-- A choice that stays the best though one of the children adds more or less than it did.
use Rattle.std.proofs.Common.{ℕ, zero, suc, ◌+◌, ◌<◌, ◌≤◌, ◌≡◌, ◌≢◌, Bool, true, false, cond, ◌&&◌, eqb, List, [], ◌∷◌, length, get_or, ℤ, pos, ◌+ℤ◌, ◌≤ℤ◌, refl, arith, ap, sym, ◌∙◌, ◌⊎◌, inl, inr, subst}
use Rattle.std.proofs.lemmas.Int.{ints}
use Rattle.std.proofs.lemmas.Bool.{cases_eq}
use Rattle.ice_defs.specs.Tree.{Tree, is_child, children_of}
use Rattle.ice_defs.proofs.Sums.{sum_below-same, sum_below-add, sum_below-single, at_other, at_same}
use Rattle.ice_best.specs.Choice.{picked_sum, picked_count, IsChoice, IsBestChoice}
use Rattle.ice_best.specs.Rise.{MayStay}
use Rattle.ice_best.proofs.Children.{picked_sum-filter, filter_has}
use Rattle.ice_best.proofs.Whole.{picked_count-less}

number-true : (b : Bool) → b ≡ true → ◌≡◌ {A = ℕ} (cond b 1 0) 1
number-true b e = ap {B = ℕ} (λ x. cond x 1 0) e

picked_count-some : (T : ℕ → Bool) (cs : List ℕ) (k : ℕ) → k < length cs → T (get_or cs k 0) ≡ true → 1 ≤ picked_count T cs
picked_count-some T [] k h e = absurd (omega arith)
picked_count-some T (c ∷ cs) zero h e = omega (arith, number-true (T c) e)
picked_count-some T (c ∷ cs) (suc k) h e = omega (arith, picked_count-some T cs k (omega arith) e)

picked_sum-none : (f : ℕ → ℤ) (T : ℕ → Bool) (cs : List ℕ) → picked_count T cs ≡ 0 → picked_sum f T cs ≡ pos 0
picked_sum-none f T [] none = refl
picked_sum-none f T (c ∷ cs) none = by (T c) none (λ h. picked_sum-none f T cs h)
  where
    by : (b : Bool) → cond b 1 0 + picked_count T cs ≡ 0 → (picked_count T cs ≡ 0 → picked_sum f T cs ≡ pos 0) → (cond b (f c) (pos 0) +ℤ picked_sum f T cs) ≡ pos 0
    by true none rest = absurd (omega arith)
    by false none rest = omega (arith, ints, rest (omega arith))

-- where at most one is picked, what is picked adds what that one does
picked_sum-one : (f : ℕ → ℤ) (T : ℕ → Bool) (cs : List ℕ) (k : ℕ) → k < length cs → T (get_or cs k 0) ≡ true → picked_count T cs ≤ 1
    → picked_sum f T cs ≡ f (get_or cs k 0)
picked_sum-one f T [] k h e few = absurd (omega arith)
picked_sum-one f T (c ∷ cs) zero h e few =
    let rest = picked_sum-none f T cs (omega (arith, few, number-true (T c) e)) in
    let here = ap (λ b. cond b (f c) (pos 0)) e in
    omega (arith, ints, rest, here)
picked_sum-one f T (c ∷ cs) (suc k) h e few = by (T c) few (λ few'. picked_sum-one f T cs k (omega arith) e few')
  where
    some : 1 ≤ picked_count T cs
    some = picked_count-some T cs k (omega arith) e

    by : (b : Bool) → cond b 1 0 + picked_count T cs ≤ 1 → (picked_count T cs ≤ 1 → picked_sum f T cs ≡ f (get_or cs k 0))
        → (cond b (f c) (pos 0) +ℤ picked_sum f T cs) ≡ f (get_or cs k 0)
    by true few rest = absurd (omega (arith, some))
    by false few rest = omega (arith, ints, rest (omega arith))

module _ (t : Tree) (g g' : ℕ → ℤ) (n p : ℕ) (more : ℤ) (l : n < length t) (child : is_child t p n ≡ true) (here : g' n ≡ g n +ℤ more)
    (other : (c : ℕ) → c < length t → is_child t p c ≡ true → c ≢ n → g' c ≡ g c) where
  -- c adds `more` more where it is n and picked
  abbrev At : (ℕ → Bool) → ℕ → Type 0
  At T c = cond (is_child t p c && T c) (g' c) (pos 0) ≡ (cond (is_child t p c && T c) (g c) (pos 0) +ℤ cond (eqb n c) (cond (T n) more (pos 0)) (pos 0))

  -- what is picked of the children of p adds `more` more exactly where n is picked
  pub picked_sum-rise : (T : ℕ → Bool) → picked_sum g' T (children_of t p) ≡ (picked_sum g T (children_of t p) +ℤ cond (T n) more (pos 0))
  picked_sum-rise T =
      let old = λ (c : ℕ). cond (is_child t p c && T c) (g c) (pos 0) in
      let one = λ (c : ℕ). cond (eqb n c) (cond (T n) more (pos 0)) (pos 0) in
      let each = sum_below-same (λ c. cond (is_child t p c && T c) (g' c) (pos 0)) (λ c. old c +ℤ one c) (length t) at in
      omega (
        arith,
        ints,
        picked_sum-filter g T (is_child t p) (length t),
        picked_sum-filter g' T (is_child t p) (length t),
        each,
        sum_below-add old one (length t),
        sum_below-single n (length t) (cond (T n) more (pos 0)) l,
      )
    where
      at_n : (a b : Bool) → a ≡ true → (v v' : ℤ) → v' ≡ v +ℤ more → cond (a && b) v' (pos 0) ≡ (cond (a && b) v (pos 0) +ℤ cond b more (pos 0))
      at_n true true e v v' is = is
      at_n true false e v v' is = omega (arith, ints)
      at_n false b e v v' is = cc

      at_c : (c : ℕ) → c < length t → c ≢ n → (a : Bool) → is_child t p c ≡ a → cond (a && T c) (g' c) (pos 0) ≡ cond (a && T c) (g c) (pos 0)
      at_c c h ne true e = ap (λ v. cond (T c) v (pos 0)) (other c h e ne)
      at_c c h ne false e = refl

      at : (c : ℕ) → c < length t → At T c
      at c h = by (cases_eq n c)
        where
          by : (n ≡ c) ⊎ (n ≡ c → ⊥) → At T c
          by (inl e) =
              subst (λ k. At T k) e
              (omega (arith, ints, at_n (is_child t p n) (T n) child (g n) (g' n) here, at_same n n (cond (T n) more (pos 0)) refl))
          by (inr ne) =
              omega (arith, ints, at_c c h (λ e. ne (sym e)) (is_child t p c) refl, at_other n c (cond (T n) more (pos 0)) ne)

  module _ (needed possible : ℕ → Bool) (least most : ℕ) (C : ℕ → Bool) (all : Bool) (rise : ℤ)
      (best : IsBestChoice g needed possible least most (children_of t p) C) (all_is : all ≡ true → least ≡ length (children_of t p))
      (may : MayStay (C n) all most (picked_sum g C (children_of t p)) (g' n) more rise) where
    -- then that is what the best choice adds
    pub rise_is : picked_sum g' C (children_of t p) ≡ (picked_sum g C (children_of t p) +ℤ rise)
    rise_is = by may
      where
        by : MayStay (C n) all most (picked_sum g C (children_of t p)) (g' n) more rise → picked_sum g' C (children_of t p) ≡ (picked_sum g C (children_of t p) +ℤ rise)
        by (inl (taken, why, is)) = omega (arith, ints, is, picked_sum-rise C, ap (λ b. cond b more (pos 0)) taken)
        by (inr (left, why, is)) = omega (arith, ints, is, picked_sum-rise C, ap (λ b. cond b more (pos 0)) left)

    -- and it stays the best
    pub stays_best : IsBestChoice g' needed possible least most (children_of t p) C
    stays_best = record { choice = best.choice; best = λ T choice. at_most T choice (T n) refl }
      where
        place : (k : ℕ) × (k < length (children_of t p)) × (get_or (children_of t p) k 0 ≡ n)
        place = filter_has (is_child t p) (length t) n l child

        at_most : (T : ℕ → Bool) → IsChoice needed possible least most (children_of t p) T → (b : Bool) → T n ≡ b
            → picked_sum g' T (children_of t p) ≤ℤ picked_sum g' C (children_of t p)
        at_most T choice b is =
            let no_better = best.best T choice in
            let mine = picked_sum-rise T in
            let rest = ap (λ b. cond b more (pos 0)) is in
            by b may is mine rest no_better
          where
            by : (b : Bool) → MayStay (C n) all most (picked_sum g C (children_of t p)) (g' n) more rise → T n ≡ b
                → picked_sum g' T (children_of t p) ≡ (picked_sum g T (children_of t p) +ℤ cond (T n) more (pos 0)) → cond (T n) more (pos 0) ≡ cond b more (pos 0)
                → picked_sum g T (children_of t p) ≤ℤ picked_sum g C (children_of t p)
                → picked_sum g' T (children_of t p) ≤ℤ picked_sum g' C (children_of t p)
            by true (inl (taken, why, rise_is')) is mine rest no_better = omega (arith, ints, rise_is, rise_is', mine, rest, no_better)
            by false (inl (taken, inl up, rise_is')) is mine rest no_better = omega (arith, ints, rise_is, rise_is', mine, rest, no_better, up)
            by false (inl (taken, inr whole, rise_is')) is mine rest no_better =
                let less = picked_count-less T (children_of t p) place.0 place.1 (ap T place.2 ∙ is) in
                absurd (omega (arith, less, choice.enough, all_is whole))
            by true (inr (left, inl down, rise_is')) is mine rest no_better = omega (arith, ints, rise_is, rise_is', mine, rest, no_better, down)
            by false (inr (left, inl down, rise_is')) is mine rest no_better = omega (arith, ints, rise_is, rise_is', mine, rest, no_better)
            by true (inr (left, inr (one, below), rise_is')) is mine rest no_better =
                let alone = picked_sum-one g' T (children_of t p) place.0 place.1 (ap T place.2 ∙ is) (omega (arith, one, choice.few)) in
                let same = ap g' place.2 in
                omega (arith, ints, rise_is, rise_is', alone, same, below)
            by false (inr (left, inr (one, below), rise_is')) is mine rest no_better = omega (arith, ints, rise_is, rise_is', mine, rest, no_better)
