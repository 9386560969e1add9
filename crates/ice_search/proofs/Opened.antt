-- The open parts, as some are taken out and others are added.
use Rattle.std.proofs.Common.{ℕ, suc, ◌+◌, ◌<◌, ◌≡◌, List, [], ◌∷◌, ◌++◌, length, get_or, refl, arith, sym, subst, ◌⊎◌, inl, inr}
use Rattle.std.specs.Prelude.{slice_index}
use Rattle.std.specs.List.{Contains}
use Rattle.std.specs.List.Sorted.{IsPermutation}
use Rattle.std.proofs.lemmas.List.Elements.{Contains-append_left, Contains-append_right, Contains-append_cases, Contains-push, Contains-push_cases}
use Rattle.std.proofs.lemmas.List.Sorted.{Contains-permutation, IsPermutation-sym}
use Rattle.ice_search.specs.declared.frontier.Fate.{Fate}
use Rattle.ice_search.specs.declared.frontier.Fate.TheVariants.{Open, Closed}
use Rattle.ice_search.specs.Open.{AreOpened}

cases_Fate : (f : Fate) → (f ≡ Open) ⊎ (f ≡ Closed)
cases_Fate Open = inl refl
cases_Fate Closed = inr refl

in_rest : (x : ℕ) (xs : List ℕ) (j : ℕ) → Contains (x ∷ xs) j → (j ≡ x → ⊥) → Contains xs j
in_rest x xs j listed ne = by (Contains-append_cases (x ∷ []) xs j listed)
  where
    by : Contains (x ∷ []) j ⊎ Contains xs j → Contains xs j
    by (inl (k, l, e)) = absurd (ne (first k l e))
      where
        first : (k : ℕ) → k < length (x ∷ []) → get_or (x ∷ []) k j ≡ j → j ≡ x
        first k l e = let z : k ≡ 0 = omega arith in sym (subst (λ i. get_or (x ∷ []) i j ≡ j) z e)
    by (inr there) = there

pub left_others : (old new : List ℕ) (x : ℕ) → IsPermutation old (x ∷ new) → (j : ℕ) → Contains old j → (j ≡ x → ⊥) → Contains new j
left_others old new x moved j listed ne = in_rest x new j (Contains-permutation old (x ∷ new) j moved listed) ne

pub left_within : (old new : List ℕ) (x : ℕ) → IsPermutation old (x ∷ new) → (j : ℕ) → Contains new j → Contains old j
left_within old new x moved j listed = Contains-permutation (x ∷ new) old j (IsPermutation-sym old (x ∷ new) moved) (Contains-append_right (x ∷ []) new j listed)

module _ (old left one new : List ℕ) (place first : ℕ) (a b : Fate) (moved : IsPermutation old (slice_index old place ∷ left))
    (yes_one : a ≡ Open → one ≡ left ++ first ∷ []) (no_one : a ≡ Closed → one ≡ left) (yes_new : b ≡ Open → new ≡ one ++ (first + 1) ∷ []) (no_new : b ≡ Closed → new ≡ one) where
  from_one : (j : ℕ) → Contains one j → Contains new j
  from_one j listed = by (cases_Fate b)
    where
      by : (b ≡ Open) ⊎ (b ≡ Closed) → Contains new j
      by (inl e) = subst (λ xs. Contains xs j) (sym (yes_new e)) (Contains-append_left one ((first + 1) ∷ []) j listed)
      by (inr e) = subst (λ xs. Contains xs j) (sym (no_new e)) listed

  from_left : (j : ℕ) → Contains left j → Contains one j
  from_left j listed = by (cases_Fate a)
    where
      by : (a ≡ Open) ⊎ (a ≡ Closed) → Contains one j
      by (inl e) = subst (λ xs. Contains xs j) (sym (yes_one e)) (Contains-append_left left (first ∷ []) j listed)
      by (inr e) = subst (λ xs. Contains xs j) (sym (no_one e)) listed

  to_one : (j : ℕ) → Contains new j → Contains one j ⊎ (j < suc (suc first))
  to_one j listed = by (cases_Fate b)
    where
      pushed : Contains one j ⊎ ((first + 1) ≡ j) → Contains one j ⊎ (j < suc (suc first))
      pushed (inl there) = inl there
      pushed (inr e) = inr (omega (arith, e))

      by : (b ≡ Open) ⊎ (b ≡ Closed) → Contains one j ⊎ (j < suc (suc first))
      by (inl e) = pushed (Contains-push_cases one (first + 1) j (subst (λ xs. Contains xs j) (yes_new e) listed))
      by (inr e) = inl (subst (λ xs. Contains xs j) (no_new e) listed)

  to_left : (j : ℕ) → Contains one j → Contains left j ⊎ (j < suc (suc first))
  to_left j listed = by (cases_Fate a)
    where
      pushed : Contains left j ⊎ (first ≡ j) → Contains left j ⊎ (j < suc (suc first))
      pushed (inl there) = inl there
      pushed (inr e) = inr (omega (arith, e))

      by : (a ≡ Open) ⊎ (a ≡ Closed) → Contains left j ⊎ (j < suc (suc first))
      by (inl e) = pushed (Contains-push_cases left first j (subst (λ xs. Contains xs j) (yes_one e) listed))
      by (inr e) = inl (subst (λ xs. Contains xs j) (no_one e) listed)

  within : (j : ℕ) → Contains new j → Contains old j ⊎ (j < suc (suc first))
  within j listed = by (to_one j listed)
    where
      from : Contains left j ⊎ (j < suc (suc first)) → Contains old j ⊎ (j < suc (suc first))
      from (inl there) = inl (left_within old left (slice_index old place) moved j there)
      from (inr low) = inr low

      by : Contains one j ⊎ (j < suc (suc first)) → Contains old j ⊎ (j < suc (suc first))
      by (inl there) = from (to_left j there)
      by (inr low) = inr low

  pub are_opened : AreOpened old new place first a b
  are_opened = record {
    others = λ j listed ne. from_one j (from_left j (left_others old left (slice_index old place) moved j listed ne));
    must = λ e. from_one first (subst (λ xs. Contains xs first) (sym (yes_one e)) (Contains-push left first));
    never = λ e. let last : first + 1 ≡ suc first = omega arith in subst (Contains new) last (subst (λ xs. Contains xs (first + 1)) (sym (yes_new e)) (Contains-push one (first + 1)));
    within = within;
  }
