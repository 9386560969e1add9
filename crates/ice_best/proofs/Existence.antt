-- What a table's choices take from the root down is some set.
use Rattle.std.proofs.Common.{ℕ, zero, suc, ◌<◌, ◌≤◌, ◌≡◌, Bool, false, ◌&&◌, [], ◌∷◌, ◌++◌, length, refl, arith, ap, sym, ◌∙◌, ◌⊎◌, inl, inr, subst}
use Rattle.std.proofs.lemmas.Bool.{cases_lt}
use Rattle.std.proofs.lemmas.List.{get_or_append_left, get_or_at, length-append}
use Rattle.ice_defs.specs.Tree.{Tree, IsTree, parent_of}
use Rattle.ice_defs.specs.Set.{NodeSet, has}
use Rattle.ice_best.specs.Table.{IsTaken}

module _ (t : Tree) (chosen : ℕ → Bool) (root : Bool) (tree : IsTree t) where
  -- the first n nodes are taken as the choices say
  record AreTaken (n : ℕ) (s : NodeSet) : Type 0 where
    same_length : length s ≡ n
    root_is : 0 < n → has s 0 ≡ root
    child_is : (c : ℕ) → 0 < c → c < n → has s c ≡ (has s (parent_of t c) && chosen c)

  next : ℕ → NodeSet → Bool
  next zero s = root
  next (suc n) s = has s (parent_of t (suc n)) && chosen (suc n)

  next_child : (n : ℕ) (s : NodeSet) → 0 < n → next n s ≡ (has s (parent_of t n) && chosen n)
  unfolding next
  next_child zero s h = absurd (omega arith)
  next_child (suc n) s h = refl

  one_more : (n : ℕ) → n < length t → (s : NodeSet) → AreTaken n s → AreTaken (suc n) (s ++ next n s ∷ [])
  unfolding next
  one_more n l s is =
      let size = length-append s (next n s ∷ []) in
      let kept = λ (k : ℕ) (h : k < n). get_or_append_left s (next n s ∷ []) false k (omega (arith, h, is.same_length)) in
      let added : has (s ++ next n s ∷ []) n ≡ next n s = get_or_at s (next n s) [] false n (omega (arith, is.same_length)) in
      record {
        same_length = omega (arith, size, is.same_length);
        root_is = λ h. root_at n (cases_lt 0 n) kept added is;
        child_is = λ c h l'. by c h (cases_lt c n) l' kept added;
      }
    where
      root_at : (n : ℕ) → (0 < n) ⊎ (n ≤ 0) → ((k : ℕ) → k < n → has (s ++ next n s ∷ []) k ≡ has s k)
          → has (s ++ next n s ∷ []) n ≡ next n s → AreTaken n s → has (s ++ next n s ∷ []) 0 ≡ root
      root_at zero d kept added is = added
      root_at (suc m) d kept added is = kept 0 (omega arith) ∙ is.root_is (omega arith)

      by : (c : ℕ) → 0 < c → (c < n) ⊎ (n ≤ c) → c < suc n → ((k : ℕ) → k < n → has (s ++ next n s ∷ []) k ≡ has s k)
          → has (s ++ next n s ∷ []) n ≡ next n s → has (s ++ next n s ∷ []) c ≡ (has (s ++ next n s ∷ []) (parent_of t c) && chosen c)
      by c h (inl m) l' kept added =
          let first = tree.parent_first c h (omega arith) in
          kept c m ∙ is.child_is c h m ∙ ap (λ b. b && chosen c) (sym (kept (parent_of t c) (omega arith)))
      by c h (inr m) l' kept added =
          let last : n ≡ c = omega arith in
          let first = tree.parent_first n (omega arith) l in
          subst (λ c. has (s ++ next n s ∷ []) c ≡ (has (s ++ next n s ∷ []) (parent_of t c) && chosen c)) last
          (added ∙ next_child n s (omega arith) ∙ ap (λ b. b && chosen n) (sym (kept (parent_of t n) (omega arith))))

  first_nodes : (n : ℕ) → n ≤ length t → (s : NodeSet) × AreTaken n s
  first_nodes zero h = ([], record { same_length = refl; root_is = λ l. absurd (omega arith); child_is = λ c h l. absurd (omega arith) })
  first_nodes (suc n) h = let before = first_nodes n (omega arith) in (before.0 ++ next n before.0 ∷ [], one_more n (omega arith) before.0 before.1)

  pub taken_set : (s : NodeSet) × IsTaken t chosen root s
  taken_set =
      let all = first_nodes (length t) (omega arith) in
      (all.0, record { same_length = all.1.same_length; root_is = all.1.root_is tree.rooted; child_is = all.1.child_is })
