-- A tree that grows by one node, or whose innermost open node is closed.
use Rattle.std.proofs.Common.{ℕ, ◌+◌, ◌-◌, ◌<◌, ◌≤◌, ◌≡◌, ◌≢◌, true, cond, ◌&&◌, eqb, ltb, List, [], ◌∷◌, ◌++◌, length, get_or, take, refl, arith, ap, sym, ◌∙◌, ◌⊎◌, inl, inr, subst, length-append}
use Rattle.std.proofs.lemmas.Bool.{cases_lt, cases_eq, and_parts, and_right, ltb-true, eqb-true, ne_eqb, false_from_ne_true}
use Rattle.std.proofs.lemmas.List.{get_or_append_left, get_or_at, get_or_past, append-nil, get_or-take, length-take-le}
use Rattle.std.proofs.lemmas.List.Elements.{filter-append}
use Rattle.std.specs.List.{filter}
use Rattle.std.proofs.Math.Numerals.{add-one}
use Rattle.ice_defs.specs.declared.Node.{Node}
use Rattle.ice_defs.specs.declared.NodeKind.{NodeKind}
use Rattle.ice_defs.specs.Sum.{numbers_below}
use Rattle.ice_defs.specs.Tree.{Tree, IsTree, IsInterval, kind_of, parent_of, is_child, children_of, no_node}
use Rattle.ice_tree.specs.Making.{IsGrown}
use Rattle.ice_defs.proofs.Below.{filter-same, filter-none}

-- the last number of a path, the innermost open node
abbrev pub last_of : List ℕ → ℕ
last_of path = get_or path (length path - 1) 0

module _ (t : Tree) (x : Node) where
  new : Tree
  new = t ++ x ∷ []

  length-new : length new ≡ length t + 1
  unfolding new
  length-new = length-append t (x ∷ [])

  pub old_node : (c : ℕ) → c < length t → get_or (t ++ x ∷ []) c no_node ≡ get_or t c no_node
  old_node c l = get_or_append_left t (x ∷ []) no_node c l

  pub last_node : get_or (t ++ x ∷ []) (length t) no_node ≡ x
  last_node = get_or_at t x [] no_node (length t) refl

  pub children_of-new : (p : ℕ) → children_of (t ++ x ∷ []) p ≡ children_of t p ++ cond (ltb 0 (length t) && eqb x.parent p) (length t ∷ []) []
  children_of-new p =
      ap (λ n. filter (is_child (t ++ x ∷ []) p) (numbers_below n)) (length-append t (x ∷ []) ∙ add-one (length t))
      ∙ filter-append (is_child (t ++ x ∷ []) p) (numbers_below (length t)) (length t ∷ [])
      ∙ ap (λ l. l ++ filter (is_child (t ++ x ∷ []) p) (length t ∷ [])) (filter-same _ (is_child t p) (length t) (λ k h. ap (λ n. ltb 0 k && eqb n.parent p) (old_node k h)))
      ∙ ap (λ n. children_of t p ++ cond (ltb 0 (length t) && eqb n.parent p) (length t ∷ []) []) last_node

  -- a node that isn't the new one's parent keeps its children
  pub children_of-other : (p : ℕ) → x.parent ≢ p → children_of (t ++ x ∷ []) p ≡ children_of t p
  children_of-other p ne =
      children_of-new p ∙ ap (λ b. children_of t p ++ cond b (length t ∷ []) []) (and_right _ _ (ne_eqb _ _ ne)) ∙ append-nil (children_of t p)

-- the last node has no child
pub children_of-past : (t : Tree) (p : ℕ) → ((c : ℕ) → 0 < c → c < length t → parent_of t c < c) → length t ≤ p + 1 → children_of t p ≡ []
children_of-past t p first past = filter-none (is_child t p) (length t) (λ c l. false_from_ne_true _ (λ e. by c l (and_parts _ _ e)))
  where
    by : (c : ℕ) → c < length t → (ltb 0 c ≡ true) × (eqb (parent_of t c) p ≡ true) → ⊥
    by c l both =
        let before = first c (ltb-true 0 c both.0) l in
        let same : parent_of t c ≡ p = eqb-true _ _ both.1 in
        omega arith

module _ (nodes : List Node) (path : List ℕ) (is : IsGrown nodes path) (kind : NodeKind) (room : length nodes < 200) (started : 0 < length nodes → 0 < length path) where
  abbrev added : Node
  added = record { kind = kind; parent = last_of path }

  abbrev pub grown : Tree
  grown = nodes ++ record { kind = kind; parent = last_of path } ∷ []

  pub size : length grown ≡ length nodes + 1
  size = length-append nodes (added ∷ [])

  pub no_path : length nodes ≤ 0 → length path ≡ 0
  no_path none = by (cases_lt 0 (length path))
    where
      by : (0 < length path) ⊎ (length path ≤ 0) → length path ≡ 0
      by (inl some) = absurd (omega (arith, is.path_there 0 some))
      by (inr e) = omega arith

  pub old_parent : (c : ℕ) → c < length nodes → parent_of grown c ≡ parent_of nodes c
  old_parent c m = ap (λ (n : Node). n.parent) (old_node nodes added c m)

  pub last_parent : (c : ℕ) → c ≡ length nodes → parent_of grown c ≡ last_of path
  last_parent c e = ap (parent_of grown) e ∙ ap (λ (n : Node). n.parent) (last_node nodes added)

  pub at_last : (c : ℕ) → c < length grown → (c < length nodes) ⊎ (c ≡ length nodes)
  at_last c m = by (cases_lt c (length nodes))
    where
      by : (c < length nodes) ⊎ (length nodes ≤ c) → (c < length nodes) ⊎ (c ≡ length nodes)
      by (inl k) = inl k
      by (inr k) = inr (omega (arith, size))

  pub parent_there : 0 < length nodes → last_of path < length nodes
  parent_there m = is.path_there (length path - 1) (omega (arith, started m))

  pub first : (c : ℕ) → 0 < c → c < length grown → parent_of grown c < c
  first c later m = by (at_last c m)
    where
      by : (c < length nodes) ⊎ (c ≡ length nodes) → parent_of grown c < c
      by (inl k) = omega (arith, old_parent c k, is.parent_first c later k)
      by (inr e) = omega (arith, last_parent c e, parent_there (omega arith))

  in_order : (c k : ℕ) → 0 < c → c < length grown → parent_of grown c < k → k < c → parent_of grown c ≤ parent_of grown k
  in_order c k later m after before = by (at_last c m)
    where
      by : (c < length nodes) ⊎ (c ≡ length nodes) → parent_of grown c ≤ parent_of grown k
      by (inl j) =
          let mine = old_parent c j in
          let other = old_parent k (omega arith) in
          omega (arith, mine, other, is.preorder c k later j (omega arith) before)
      by (inr e) =
          let mine = last_parent c e in
          let other = old_parent k (omega arith) in
          omega (arith, mine, other, is.path_over (length path - 1) k (omega (arith, started (omega arith))) (omega arith) (omega arith))

  -- each open node is at most the innermost one
  at_most_last : (k : ℕ) → k < length path → get_or path k 0 ≤ last_of path
  at_most_last k m = by (cases_eq k (length path - 1))
    where
      by : (k ≡ length path - 1) ⊎ (k ≡ length path - 1 → ⊥) → get_or path k 0 ≤ last_of path
      by (inl e) = omega (arith, ap (λ j. get_or path j 0) e)
      by (inr ne) = omega (arith, is.path_up k (length path - 1) (omega arith) (omega arith))

  over : (k j : ℕ) → k < length path → get_or path k 0 < j → j < length grown → get_or path k 0 ≤ parent_of grown j
  over k j m after there = by (at_last j there)
    where
      by : (j < length nodes) ⊎ (j ≡ length nodes) → get_or path k 0 ≤ parent_of grown j
      by (inl i) = omega (arith, old_parent j i, is.path_over k j m after i)
      by (inr e) = omega (arith, last_parent j e, at_most_last k m)

  -- a node that was closed stays closed
  old_closed : (n : ℕ) → n < length nodes → ((k : ℕ) → k < length path → get_or path k 0 ≢ n) → IsInterval (kind_of grown n) (length (children_of grown n))
  old_closed n m outside =
      let other : last_of path ≢ n = outside (length path - 1) (omega (arith, started (omega arith))) in
      subst (λ cs. IsInterval (kind_of grown n) (length cs)) (sym (children_of-other nodes added n other))
      (subst (λ (x : Node). IsInterval x.kind (length (children_of nodes n))) (sym (old_node nodes added n m)) (is.closed n m outside))

  root : parent_of grown 0 ≡ 0
  root = by (cases_lt 0 (length nodes))
    where
      by : (0 < length nodes) ⊎ (length nodes ≤ 0) → parent_of grown 0 ≡ 0
      by (inl some) = old_parent 0 some ∙ is.root_parent
      by (inr none) = last_parent 0 (omega arith) ∙ get_or_past path (length path - 1) 0 (omega (arith, no_path none))

  pub IsGrown-leaf : IsInterval kind 0 → IsGrown (nodes ++ record { kind = kind; parent = last_of path } ∷ []) path
  IsGrown-leaf leaf = record {
    root_parent = root;
    few = omega (arith, size, is.few);
    deep = is.deep;
    parent_first = first;
    preorder = in_order;
    path_there = λ k m. omega (arith, size, is.path_there k m);
    path_up = is.path_up;
    path_over = over;
    closed = λ n m outside. closed n outside (at_last n m);
  }
    where
      closed : (n : ℕ) → ((k : ℕ) → k < length path → get_or path k 0 ≢ n) → (n < length nodes) ⊎ (n ≡ length nodes) → IsInterval (kind_of grown n) (length (children_of grown n))
      closed n outside (inl k) = old_closed n k outside
      closed n outside (inr e) =
          subst (λ cs. IsInterval (kind_of grown n) (length cs)) (sym (none n e))
          (subst (λ j. IsInterval (kind_of grown j) 0) (sym e) (subst (λ (x : Node). IsInterval x.kind 0) (sym (last_node nodes added)) leaf))
        where
          none : (n : ℕ) → n ≡ length nodes → children_of grown n ≡ []
          none n e = children_of-past grown n first (omega (arith, size))

  pub IsGrown-open : length path < 16 → IsGrown (nodes ++ record { kind = kind; parent = last_of path } ∷ []) (path ++ length nodes ∷ [])
  IsGrown-open deep = record {
    root_parent = root;
    few = omega (arith, size, is.few);
    deep = omega (arith, longer, is.deep);
    parent_first = first;
    preorder = in_order;
    path_there = λ k m. at_path k m (λ j. j < length grown) (λ i. omega (arith, size, is.path_there k i)) (λ e. omega (arith, size));
    path_up = λ i j m n.
        at_path j n (λ b. get_or longer_path i 0 < b)
        (λ o. omega (arith, old_path i (omega arith), is.path_up i j m o))
        (λ e. omega (arith, old_path i (omega arith), is.path_there i (omega arith)));
    path_over = λ k j m after there.
        by_path k m (λ o. omega (arith, old_path k o, over k j o (omega (arith, old_path k o)) there)) (λ e. absurd (omega (arith, last_path k e, size)));
    closed = λ n m outside. by_node n m outside (at_last n m);
  }
    where
      longer_path : List ℕ
      longer_path = path ++ length nodes ∷ []

      longer : length longer_path ≡ length path + 1
      longer = length-append path (length nodes ∷ [])

      old_path : (k : ℕ) → k < length path → get_or longer_path k 0 ≡ get_or path k 0
      old_path k m = get_or_append_left path (length nodes ∷ []) 0 k m

      last_path : (k : ℕ) → k ≡ length path → get_or longer_path k 0 ≡ length nodes
      last_path k e = get_or_at path (length nodes) [] 0 k (sym e)

      by_path : {P : Type 0} (k : ℕ) → k < length longer_path → (k < length path → P) → (k ≡ length path → P) → P
      by_path {P} k m yes' no' = by (cases_lt k (length path))
        where
          by : (k < length path) ⊎ (length path ≤ k) → P
          by (inl i) = yes' i
          by (inr i) = no' (omega (arith, longer))

      at_path : (k : ℕ) → k < length longer_path → (P : ℕ → Type 0) → (k < length path → P (get_or path k 0)) → (k ≡ length path → P (length nodes)) → P (get_or longer_path k 0)
      at_path k m P old last = by_path k m (λ i. subst P (sym (old_path k i)) (old i)) (λ e. subst P (sym (last_path k e)) (last e))

      by_node : (n : ℕ) → n < length grown → ((k : ℕ) → k < length longer_path → get_or longer_path k 0 ≢ n) → (n < length nodes) ⊎ (n ≡ length nodes) → IsInterval (kind_of grown n) (length (children_of grown n))
      by_node n m outside (inl o) = old_closed n o (λ k i e. outside k (omega (arith, longer)) (old_path k i ∙ e))
      by_node n m outside (inr e) = absurd (outside (length path) (omega (arith, longer)) (last_path (length path) refl ∙ sym e))

-- the innermost open node is closed
pub IsGrown-close : (nodes : List Node) (path : List ℕ) → IsGrown nodes path → 0 < length path
    → IsInterval (kind_of nodes (last_of path)) (length (children_of nodes (last_of path))) → IsGrown nodes (take (length path - 1) path)
IsGrown-close nodes path is some fits = record {
  root_parent = is.root_parent;
  few = is.few;
  deep = omega (arith, shorter, is.deep);
  parent_first = is.parent_first;
  preorder = is.preorder;
  path_there = λ k m. omega (arith, same k (omega (arith, shorter)), is.path_there k (omega (arith, shorter)));
  path_up = λ i j m n. omega (arith, same i (omega (arith, shorter)), same j (omega (arith, shorter)), is.path_up i j m (omega (arith, shorter)));
  path_over = λ k j m after there.
      omega (arith, same k (omega (arith, shorter)), is.path_over k j (omega (arith, shorter)) (omega (arith, same k (omega (arith, shorter)))) there);
  closed = λ n m outside. by n m outside (cases_eq n (last_of path));
}
  where
    shorter : length (take (length path - 1) path) ≡ length path - 1
    shorter = length-take-le (length path - 1) path (omega arith)

    same : (k : ℕ) → k < length path - 1 → get_or (take (length path - 1) path) k 0 ≡ get_or path k 0
    same k m = get_or-take (length path - 1) path k 0 m

    by : (n : ℕ) → n < length nodes → ((k : ℕ) → k < length (take (length path - 1) path) → get_or (take (length path - 1) path) k 0 ≢ n)
        → (n ≡ last_of path) ⊎ (n ≡ last_of path → ⊥) → IsInterval (kind_of nodes n) (length (children_of nodes n))
    by n m outside (inl e) = subst (λ j. IsInterval (kind_of nodes j) (length (children_of nodes j))) (sym e) fits
    by n m outside (inr ne) = is.closed n m (λ k i e. other k i e (cases_eq k (length path - 1)))
      where
        other : (k : ℕ) → k < length path → get_or path k 0 ≡ n → (k ≡ length path - 1) ⊎ (k ≡ length path - 1 → ⊥) → ⊥
        other k i e (inl f) = ne (sym e ∙ ap (λ j. get_or path j 0) f)
        other k i e (inr f) = outside k (omega (arith, shorter)) (same k (omega arith) ∙ e)

-- with no open node it is a tree
pub IsTree-from_grown : (nodes : List Node) (path : List ℕ) → IsGrown nodes path → length path ≡ 0 → 0 < length nodes → IsTree nodes
IsTree-from_grown nodes path is none some = record {
  rooted = some;
  root_parent = is.root_parent;
  parent_first = is.parent_first;
  preorder = is.preorder;
  interval = λ n m. is.closed n m (λ k i. absurd (omega arith));
}
