-- A tree that grows by one node: what holds of a tree whose last nodes are still to come.
use Rattle.std.proofs.Common.{ℕ, suc, ◌+◌, ◌<◌, ◌≤◌, ◌≡◌, true, cond, ◌&&◌, eqb, ltb, [], ◌∷◌, ◌++◌, length, get_or, ℤ, pos, neg_ℤ, ◌≤ℤ◌, arith, ap, sym, ◌∙◌, ◌⊎◌, inl, inr, subst, length-append}
use Rattle.std.proofs.lemmas.Bool.{cases_lt, cases_eq, lt-ltb, eq-eqb, ne_eqb}
use Rattle.std.proofs.lemmas.List.{get_or_append_left, get_or_at}
use Rattle.ice_defs.specs.declared.Node.{Node}
use Rattle.ice_defs.specs.declared.NodeKind.{NodeKind}
use Rattle.ice_defs.specs.Tree.{Tree, kind_of, parent_of, children_of, no_node}
use Rattle.ice_defs.specs.Set.{Weights, weight_of}
use Rattle.ice_defs.specs.Bounds.{Bounds}
use Rattle.ice_defs.specs.Lawful.{IsLimitedKind, IsDepth, AreBounds}
use Rattle.ice_tree.proofs.MoreNodes.{children_of-past, old_node, children_of-new}

-- ---- a number per node, with one more

abbrev pub with_last : ℕ → ℕ → (ℕ → ℕ) → ℕ → ℕ
with_last last v f n = cond (eqb n last) v (f n)

pub at_last : (last v : ℕ) (f : ℕ → ℕ) (n : ℕ) → n ≡ last → with_last last v f n ≡ v
at_last last v f n e = ap (λ b. cond b v (f n)) (eq-eqb n last e)

pub before_last : (last v : ℕ) (f : ℕ → ℕ) (n : ℕ) → n < last → with_last last v f n ≡ f n
before_last last v f n l = ap (λ b. cond b v (f n)) (ne_eqb n last (λ e. omega arith))

-- ---- children

module _ (t : Tree) (x : Node) where
  pub length_grown : length (t ++ x ∷ []) ≡ length t + 1
  length_grown = length-append t (x ∷ [])

  pub last_node : (c : ℕ) → c ≡ length t → get_or (t ++ x ∷ []) c no_node ≡ x
  last_node c e = get_or_at t x [] no_node c (sym e)

  pub old_kind : (c : ℕ) → c < length t → kind_of (t ++ x ∷ []) c ≡ kind_of t c
  old_kind c l = ap (λ (n : Node). n.kind) (old_node t x c l)

  pub last_kind : (c : ℕ) → c ≡ length t → kind_of (t ++ x ∷ []) c ≡ x.kind
  last_kind c e = ap (λ (n : Node). n.kind) (last_node c e)

  pub old_parent : (c : ℕ) → c < length t → parent_of (t ++ x ∷ []) c ≡ parent_of t c
  old_parent c l = ap (λ (n : Node). n.parent) (old_node t x c l)

  pub last_parent : (c : ℕ) → c ≡ length t → parent_of (t ++ x ∷ []) c ≡ x.parent
  last_parent c e = ap (λ (n : Node). n.parent) (last_node c e)

  pub old_or_last : (c : ℕ) → c < length (t ++ x ∷ []) → (c < length t) ⊎ (c ≡ length t)
  old_or_last c l = by (cases_lt c (length t))
    where
      by : (c < length t) ⊎ (length t ≤ c) → (c < length t) ⊎ (c ≡ length t)
      by (inl k) = inl k
      by (inr k) = inr (omega (arith, length_grown))

  -- the new one's parent has one more
  pub children_of_parent : (p : ℕ) → x.parent ≡ p → p < length t → length (children_of (t ++ x ∷ []) p) ≡ length (children_of t p) + 1
  children_of_parent p e l =
      let here : ltb 0 (length t) ≡ true = lt-ltb 0 (length t) (omega arith) in
      ap length (children_of-new t x p ∙ ap (λ b. children_of t p ++ cond (b && eqb x.parent p) (length t ∷ []) []) here ∙ ap (λ b. children_of t p ++ cond b (length t ∷ []) []) (eq-eqb _ _ e))
      ∙ length-append (children_of t p) (length t ∷ [])

-- ---- the shape of a tree whose last nodes are still to come

pub record IsShaped (goods : ℕ) (t : Tree) (bounds : Bounds) (depth : ℕ → ℕ) : Type 0 where
  pub few : length t ≤ 200
  pub root_parent : parent_of t 0 ≡ 0
  pub parent_first : (c : ℕ) → 0 < c → c < length t → parent_of t c < c
  pub preorder : (c k : ℕ) → 0 < c → c < length t → parent_of t c < k → k < c → parent_of t c ≤ parent_of t k
  pub depths : IsDepth t depth
  pub deep : (n : ℕ) → n < length t → depth n ≤ 16
  pub kinds : (n : ℕ) → n < length t → IsLimitedKind goods (kind_of t n)
  pub values : AreBounds (length t) bounds

-- where a node may be added: its parent p, which has depth d - 1
pub record IsPlace (t : Tree) (depth : ℕ → ℕ) (p d : ℕ) : Type 0 where
  pub root : length t ≡ 0 → (p ≡ 0) × (d ≡ 1)
  pub there : 0 < length t → p < length t
  pub over : (k : ℕ) → p < k → k < length t → p ≤ parent_of t k
  pub deep : 0 < length t → d ≡ suc (depth p)

pub record IsNodeValue (lo hi : ℤ) : Type 0 where
  pub low : neg_ℤ (pos 1000000000) ≤ℤ lo
  pub ordered : lo ≤ℤ hi
  pub high : hi ≤ℤ pos 1000000000

pub old_weight : (ws : Weights) (w : ℤ) (n : ℕ) → n < length ws → weight_of (ws ++ w ∷ []) n ≡ weight_of ws n
old_weight ws w n l = get_or_append_left ws (w ∷ []) (pos 0) n l

pub last_weight : (ws : Weights) (w : ℤ) (n : ℕ) → n ≡ length ws → weight_of (ws ++ w ∷ []) n ≡ w
last_weight ws w n e = get_or_at ws w [] (pos 0) n (sym e)

module _ (goods : ℕ) (t : Tree) (bounds : Bounds) (depth : ℕ → ℕ) (is : IsShaped goods t bounds depth)
    (p d : ℕ) (place : IsPlace t depth p d) (kind : NodeKind) (lo hi : ℤ) where
  abbrev added : Node
  added = record { kind = kind; parent = p }

  first_grown : (c : ℕ) → 0 < c → c < length (t ++ added ∷ []) → parent_of (t ++ added ∷ []) c < c
  first_grown c later m = by (old_or_last t added c m)
    where
      by : (c < length t) ⊎ (c ≡ length t) → parent_of (t ++ added ∷ []) c < c
      by (inl k) = omega (arith, old_parent t added c k, is.parent_first c later k)
      by (inr e) = omega (arith, last_parent t added c e, place.there (omega arith))

  in_order : (c k : ℕ) → 0 < c → c < length (t ++ added ∷ []) → parent_of (t ++ added ∷ []) c < k → k < c → parent_of (t ++ added ∷ []) c ≤ parent_of (t ++ added ∷ []) k
  in_order c k later m after before = by (old_or_last t added c m)
    where
      by : (c < length t) ⊎ (c ≡ length t) → parent_of (t ++ added ∷ []) c ≤ parent_of (t ++ added ∷ []) k
      by (inl j) =
          let mine = old_parent t added c j in
          let other = old_parent t added k (omega arith) in
          omega (arith, mine, other, is.preorder c k later j (omega arith) before)
      by (inr e) =
          let mine = last_parent t added c e in
          let other = old_parent t added k (omega arith) in
          omega (arith, mine, other, place.over k (omega arith) (omega arith))

  root_grown : parent_of (t ++ added ∷ []) 0 ≡ 0
  root_grown = by (cases_eq (length t) 0)
    where
      by : (length t ≡ 0) ⊎ (length t ≡ 0 → ⊥) → parent_of (t ++ added ∷ []) 0 ≡ 0
      by (inl e) = last_parent t added 0 (sym e) ∙ (place.root e).0
      by (inr ne) = old_parent t added 0 (omega arith) ∙ is.root_parent

  depth_grown : IsDepth (t ++ added ∷ []) (with_last (length t) d depth)
  depth_grown = (root (cases_eq (length t) 0), λ n some l. each n some (old_or_last t added n l))
    where
      root : (length t ≡ 0) ⊎ (length t ≡ 0 → ⊥) → with_last (length t) d depth 0 ≡ 1
      root (inl e) = at_last (length t) d depth 0 (sym e) ∙ (place.root e).1
      root (inr ne) = before_last (length t) d depth 0 (omega arith) ∙ is.depths.0

      each : (n : ℕ) → 0 < n → (n < length t) ⊎ (n ≡ length t) → with_last (length t) d depth n ≡ suc (with_last (length t) d depth (parent_of (t ++ added ∷ []) n))
      each n some (inl l) =
          before_last (length t) d depth n l ∙ is.depths.1 n some l
          ∙ ap suc (sym (before_last (length t) d depth (parent_of t n) (omega (arith, is.parent_first n some l))))
          ∙ ap (λ k. suc (with_last (length t) d depth k)) (sym (old_parent t added n l))
      each n some (inr e) =
          at_last (length t) d depth n e ∙ place.deep (omega arith)
          ∙ ap suc (sym (before_last (length t) d depth p (place.there (omega arith))))
          ∙ ap (λ k. suc (with_last (length t) d depth k)) (sym (last_parent t added n e))

  deep_grown : d ≤ 16 → (n : ℕ) → n < length (t ++ added ∷ []) → with_last (length t) d depth n ≤ 16
  deep_grown few n l = by (old_or_last t added n l)
    where
      by : (n < length t) ⊎ (n ≡ length t) → with_last (length t) d depth n ≤ 16
      by (inl k) = omega (arith, before_last (length t) d depth n k, is.deep n k)
      by (inr e) = omega (arith, at_last (length t) d depth n e)

  kinds_grown : IsLimitedKind goods kind → (n : ℕ) → n < length (t ++ added ∷ []) → IsLimitedKind goods (kind_of (t ++ added ∷ []) n)
  kinds_grown lawful n l = by (old_or_last t added n l)
    where
      by : (n < length t) ⊎ (n ≡ length t) → IsLimitedKind goods (kind_of (t ++ added ∷ []) n)
      by (inl k) = subst (IsLimitedKind goods) (sym (old_kind t added n k)) (is.kinds n k)
      by (inr e) = subst (IsLimitedKind goods) (sym (last_kind t added n e)) lawful

  bounds_grown : IsNodeValue lo hi → AreBounds (length (t ++ added ∷ [])) (record { lo = bounds.lo ++ lo ∷ []; hi = bounds.hi ++ hi ∷ [] })
  bounds_grown value = record {
    lo_count = omega (arith, length_grown t added, length-append bounds.lo (lo ∷ []), is.values.lo_count);
    hi_count = omega (arith, length_grown t added, length-append bounds.hi (hi ∷ []), is.values.hi_count);
    low = λ n l. low n (old_or_last t added n l);
    ordered = λ n l. ordered n (old_or_last t added n l);
    high = λ n l. high n (old_or_last t added n l);
  }
    where
      los : Weights
      los = bounds.lo ++ lo ∷ []

      his : Weights
      his = bounds.hi ++ hi ∷ []

      old_lo : (n : ℕ) → n < length t → weight_of (bounds.lo ++ lo ∷ []) n ≡ weight_of bounds.lo n
      old_lo n l = old_weight bounds.lo lo n (omega (arith, is.values.lo_count))

      old_hi : (n : ℕ) → n < length t → weight_of (bounds.hi ++ hi ∷ []) n ≡ weight_of bounds.hi n
      old_hi n l = old_weight bounds.hi hi n (omega (arith, is.values.hi_count))

      last_lo : (n : ℕ) → n ≡ length t → weight_of (bounds.lo ++ lo ∷ []) n ≡ lo
      last_lo n e = last_weight bounds.lo lo n (e ∙ sym is.values.lo_count)

      last_hi : (n : ℕ) → n ≡ length t → weight_of (bounds.hi ++ hi ∷ []) n ≡ hi
      last_hi n e = last_weight bounds.hi hi n (e ∙ sym is.values.hi_count)

      low : (n : ℕ) → (n < length t) ⊎ (n ≡ length t) → neg_ℤ (pos 1000000000) ≤ℤ weight_of (bounds.lo ++ lo ∷ []) n
      low n (inl l) = subst (λ z. neg_ℤ (pos 1000000000) ≤ℤ z) (sym (old_lo n l)) (is.values.low n l)
      low n (inr e) = subst (λ z. neg_ℤ (pos 1000000000) ≤ℤ z) (sym (last_lo n e)) value.low

      ordered : (n : ℕ) → (n < length t) ⊎ (n ≡ length t) → weight_of (bounds.lo ++ lo ∷ []) n ≤ℤ weight_of (bounds.hi ++ hi ∷ []) n
      ordered n (inl l) = subst (λ z. z ≤ℤ weight_of (bounds.hi ++ hi ∷ []) n) (sym (old_lo n l)) (subst (λ z. weight_of bounds.lo n ≤ℤ z) (sym (old_hi n l)) (is.values.ordered n l))
      ordered n (inr e) = subst (λ z. z ≤ℤ weight_of (bounds.hi ++ hi ∷ []) n) (sym (last_lo n e)) (subst (λ z. lo ≤ℤ z) (sym (last_hi n e)) value.ordered)

      high : (n : ℕ) → (n < length t) ⊎ (n ≡ length t) → weight_of (bounds.hi ++ hi ∷ []) n ≤ℤ pos 1000000000
      high n (inl l) = subst (λ z. z ≤ℤ pos 1000000000) (sym (old_hi n l)) (is.values.high n l)
      high n (inr e) = subst (λ z. z ≤ℤ pos 1000000000) (sym (last_hi n e)) value.high

  pub IsShaped-grown : length t < 200 → d ≤ 16 → IsLimitedKind goods kind → IsNodeValue lo hi
      → IsShaped goods (t ++ record { kind = kind; parent = p } ∷ []) (record { lo = bounds.lo ++ lo ∷ []; hi = bounds.hi ++ hi ∷ [] }) (with_last (length t) d depth)
  IsShaped-grown room shallow lawful value = record {
    few = omega (arith, length_grown t added);
    root_parent = root_grown;
    parent_first = first_grown;
    preorder = in_order;
    depths = depth_grown;
    deep = deep_grown shallow;
    kinds = kinds_grown lawful;
    values = bounds_grown value;
  }

  -- the new node has no child yet
  pub none_yet : (n : ℕ) → n ≡ length t → children_of (t ++ record { kind = kind; parent = p } ∷ []) n ≡ []
  none_yet n e = children_of-past (t ++ added ∷ []) n first_grown (omega (arith, length_grown t added))
