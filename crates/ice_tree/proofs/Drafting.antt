-- What a maker keeps at each of its calls.
use Rattle.std.proofs.Common.{ℕ, suc, ◌+◌, ◌-◌, ◌<◌, ◌≤◌, ◌≡◌, Bool, true, false, cond, ◌&&◌, not, eqb, ltb, leb, List, [], ◌∷◌, ◌++◌, length, get_or, set, take, drop, Option, Some, None, ℤ, pos, neg_ℤ, ◌≤ℤ◌, refl, arith, ap, sym, ◌∙◌, ◌⊎◌, inl, inr, subst, length-append}
use Rattle.std.specs.Prelude.{reverse, int_le, int_lt}
use Rattle.std.proofs.lemmas.Bool.{cases_lt, cases_eq, and_parts, and_from, ltb-true, ltb-false, leb-true, leb-false, lt-ltb, eqb-true, eq-eqb, ne_eqb}
use Rattle.std.proofs.lemmas.Bool.Decides.{nat_tests}
use Rattle.std.proofs.lemmas.List.{take-append-drop, length-drop, get_or_append_left, get_or_at, get_or_past, get_or-reverse, length-reverse, reverse-append, get_or-take, length-take-le, get_or-set_same, get_or-set_other, length-set}
use Rattle.ice_defs.specs.declared.Node.{Node}
use Rattle.ice_defs.specs.declared.NodeKind.{NodeKind}
use Rattle.ice_defs.specs.declared.NodeKind.TheVariants.{Choose, Buy, Sell}
use Rattle.ice_defs.specs.Tree.{Tree, IsInterval, kind_of, parent_of, is_child, children_of}
use Rattle.ice_defs.specs.Set.{weight_of}
use Rattle.ice_defs.specs.Making.{TreeDraft, innermost, with_open, is_value, is_lawful_kind, node_refusal, draft_refusal, is_complete}
use Rattle.ice_defs.specs.Lawful.{IsLimitedKind, IsLimitedTree, IsDepth, AreBounds}
use Rattle.ice_tree.specs.Making.{IsLeaf, IsMaking, IsGrown, AreCounts, HasDepths, one_child_more, Making, all_but_first, with_closed, draft_of, kind_close_refusal, draft_close_refusal}
use Rattle.ice_tree.proofs.MoreNodes.{last_of, old_node, last_node, children_of-new, children_of-other, children_of-past, size, old_parent, last_parent, parent_there, first, no_path, IsGrown-leaf, IsGrown-open, IsGrown-close, IsTree-from_grown}
use Rattle.ice_defs.proofs.Below.{filter-few}
use Rattle.ice_defs.proofs.Integers.{int_le-true, int_lt-false}
use Rattle.ice_defs.proofs.Choices.{some_refused}

-- ---- the path

innermost-get_or : (xs : List ℕ) → innermost xs ≡ get_or xs 0 0
innermost-get_or [] = refl
innermost-get_or (x ∷ xs) = refl

pub innermost-reverse : (path : List ℕ) → innermost (reverse path) ≡ last_of path
innermost-reverse path = innermost-get_or (reverse path) ∙ by (cases_lt 0 (length path))
  where
    by : (0 < length path) ⊎ (length path ≤ 0) → get_or (reverse path) 0 0 ≡ last_of path
    by (inl some) = get_or-reverse path 0 0 some ∙ ap (λ k. get_or path k 0) (omega arith)
    by (inr none) = get_or_past (reverse path) 0 0 (omega (arith, length-reverse path)) ∙ sym (get_or_past path (length path - 1) 0 (omega arith))

-- one more open node
pub reverse-push : (path : List ℕ) (node : ℕ) → reverse (path ++ node ∷ []) ≡ node ∷ reverse path
reverse-push path node = reverse-append path (node ∷ [])

-- the innermost open node is closed
pub reverse-pop : (path : List ℕ) → reverse (take (length path - 1) path) ≡ all_but_first (reverse path)
reverse-pop [] = refl
reverse-pop (x ∷ xs) = by (drop (length path - 1) path) (take-append-drop (length path - 1) path) (length-drop (length path - 1) path)
  where
    path : List ℕ
    path = x ∷ xs

    by : (rest : List ℕ) → take (length path - 1) path ++ rest ≡ path → length rest ≡ length path - (length path - 1) → reverse (take (length path - 1) path) ≡ all_but_first (reverse path)
    by [] e h = absurd (omega arith)
    by (y ∷ []) e h = ap all_but_first (sym (reverse-push (take (length path - 1) path) y) ∙ ap reverse e)
    by (y ∷ z ∷ rest) e h = absurd (omega arith)

-- ---- refusals

not_false : (b : Bool) → not b ≡ false → b ≡ true
not_false true e = refl
not_false false e = sym e

-- what holds of a node that isn't refused
pub record IsTaken (goods nodes opened : ℕ) (kind : NodeKind) (lo hi : ℤ) : Type 0 where
  pub room : nodes < 200
  pub shallow : opened < 16
  pub started : 0 < nodes → 0 < opened
  pub lawful : is_lawful_kind goods kind ≡ true
  pub low : neg_ℤ (pos 1000000000) ≤ℤ lo
  pub ordered : lo ≤ℤ hi
  pub high : hi ≤ℤ pos 1000000000

has_open : (nodes opened : ℕ) → 0 < nodes → (ltb 0 nodes && eqb opened 0) ≡ false → 0 < opened
has_open nodes opened some e = grind (arith, nat_tests)

pub IsTaken-from_none : (goods : ℕ) (d : TreeDraft) (kind : NodeKind) (lo hi : ℤ) → draft_refusal goods d kind lo hi ≡ None
    → IsTaken goods (length d.tree) (length d.opened) kind lo hi
IsTaken-from_none goods d kind lo hi e =
    let taken : Option ℕ = node_refusal goods (length d.tree) (suc (length d.opened)) kind lo hi in
    let unfinished = some_refused (is_complete d) 25 taken e in
    let room = some_refused (leb 200 (length d.tree)) 23 _ unfinished.1 in
    let shallow = some_refused (ltb 16 (suc (length d.opened))) 24 _ room.1 in
    let lawful = some_refused (not (is_lawful_kind goods kind && is_value lo && is_value hi)) 22 _ shallow.1 in
    let ordered = some_refused (int_lt hi lo) 21 None lawful.1 in
    let parts = and_parts (is_lawful_kind goods kind && is_value lo) (is_value hi) (not_false _ lawful.0) in
    let kinds = and_parts (is_lawful_kind goods kind) (is_value lo) parts.0 in
    let los = and_parts (int_le (neg_ℤ (pos 1000000000)) lo) (int_le lo (pos 1000000000)) kinds.1 in
    let his = and_parts (int_le (neg_ℤ (pos 1000000000)) hi) (int_le hi (pos 1000000000)) parts.1 in
    record {
      room = leb-false 200 (length d.tree) room.0;
      shallow = omega (arith, ltb-false 16 (suc (length d.opened)) shallow.0);
      started = λ some. has_open (length d.tree) (length d.opened) some unfinished.0;
      lawful = kinds.0;
      low = int_le-true _ _ los.0;
      ordered = int_lt-false _ _ ordered.0;
      high = int_le-true _ _ his.1;
    }

-- the same of what the maker keeps
pub IsTaken-from_draft : (goods : ℕ) (nodes : List Node) (lo hi : List ℤ) (path : List ℕ) (kind : NodeKind) (l h : ℤ)
    → draft_refusal goods (draft_of nodes lo hi path) kind l h ≡ None → IsTaken goods (length nodes) (length path) kind l h
IsTaken-from_draft goods nodes lo hi path kind l h e =
    subst (λ n. IsTaken goods (length nodes) n kind l h) (length-reverse path) (IsTaken-from_none goods (draft_of nodes lo hi path) kind l h e)

-- a draft that isn't complete refuses what its node does
pub draft_refusal-unfinished : (own goods nodes depth : ℕ) (d : TreeDraft) (kind : NodeKind) (lo hi : ℤ) → is_complete d ≡ false → own ≡ goods → nodes ≡ length d.tree → depth ≡ suc (length d.opened)
    → node_refusal own nodes depth kind lo hi ≡ draft_refusal goods d kind lo hi
draft_refusal-unfinished own goods nodes depth d kind lo hi unfinished same_goods same_nodes same_depth =
    ap (λ g. node_refusal g nodes depth kind lo hi) same_goods
    ∙ ap (λ n. node_refusal goods n depth kind lo hi) same_nodes
    ∙ ap (λ n. node_refusal goods (length d.tree) n kind lo hi) same_depth
    ∙ ap (λ b. cond b (Some 25) (node_refusal goods (length d.tree) (suc (length d.opened)) kind lo hi)) (sym unfinished)

IsLimitedKind-from_lawful : (goods : ℕ) (kind : NodeKind) → is_lawful_kind goods kind ≡ true → IsLimitedKind goods kind
IsLimitedKind-from_lawful goods (Choose least most) e = tt
IsLimitedKind-from_lawful goods (Buy good units) e =
    let parts = and_parts _ _ e in
    let first' = and_parts _ _ parts.0 in
    (ltb-true _ _ first'.0, leb-true _ _ first'.1, leb-true _ _ parts.1)
IsLimitedKind-from_lawful goods (Sell good units) e =
    let parts = and_parts _ _ e in
    let first' = and_parts _ _ parts.0 in
    (ltb-true _ _ first'.0, leb-true _ _ first'.1, leb-true _ _ parts.1)

pub IsInterval-from_leaf : (kind : NodeKind) → IsLeaf kind → IsInterval kind 0
IsInterval-from_leaf (Choose least most) leaf = absurd leaf
IsInterval-from_leaf (Buy good units) leaf = refl
IsInterval-from_leaf (Sell good units) leaf = refl

pub IsInterval-from_unrefused : (kind : NodeKind) (n : ℕ) → kind_close_refusal kind n ≡ None → IsInterval kind n
IsInterval-from_unrefused (Choose least most) n e = grind (arith, nat_tests)
IsInterval-from_unrefused (Buy good units) n e = grind (arith, nat_tests)
IsInterval-from_unrefused (Sell good units) n e = grind (arith, nat_tests)

-- ---- lists that grow by one

AreBounds-append : (n : ℕ) (lo hi : List ℤ) (l h : ℤ) → AreBounds n record { lo = lo; hi = hi } → neg_ℤ (pos 1000000000) ≤ℤ l → l ≤ℤ h → h ≤ℤ pos 1000000000
    → AreBounds (n + 1) record { lo = lo ++ l ∷ []; hi = hi ++ h ∷ [] }
AreBounds-append n lo hi l h are low ordered high = record {
  lo_count = omega (arith, length-append lo (l ∷ []), are.lo_count);
  hi_count = omega (arith, length-append hi (h ∷ []), are.hi_count);
  low = λ k m. by k m (λ a b. neg_ℤ (pos 1000000000) ≤ℤ a) (are.low k) low;
  ordered = λ k m. by k m (λ a b. a ≤ℤ b) (are.ordered k) ordered;
  high = λ k m. by k m (λ a b. b ≤ℤ pos 1000000000) (are.high k) high;
}
  where
    by : (k : ℕ) → k < n + 1 → (P : ℤ → ℤ → Type 0) → (k < n → P (weight_of lo k) (weight_of hi k)) → P l h → P (weight_of (lo ++ l ∷ []) k) (weight_of (hi ++ h ∷ []) k)
    by k m P old last = cases (cases_lt k n)
      where
        cases : (k < n) ⊎ (n ≤ k) → P (weight_of (lo ++ l ∷ []) k) (weight_of (hi ++ h ∷ []) k)
        cases (inl o) =
            subst (λ a. P a (weight_of (hi ++ h ∷ []) k)) (sym (get_or_append_left lo (l ∷ []) (pos 0) k (omega (arith, are.lo_count))))
            (subst (λ b. P (weight_of lo k) b) (sym (get_or_append_left hi (h ∷ []) (pos 0) k (omega (arith, are.hi_count)))) (old o))
        cases (inr o) =
            subst (λ a. P a (weight_of (hi ++ h ∷ []) k)) (sym (get_or_at lo l [] (pos 0) k (omega (arith, are.lo_count))))
            (subst (λ b. P l b) (sym (get_or_at hi h [] (pos 0) k (omega (arith, are.hi_count)))) last)

-- ---- the maker's calls

module _ (nodes : List Node) (path : List ℕ) (is : IsGrown nodes path) (kind : NodeKind) (room : length nodes < 200) (started : 0 < length nodes → 0 < length path) where
  abbrev new : List Node
  new = nodes ++ record { kind = kind; parent = last_of path } ∷ []

  new_size : length new ≡ length nodes + 1
  new_size = size nodes path is kind room started

  at_new : (n : ℕ) → n < length new → (P : Type 0) → (n < length nodes → P) → (n ≡ length nodes → P) → P
  at_new n m P old last = by (cases_lt n (length nodes))
    where
      by : (n < length nodes) ⊎ (length nodes ≤ n) → P
      by (inl o) = old o
      by (inr o) = last (omega (arith, new_size))

  kinds-new : (goods : ℕ) → ((n : ℕ) → n < length nodes → IsLimitedKind goods (kind_of nodes n)) → IsLimitedKind goods kind → (n : ℕ) → n < length new → IsLimitedKind goods (kind_of new n)
  kinds-new goods old last n m =
      at_new n m (IsLimitedKind goods (kind_of new n))
      (λ o. subst (λ (x : Node). IsLimitedKind goods x.kind) (sym (old_node nodes record { kind = kind; parent = last_of path } n o)) (old n o))
      (λ e. subst (λ j. IsLimitedKind goods (kind_of new j)) (sym e) (subst (λ (x : Node). IsLimitedKind goods x.kind) (sym (last_node nodes record { kind = kind; parent = last_of path })) last))

  counts-new : (children : List ℕ) → AreCounts nodes children → AreCounts new (one_child_more children (last_of path))
  counts-new children counts = record {
    there = omega (arith, length-append (set children (last_of path) (get_or children (last_of path) 0 + 1)) (0 ∷ []), length-set children (last_of path) (get_or children (last_of path) 0 + 1), counts.there, new_size);
    are = λ n m. at_new n m _ (λ o. old n o) (λ e. last n e);
  }
    where
      one_more : List ℕ
      one_more = set children (last_of path) (get_or children (last_of path) 0 + 1)

      length-one_more : length (set children (last_of path) (get_or children (last_of path) 0 + 1)) ≡ length nodes
      length-one_more = length-set children (last_of path) (get_or children (last_of path) 0 + 1) ∙ counts.there

      same : last_of path < length nodes → get_or (set children (last_of path) (get_or children (last_of path) 0 + 1)) (last_of path) 0 ≡ length (children_of new (last_of path))
      same o =
          let both : (ltb 0 (length nodes) && eqb (last_of path) (last_of path)) ≡ true = and_from _ _ (lt-ltb 0 (length nodes) (omega arith)) (eq-eqb (last_of path) (last_of path) refl) in
          let grown = children_of-new nodes record { kind = kind; parent = last_of path } (last_of path) ∙ ap (λ b. children_of nodes (last_of path) ++ cond b (length nodes ∷ []) []) both in
          get_or-set_same children (last_of path) (get_or children (last_of path) 0 + 1) 0 (omega (arith, counts.there))
          ∙ omega (arith, counts.are (last_of path) o, ap length grown, length-append (children_of nodes (last_of path)) (length nodes ∷ []))

      last : (n : ℕ) → n ≡ length nodes → get_or (one_child_more children (last_of path)) n 0 ≡ length (children_of new n)
      last n e =
          get_or_at (set children (last_of path) (get_or children (last_of path) 0 + 1)) 0 [] 0 n (length-one_more ∙ sym e)
          ∙ sym (ap length (children_of-past new n (first nodes path is kind room started) (omega (arith, new_size))))

      old : (n : ℕ) → n < length nodes → get_or (one_child_more children (last_of path)) n 0 ≡ length (children_of new n)
      old n o =
          get_or_append_left (set children (last_of path) (get_or children (last_of path) 0 + 1)) (0 ∷ []) 0 n (omega (arith, length-one_more))
          ∙ by (cases_eq (last_of path) n)
        where
          by : (last_of path ≡ n) ⊎ (last_of path ≡ n → ⊥) → get_or (set children (last_of path) (get_or children (last_of path) 0 + 1)) n 0 ≡ length (children_of new n)
          by (inl e) = subst (λ j. get_or (set children (last_of path) (get_or children (last_of path) 0 + 1)) j 0 ≡ length (children_of new j)) e (same (omega (arith, e)))
          by (inr ne) =
              get_or-set_other children (last_of path) n (get_or children (last_of path) 0 + 1) 0 (λ e. ne (sym e))
              ∙ counts.are n o
              ∙ sym (ap length (children_of-other nodes record { kind = kind; parent = last_of path } n ne))

  -- the depth of the new node is one more than the length of the path
  module _ (d : HasDepths nodes path) (shallow : length path < 16) where
    depth : ℕ → ℕ
    depth n = cond (eqb n (length nodes)) (suc (length path)) (d.depth n)

    old_depth : (n : ℕ) → n < length nodes → depth n ≡ d.depth n
    unfolding depth
    old_depth n o = ap (λ b. cond b (suc (length path)) (d.depth n)) (ne_eqb n (length nodes) (λ e. omega (arith, e)))

    last_depth : (n : ℕ) → n ≡ length nodes → depth n ≡ suc (length path)
    unfolding depth
    last_depth n e = ap (λ b. cond b (suc (length path)) (d.depth n)) (eq-eqb n (length nodes) e)

    is_depth : IsDepth new depth
    is_depth = (
      by (cases_lt 0 (length nodes)),
      λ n some m. at_new n m (depth n ≡ suc (depth (parent_of new n)))
          (λ o. omega (
            arith,
            old_depth n o,
            d.is.1 n some o,
            old_depth (parent_of nodes n) (omega (arith, is.parent_first n some o)),
            ap depth (old_parent nodes path is kind room started n o),
          ))
          (λ e. omega (
            arith,
            last_depth n e,
            ap depth (last_parent nodes path is kind room started n e),
            old_depth (last_of path) (parent_there nodes path is kind room started (omega arith)),
            d.along (length path - 1) (omega (arith, started (omega arith))),
            started (omega arith),
          )),
    )
      where
        by : (0 < length nodes) ⊎ (length nodes ≤ 0) → depth 0 ≡ 1
        by (inl o) = old_depth 0 o ∙ d.is.0
        by (inr none) = omega (arith, last_depth 0 (omega arith), no_path nodes path is kind room started none)

    low_depth : (n : ℕ) → n < length new → depth n ≤ 16
    low_depth n m = at_new n m (depth n ≤ 16) (λ o. omega (arith, old_depth n o, d.low n o)) (λ e. omega (arith, last_depth n e))

    along_path : (k : ℕ) → k < length path → depth (get_or path k 0) ≡ suc k
    along_path k m = old_depth (get_or path k 0) (is.path_there k m) ∙ d.along k m

    HasDepths-leaf : HasDepths new path
    HasDepths-leaf = record {
      depth = depth;
      is = is_depth;
      low = low_depth;
      along = along_path;
    }

    HasDepths-open : HasDepths new (path ++ length nodes ∷ [])
    HasDepths-open = record {
      depth = depth;
      is = is_depth;
      low = low_depth;
      along = λ k m. at_path k m (cases_lt k (length path));
    }
      where
        at_path : (k : ℕ) → k < length (path ++ length nodes ∷ []) → (k < length path) ⊎ (length path ≤ k) → depth (get_or (path ++ length nodes ∷ []) k 0) ≡ suc k
        at_path k m (inl o) = ap depth (get_or_append_left path (length nodes ∷ []) 0 k o) ∙ along_path k o
        at_path k m (inr o) =
            let here : k ≡ length path = omega (arith, length-append path (length nodes ∷ [])) in
            ap depth (get_or_at path (length nodes) [] 0 k (sym here)) ∙ last_depth (length nodes) refl ∙ ap suc (sym here)

-- one more node
module _ (goods : ℕ) (nodes : List Node) (lo hi : List ℤ) (children path : List ℕ) (m : IsMaking goods nodes lo hi children path) (kind : NodeKind) (l h : ℤ)
    (taken : IsTaken goods (length nodes) (length path) kind l h) where
  abbrev pub longer : List Node
  longer = nodes ++ record { kind = kind; parent = last_of path } ∷ []

  more_bounds : AreBounds (length longer) record { lo = lo ++ l ∷ []; hi = hi ++ h ∷ [] }
  more_bounds =
      subst (λ n. AreBounds n record { lo = lo ++ l ∷ []; hi = hi ++ h ∷ [] }) (sym (new_size nodes path m.grown kind taken.room taken.started))
      (AreBounds-append (length nodes) lo hi l h m.bounds taken.low taken.ordered taken.high)

  more_kinds : (n : ℕ) → n < length longer → IsLimitedKind goods (kind_of longer n)
  more_kinds = kinds-new nodes path m.grown kind taken.room taken.started goods m.kinds (IsLimitedKind-from_lawful goods kind taken.lawful)

  pub IsMaking-leaf : IsLeaf kind → IsMaking goods longer (lo ++ l ∷ []) (hi ++ h ∷ []) (one_child_more children (last_of path)) path
  IsMaking-leaf leaf = record {
    few_goods = m.few_goods;
    grown = IsGrown-leaf nodes path m.grown kind taken.room taken.started (IsInterval-from_leaf kind leaf);
    counts = counts-new nodes path m.grown kind taken.room taken.started children m.counts;
    depths = HasDepths-leaf nodes path m.grown kind taken.room taken.started m.depths taken.shallow;
    kinds = more_kinds;
    bounds = more_bounds;
  }

  pub IsMaking-open : IsMaking goods longer (lo ++ l ∷ []) (hi ++ h ∷ []) (one_child_more children (last_of path)) (path ++ length nodes ∷ [])
  IsMaking-open = record {
    few_goods = m.few_goods;
    grown = IsGrown-open nodes path m.grown kind taken.room taken.started taken.shallow;
    counts = counts-new nodes path m.grown kind taken.room taken.started children m.counts;
    depths = HasDepths-open nodes path m.grown kind taken.room taken.started m.depths taken.shallow;
    kinds = more_kinds;
    bounds = more_bounds;
  }

  -- what the rows need
  pub parent_in : 0 < length nodes → last_of path < length nodes
  parent_in some = parent_there nodes path m.grown kind taken.room taken.started some

module _ (goods : ℕ) (nodes : List Node) (lo hi : List ℤ) (children path : List ℕ) (m : IsMaking goods nodes lo hi children path) where
  -- no node has more children than there are nodes
  pub few_children : (n : ℕ) → length nodes < 200 → get_or children n 0 < 200
  few_children n room = by (cases_lt n (length nodes))
    where
      by : (n < length nodes) ⊎ (length nodes ≤ n) → get_or children n 0 < 200
      by (inl o) = omega (arith, m.counts.are n o, filter-few (is_child nodes n) (length nodes))
      by (inr o) = omega (arith, get_or_past children n 0 (omega (arith, m.counts.there)))

  pub open_node_in : 0 < length path → last_of path < length nodes
  open_node_in some = m.grown.path_there (length path - 1) (omega arith)

  pub count_of_open : 0 < length path → get_or children (last_of path) 0 ≡ length (children_of nodes (last_of path))
  count_of_open some = m.counts.are (last_of path) (open_node_in some)

  pub open_count_in : 0 < length path → last_of path < length children
  open_count_in some = omega (arith, open_node_in some, m.counts.there)

  pub close_refusal-open : 0 < length path → kind_close_refusal (kind_of nodes (last_of path)) (get_or children (last_of path) 0) ≡ draft_close_refusal (draft_of nodes lo hi path)
  close_refusal-open some =
      let refusal : ℕ → Option ℕ = λ n. kind_close_refusal (kind_of nodes n) (length (children_of nodes n)) in
      ap (kind_close_refusal (kind_of nodes (last_of path))) (count_of_open some)
      ∙ ap refusal (sym (innermost-reverse path))
      ∙ ap (λ b. cond b (Some 25) (refusal (innermost (reverse path)))) (sym (ne_eqb (length (reverse path)) 0 (λ e. omega (arith, e, length-reverse path))))

  pub IsMaking-close : 0 < length path → kind_close_refusal (kind_of nodes (last_of path)) (get_or children (last_of path) 0) ≡ None
      → IsMaking goods nodes lo hi children (take (length path - 1) path)
  IsMaking-close some fits = record {
    few_goods = m.few_goods;
    grown = IsGrown-close nodes path m.grown some (IsInterval-from_unrefused _ _ (ap (kind_close_refusal (kind_of nodes (last_of path))) (sym (count_of_open some)) ∙ fits));
    counts = m.counts;
    depths = record {
      depth = m.depths.depth;
      is = m.depths.is;
      low = m.depths.low;
      along = λ k h.
          let shorter : length (take (length path - 1) path) ≡ length path - 1 = length-take-le (length path - 1) path (omega arith) in
          ap m.depths.depth (get_or-take (length path - 1) path k 0 (omega (arith, shorter))) ∙ m.depths.along k (omega (arith, shorter));
    };
    kinds = m.kinds;
    bounds = m.bounds;
  }

  -- a complete tree
  pub IsLimitedTree-from_making : length path ≡ 0 → 0 < length nodes → IsLimitedTree goods nodes
  IsLimitedTree-from_making none some = record {
    tree = IsTree-from_grown nodes path m.grown none some;
    count = m.grown.few;
    depth = (m.depths.depth, m.depths.is, m.depths.low);
    kinds = m.kinds;
  }

-- the draft after each call
pub draft_of-open : (goods : ℕ) (nodes nodes' : List Node) (lo lo' hi hi' : List ℤ) (path path' : List ℕ) (parent node : ℕ) (kind : NodeKind) (l h : ℤ)
    → nodes' ≡ nodes ++ record { kind = kind; parent = parent } ∷ [] → lo' ≡ lo ++ l ∷ [] → hi' ≡ hi ++ h ∷ [] → path' ≡ path ++ node ∷ [] → parent ≡ innermost (reverse path) → node ≡ length nodes
    → let made : Making = record { goods = goods; draft = draft_of nodes' lo' hi' path' } in made ≡ record { goods = goods; draft = with_open (draft_of nodes lo hi path) kind l h }
draft_of-open goods nodes nodes' lo lo' hi hi' path path' parent node kind l h en el eh ep eparent enode = rw (en, el, eh, ep, eparent, enode, reverse-push) refl

pub draft_of-close : (goods : ℕ) (nodes : List Node) (lo hi : List ℤ) (path path' : List ℕ) → path' ≡ take (length path - 1) path
    → let made : Making = record { goods = goods; draft = draft_of nodes lo hi path' } in made ≡ record { goods = goods; draft = with_closed (draft_of nodes lo hi path) }
draft_of-close goods nodes lo hi path path' e = rw (e, reverse-pop) refl

pub parts_of_complete : (nodes : List Node) (lo hi : List ℤ) (path : List ℕ) → is_complete (draft_of nodes lo hi path) ≡ true → (0 < length nodes) × (length path ≡ 0)
parts_of_complete nodes lo hi path e =
    let both = and_parts _ _ e in
    (ltb-true _ _ both.0, sym (length-reverse path) ∙ eqb-true _ _ both.1)

-- among more goods it is a tree too
pub IsLimitedTree-more : (goods more : ℕ) (t : Tree) → goods ≤ more → IsLimitedTree goods t → IsLimitedTree more t
IsLimitedTree-more goods more t le limited = record {
  tree = limited.tree;
  count = limited.count;
  depth = limited.depth;
  kinds = λ n h. by (kind_of t n) (limited.kinds n h);
}
  where
    by : (kind : NodeKind) → IsLimitedKind goods kind → IsLimitedKind more kind
    by (Choose least most) is = tt
    by (Buy good units) is = (omega (arith, is.0), is.1, is.2)
    by (Sell good units) is = (omega (arith, is.0), is.1, is.2)

-- a maker with no node
pub IsMaking-new : (goods : ℕ) → goods ≤ 32 → IsMaking goods [] [] [] [] []
IsMaking-new goods few = record {
  few_goods = few;
  grown = record {
    few = omega arith;
    deep = omega arith;
    root_parent = refl;
    parent_first = λ c l m. absurd (omega arith);
    preorder = λ c k l m n o. absurd (omega arith);
    path_there = λ k l. absurd (omega arith);
    path_up = λ i j l m. absurd (omega arith);
    path_over = λ k j l m n. absurd (omega arith);
    closed = λ n l o. absurd (omega arith);
  };
  counts = record { there = refl; are = λ n l. absurd (omega arith) };
  depths = record { depth = λ n. 1; is = (refl, λ n l m. absurd (omega arith)); low = λ n l. omega arith; along = λ k l. absurd (omega arith) };
  kinds = λ n l. absurd (omega arith);
  bounds = record { lo_count = refl; hi_count = refl; low = λ n l. absurd (omega arith); ordered = λ n l. absurd (omega arith); high = λ n l. absurd (omega arith) };
}
