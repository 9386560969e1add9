-- Where the nodes below a node of a tree end, by the depths of the nodes.
use Rattle.std.proofs.Common.{◌≡◌, ℕ, zero, suc, ◌+◌, ◌-◌, ◌<◌, ◌≤◌, Bool, true, false, cond, List, [], ◌∷◌, ◌++◌, length, refl, sym, ap, ◌∙◌, ◌⊎◌, inl, inr, subst, arith}
use Rattle.std.specs.List.{filter}
use Rattle.std.proofs.lemmas.Bool.{cases_lt, cases_eq, cond-true, cond-false, false_from_ne_true}
use Rattle.ice_defs.specs.Sum.{numbers_below}
use Rattle.ice_defs.specs.Tree.{Tree, IsTree, parent_of, is_child, children_of}
use Rattle.ice_defs.specs.Lawful.{IsDepth}
use Rattle.ice_trade.proofs.Passing.{child_parent, parent_child}

-- so many numbers from this one on
abbrev pub from : ℕ → ℕ → List ℕ
from m zero = []
from m (suc j) = m ∷ from (suc m) j

from_push : (m j : ℕ) → from m j ++ (m + j) ∷ [] ≡ from m (suc j)
from_push m zero = let e : m + 0 ≡ m = omega arith in ap (λ k. k ∷ []) e
from_push m (suc j) = let e : m + suc j ≡ suc m + j = omega arith in ap (λ k. m ∷ (from (suc m) j ++ k ∷ [])) e ∙ ap (λ l. m ∷ l) (from_push (suc m) j)

pub numbers_from : (n : ℕ) → numbers_below n ≡ from 0 n
numbers_from zero = refl
numbers_from (suc n) = let e : n ≡ 0 + n = omega arith in ap (λ l. l ++ n ∷ []) (numbers_from n) ∙ ap (λ k. from 0 n ++ k ∷ []) e ∙ from_push 0 n

pub few_pass : (p : ℕ → Bool) (m j : ℕ) → length (filter p (from m j)) ≤ j
few_pass p m zero = omega arith
few_pass p m (suc j) = by (p m) (few_pass p (suc m) j)
  where
    by : (b : Bool) → length (filter p (from (suc m) j)) ≤ j → length (cond b (m ∷ filter p (from (suc m) j)) (filter p (from (suc m) j))) ≤ suc j
    by true few = omega arith
    by false few = omega arith

-- numbers that don't pass are skipped
pub skips : (p : ℕ → Bool) (i m j all next : ℕ) → all ≡ i + j → next ≡ m + i → ((k : ℕ) → m ≤ k → k < next → p k ≡ false) → filter p (from m all) ≡ filter p (from next j)
skips p zero m j all next e f none =
    let same : all ≡ j = omega arith in
    let here : m ≡ next = omega arith in
    ap (λ n. filter p (from m n)) same ∙ ap (λ n. filter p (from n j)) here
skips p (suc i) m j zero next e f none = absurd (omega arith)
skips p (suc i) m j (suc all) next e f none =
    cond-false (p m) _ _ (none m (omega arith) (omega arith)) ∙ skips p i (suc m) j all next (omega arith) (omega arith) (λ k low high. none k (omega arith) high)

one_passes : (p : ℕ → Bool) (m j k : ℕ) → m ≤ k → k < m + j → p k ≡ true → 0 < length (filter p (from m j))
one_passes p m zero k low high passes = absurd (omega arith)
one_passes p m (suc j) k low high passes = by (cases_eq m k) (λ other. one_passes p (suc m) j k other (omega arith) passes)
  where
    later : (b : Bool) → 0 < length (filter p (from (suc m) j)) → 0 < length (cond b (m ∷ filter p (from (suc m) j)) (filter p (from (suc m) j)))
    later true some = omega arith
    later false some = some

    by : (m ≡ k) ⊎ (m ≡ k → ⊥) → (suc m ≤ k → 0 < length (filter p (from (suc m) j))) → 0 < length (filter p (from m (suc j)))
    by (inl same) go = let here : p m ≡ true = ap p same ∙ passes in subst (λ l. 0 < length l) (sym (cond-true (p m) (m ∷ filter p (from (suc m) j)) (filter p (from (suc m) j)) here)) (omega arith)
    by (inr other) go = later (p m) (go (omega arith))

-- all nodes between the two are deeper than the first
pub record IsUnder (t : Tree) (depth : ℕ → ℕ) (n m : ℕ) : Type 0 where
  pub later : n < m
  pub there : m ≤ length t
  pub deeper : (k : ℕ) → n < k → k < m → depth n < depth k

-- the nodes below the first end before the second
pub record Ends (t : Tree) (depth : ℕ → ℕ) (n m : ℕ) : Type 0 where
  pub under : IsUnder t depth n m
  pub ends : m < length t → depth m ≤ depth n

module _ (t : Tree) (is : IsTree t) (depth : ℕ → ℕ) (deep : IsDepth t depth) where
  deeper_to : (fuel c k : ℕ) → k ≤ fuel → c < length t → parent_of t c < k → k ≤ c → depth (parent_of t c) < depth k
  deeper_to zero c k few l low high = absurd (omega arith)
  deeper_to (suc fuel) c k few l low high = by (cases_eq k c) (λ j less before. deeper_to fuel c j less l before)
    where
      inner : k < c → (parent_of t k ≡ parent_of t c) ⊎ (parent_of t k ≡ parent_of t c → ⊥)
          → ((j : ℕ) → j ≤ fuel → parent_of t c < j → j ≤ c → depth (parent_of t c) < depth j) → depth (parent_of t c) < depth k
      inner before (inl same) go = omega (arith, deep.1 k (omega arith) (omega arith), ap depth same)
      inner before (inr other) go =
          let first : parent_of t k < k = is.parent_first k (omega arith) (omega arith) in
          let over : parent_of t c ≤ parent_of t k = is.preorder c k (omega arith) l low before in
          omega (arith, deep.1 k (omega arith) (omega arith), go (parent_of t k) (omega arith) (omega arith) (omega arith))

      by : (k ≡ c) ⊎ (k ≡ c → ⊥) → ((j : ℕ) → j ≤ fuel → parent_of t c < j → j ≤ c → depth (parent_of t c) < depth j) → depth (parent_of t c) < depth k
      by (inl same) go = omega (arith, deep.1 c (omega arith) l, ap depth same)
      by (inr other) go = inner (omega arith) (cases_eq (parent_of t k) (parent_of t c)) go

  -- the nodes after a node's parent, up to the node, are deeper than the parent
  pub deeper_than_parent : (c k : ℕ) → c < length t → parent_of t c < k → k ≤ c → depth (parent_of t c) < depth k
  deeper_than_parent c k l low high = deeper_to k c k (omega arith) l low high

  -- a node one deeper than the first, with only deeper ones between, is its child
  pub next_child : (n m : ℕ) → IsUnder t depth n m → m < length t → depth m ≡ suc (depth n) → parent_of t m ≡ n
  next_child n m under l one =
      let first : parent_of t m < m = is.parent_first m (omega (arith, under.later)) l in
      let level : depth m ≡ suc (depth (parent_of t m)) = deep.1 m (omega arith) l in
      by first level (cases_lt (parent_of t m) n) (cases_lt n (parent_of t m))
    where
      by : parent_of t m < m → depth m ≡ suc (depth (parent_of t m)) → (parent_of t m < n) ⊎ (n ≤ parent_of t m) → (n < parent_of t m) ⊎ (parent_of t m ≤ n) → parent_of t m ≡ n
      by first level (inl before) other = absurd (omega (arith, deeper_than_parent m n l before (omega (arith, under.later))))
      by first level (inr x) (inl after) = absurd (omega (arith, under.deeper (parent_of t m) after first))
      by first level (inr x) (inr y) = omega arith

  -- the node after one is at most one deeper
  pub next_depth : (n : ℕ) → suc n < length t → depth (suc n) ≤ suc (depth n)
  next_depth n l = by (cases_eq (parent_of t (suc n)) n) (is.parent_first (suc n) (omega arith) l)
    where
      by : (parent_of t (suc n) ≡ n) ⊎ (parent_of t (suc n) ≡ n → ⊥) → parent_of t (suc n) < suc n → depth (suc n) ≤ suc (depth n)
      by (inl same) first = omega (arith, deep.1 (suc n) (omega arith) l, ap depth same)
      by (inr other) first = omega (arith, deep.1 (suc n) (omega arith) l, deeper_than_parent (suc n) n l (omega arith) (omega arith))

  pub under_next : (n : ℕ) → n < length t → IsUnder t depth n (suc n)
  under_next n l = record { later = omega arith; there = l; deeper = λ k low high. absurd (omega arith) }

  -- a child of a node is among its children
  pub child_counts : (n c : ℕ) → 0 < c → c < length t → parent_of t c ≡ n → 0 < length (children_of t n)
  child_counts n c some l same =
      subst (λ l. 0 < length (filter (is_child t n) l)) (sym (numbers_from (length t))) (one_passes (is_child t n) 0 (length t) c (omega arith) (omega arith) (parent_child t n c some same))

  -- below a node with no child nothing stands
  pub leaf_ends : (n : ℕ) → n < length t → length (children_of t n) ≡ 0 → Ends t depth n (suc n)
  leaf_ends n l none = record { under = under_next n l; ends = λ more. by more (cases_lt (depth n) (depth (suc n))) }
    where
      by : suc n < length t → (depth n < depth (suc n)) ⊎ (depth (suc n) ≤ depth n) → depth (suc n) ≤ depth n
      by more (inl below) =
          let same = next_child n (suc n) (under_next n l) more (omega (arith, next_depth n more)) in
          absurd (omega (arith, child_counts n (suc n) (omega arith) more same))
      by more (inr level) = level

  -- the children are those after the node
  pub children_from : (n j : ℕ) → suc n + j ≡ length t → children_of t n ≡ filter (is_child t n) (from (suc n) j)
  children_from n j e =
      ap (filter (is_child t n)) (numbers_from (length t))
      ∙ skips (is_child t n) (suc n) 0 j (length t) (suc n) (omega arith) (omega arith) (λ k low high. false_from_ne_true _ (λ is_true.
      let (some, same) = child_parent t n k is_true in
      omega (arith, is.parent_first k some (omega arith))))

  -- past the end there is no child any more
  pub no_later_child : (n m j : ℕ) → IsUnder t depth n m → m + j ≡ length t → (m < length t → depth m ≤ depth n) → filter (is_child t n) (from m j) ≡ []
  no_later_child n m j under e ends = skips (is_child t n) j m 0 j (m + j) (omega arith) refl (λ k low high. false_from_ne_true _ (λ is_true.
      let (some, same) = child_parent t n k is_true in
      let up : parent_of t k < m = omega (arith, under.later) in
      omega (arith, ends (omega arith), deeper_than_parent k m (omega arith) up low, ap depth same)))

  -- the next child after one is past the nodes below it
  pub next_children : (n c m i j : ℕ) → parent_of t c ≡ n → 0 < c → Ends t depth c m → c + suc i ≡ length t → m + j ≡ length t
      → filter (is_child t n) (from c (suc i)) ≡ c ∷ filter (is_child t n) (from m j)
  next_children n c m i j same some end e f =
      let gap : ℕ = m - suc c in
      cond-true (is_child t n c) _ _ (parent_child t n c some same)
      ∙ ap (λ l. c ∷ l) (skips (is_child t n) gap (suc c) j i m (omega (arith, end.under.later, end.under.there)) (omega (arith, end.under.later)) (λ k low high. false_from_ne_true _ (λ is_true.
      let (some_k, same_k) = child_parent t n k is_true in
      let inside : k < length t = omega (arith, end.under.there) in
      omega (arith, end.under.deeper k (omega arith) high, deep.1 k some_k inside, deep.1 c some (omega arith), ap depth same_k, ap depth same))))

  -- after a child and what is below it, all is still below the node
  pub under_more : (n c m : ℕ) → IsUnder t depth n c → depth n < depth c → Ends t depth c m → IsUnder t depth n m
  under_more n c m under below end = record {
    later = omega (arith, under.later, end.under.later);
    there = end.under.there;
    deeper = λ k low high. by k low high (cases_lt k c) (cases_lt c k);
  }
    where
      by : (k : ℕ) → n < k → k < m → (k < c) ⊎ (c ≤ k) → (c < k) ⊎ (k ≤ c) → depth n < depth k
      by k low high (inl before) other = under.deeper k low before
      by k low high (inr x) (inl after) = omega (arith, end.under.deeper k after high)
      by k low high (inr x) (inr y) = let e : k ≡ c = omega arith in omega (arith, ap depth e)

  -- below the root is the whole tree
  pub root_ends : (m : ℕ) → Ends t depth 0 m → m ≡ length t
  root_ends m end = by (cases_lt m (length t))
    where
      positive : (k : ℕ) → k < length t → 0 < depth k
      positive k l = at (cases_eq k 0)
        where
          at : (k ≡ 0) ⊎ (k ≡ 0 → ⊥) → 0 < depth k
          at (inl e) = omega (arith, deep.0, ap depth e)
          at (inr ne) = omega (arith, deep.1 k (omega arith) l)

      by : (m < length t) ⊎ (length t ≤ m) → m ≡ length t
      by (inl l) =
          let first : parent_of t m < m = is.parent_first m (omega (arith, end.under.later)) l in
          absurd (omega (arith, deep.0, deep.1 m (omega arith) l, end.ends l, positive (parent_of t m) (omega arith)))
      by (inr h) = omega (arith, end.under.there)
