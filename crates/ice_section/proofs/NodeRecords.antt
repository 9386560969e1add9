-- The records of a lawful bidder's nodes are taken, and give its tree again.
use Rattle.std.proofs.Common.{ℕ, zero, suc, ◌+◌, ◌-◌, ◌<◌, ◌≤◌, ◌≡◌, ◌≢◌, Bool, true, false, cond, ◌&&◌, eqb, ltb, List, [], ◌∷◌, take, length, get_or, None, Ok, refl, arith, ap, sym, ◌∙◌, ◌⊎◌, inl, inr, subst, length-append}
use Rattle.std.specs.List.{filter}
use Rattle.std.proofs.lemmas.Bool.{cases_lt, cases_eq, lt-leb}
use Rattle.std.proofs.lemmas.List.{get_or-take, length-take-le}
use Rattle.std.proofs.lemmas.List.Elements.{filter-append}
use Rattle.ice_defs.specs.declared.Node.{Node}
use Rattle.ice_defs.specs.declared.NodeKind.{NodeKind}
use Rattle.ice_defs.specs.declared.NodeKind.TheVariants.{Choose, Buy, Sell}
use Rattle.ice_defs.specs.Sum.{numbers_below}
use Rattle.ice_defs.specs.Tree.{Tree, IsTree, IsInterval, kind_of, parent_of, is_child, children_of, no_node}
use Rattle.ice_defs.specs.Making.{close_refusal}
use Rattle.ice_defs.specs.Lawful.{IsLimitedKind, IsDepth}
use Rattle.ice_defs.proofs.Below.{filter-same}
use Rattle.ice_trade.proofs.Passing.{child_parent, parent_child, interval_closes}
use Rattle.ice_section.specs.Section.{OpenNode, complete, unless_unfit, parent_under, open_after, names_no_good}
use Rattle.ice_section.proofs.OpenNodes.{IsOutside, IsAfter, AreWaiting, AreClosed, IsLeafCount}

-- ---- the first nodes of a tree

front_node : (t : Tree) (k n : ℕ) → n < k → get_or (take k t) n no_node ≡ get_or t n no_node
front_node t k n l = get_or-take k t n no_node l

pub front_length : (t : Tree) (k : ℕ) → k ≤ length t → length (take k t) ≡ k
front_length t k l = length-take-le k t l

pub front_kind : (t : Tree) (k n : ℕ) → n < k → kind_of (take k t) n ≡ kind_of t n
front_kind t k n l = ap (λ (x : Node). x.kind) (front_node t k n l)

-- the children of p below a number
below : Tree → ℕ → ℕ → ℕ
below t p n = length (filter (is_child t p) (numbers_below n))

below_front : (t : Tree) (k p : ℕ) → k ≤ length t → length (children_of (take k t) p) ≡ below t p k
unfolding below
below_front t k p l =
    ap (λ n. length (filter (is_child (take k t) p) (numbers_below n))) (front_length t k l)
    ∙ ap length (filter-same (is_child (take k t) p) (is_child t p) k (λ c m. ap (λ (x : Node). ltb 0 c && eqb x.parent p) (front_node t k c m)))

abbrev number : Bool → ℕ
number b = cond b 1 0

below_suc : (t : Tree) (p n : ℕ) → below t p (suc n) ≡ below t p n + number (is_child t p n)
unfolding below
below_suc t p n =
    ap length (filter-append (is_child t p) (numbers_below n) (n ∷ []))
    ∙ length-append (filter (is_child t p) (numbers_below n)) (filter (is_child t p) (n ∷ []))
    ∙ ap (λ m. length (filter (is_child t p) (numbers_below n)) + m) (by (is_child t p n))
  where
    by : (b : Bool) → length (cond b (n ∷ []) []) ≡ number b
    by true = refl
    by false = refl

below_le : (t : Tree) (p k n : ℕ) → k ≤ n → below t p k ≤ below t p n
below_le t p k zero l = let e : k ≡ 0 = omega arith in omega (arith, ap (below t p) e)
below_le t p k (suc n) l = by (cases_lt k (suc n)) (λ m. below_le t p k n m)
  where
    by : (k < suc n) ⊎ (suc n ≤ k) → (k ≤ n → below t p k ≤ below t p n) → below t p k ≤ below t p (suc n)
    by (inl m) go = omega (arith, go (omega arith), below_suc t p n)
    by (inr m) go = let e : k ≡ suc n = omega arith in omega (arith, ap (below t p) e)

-- a child from k on
below_lt : (t : Tree) (p k c n : ℕ) → k ≤ c → c < n → is_child t p c ≡ true → below t p k < below t p n
below_lt t p k c n l m is =
    let one : number (is_child t p c) ≡ 1 = ap number is in
    omega (arith, below_le t p k c l, below_suc t p c, one, below_le t p (suc c) n (omega arith))

below_find : (t : Tree) (p k n : ℕ) → below t p k < below t p n → (c : ℕ) × (k ≤ c) × (c < n) × (is_child t p c ≡ true)
below_find t p k zero l = absurd (omega (arith, below_le t p 0 k (omega arith)))
below_find t p k (suc n) l = by (is_child t p n) refl (λ m. below_find t p k n m)
  where
    by : (b : Bool) → is_child t p n ≡ b → (below t p k < below t p n → (c : ℕ) × (k ≤ c) × (c < n) × (is_child t p c ≡ true)) → (c : ℕ) × (k ≤ c) × (c < suc n) × (is_child t p c ≡ true)
    by true is go = at (cases_lt n k)
      where
        at : (n < k) ⊎ (k ≤ n) → (c : ℕ) × (k ≤ c) × (c < suc n) × (is_child t p c ≡ true)
        at (inl m) = absurd (omega (arith, below_le t p (suc n) k m))
        at (inr m) = (n, m, omega arith, is)
    by false is go =
        let none : number (is_child t p n) ≡ 0 = ap number is in
        let (c, low, high, child) = go (omega (arith, l, below_suc t p n, none)) in
        (c, low, omega arith, child)

-- ---- where the next node of the tree goes

abbrev pub stated_in : Tree → ℕ → ℕ
stated_in t n = length (children_of t n)

-- a node that is open around another one comes before it
open_before : (t : Tree) (stated depth : ℕ → ℕ) (n p : ℕ) (outer : List OpenNode) → IsAfter n outer → AreWaiting t 1 stated depth outer → (IsOutside p outer → ⊥) → p < n
open_before t stated depth n p [] after waiting h = absurd (h tt)
open_before t stated depth n p (o ∷ outer) after waiting h = by (cases_eq o.number p) (λ g. open_before t stated depth o.number p outer waiting.0.after waiting.1 g)
  where
    by : (o.number ≡ p) ⊎ (o.number ≡ p → ⊥) → ((IsOutside p outer → ⊥) → p < o.number) → p < n
    by (inl e) go = omega (arith, after)
    by (inr ne) go = omega (arith, after, go (λ out. h (ne, out)))

module _ (t : Tree) (is : IsTree t) (k : ℕ) (l : k < length t) where
  -- an open node has a child that is still to come
  pub child_to_come : (p : ℕ) → length (children_of (take k t) p) < stated_in t p → (c : ℕ) × (k ≤ c) × (c < length t) × (0 < c) × (parent_of t c ≡ p)
  unfolding below
  child_to_come p few =
      let (c, low, high, child) = below_find t p k (length t) (omega (arith, below_front t k p (omega arith))) in
      (c, low, high, (child_parent t p c child).0, (child_parent t p c child).1)

  -- and the parent of the next node has one
  pub parent_waits : 0 < k → length (children_of (take k t) (parent_of t k)) < stated_in t (parent_of t k)
  unfolding below
  parent_waits some = omega (arith, below_front t k (parent_of t k) (omega arith), below_lt t (parent_of t k) k k (length t) (omega arith) l (parent_child t (parent_of t k) k some refl))

  module _ (depth : ℕ → ℕ) (deep : IsDepth t depth) (opened : List OpenNode) (waiting : AreWaiting (take k t) 0 (stated_in t) depth opened) (closed : AreClosed (take k t) (stated_in t) opened) where
    size : length (take k t) ≡ k
    size = front_length t k (omega arith)

    parent_inside : 0 < k → IsOutside (parent_of t k) opened → ⊥
    parent_inside some out =
        let first = is.parent_first k some l in
        omega (arith, parent_waits some, (closed (parent_of t k) (omega (arith, size)) out).1)

    innermost_is : (os : List OpenNode) → AreWaiting (take k t) 0 (stated_in t) depth os → (IsOutside (parent_of t k) os → ⊥) → (o : OpenNode) × (outer : List OpenNode) × (os ≡ o ∷ outer) × (o.number ≡ parent_of t k)
    innermost_is [] w h = absurd (h tt)
    innermost_is (o ∷ outer) w h = (o, outer, refl, by (cases_eq o.number (parent_of t k)))
      where
        by : (o.number ≡ parent_of t k) ⊎ (o.number ≡ parent_of t k → ⊥) → o.number ≡ parent_of t k
        by (inl e) = e
        by (inr ne) =
            let before = open_before (take k t) (stated_in t) depth o.number (parent_of t k) outer w.0.after w.1 (λ out. h (ne, out)) in
            let (c, low, high, some, under) = child_to_come o.number (omega (arith, w.0.so_far, w.0.some_left, w.0.count)) in
            let other : c ≢ k = λ e. ne (sym under ∙ ap (parent_of t) e) in
            let there : o.number < k = omega (arith, w.0.there, size) in
            let over = is.preorder c k some high (omega (arith, under)) (omega arith) in
            absurd (omega (arith, over, under))

    nothing_open : (os : List OpenNode) → AreWaiting (take k t) 0 (stated_in t) depth os → k ≡ 0 → os ≡ []
    nothing_open [] w e = refl
    nothing_open (o ∷ outer) w e = absurd (omega (arith, w.0.there, size))

    pub next_parent : parent_under opened ≡ parent_of t k
    next_parent = by (cases_eq k 0)
      where
        by : (k ≡ 0) ⊎ (k ≡ 0 → ⊥) → parent_under opened ≡ parent_of t k
        by (inl e) = ap parent_under (nothing_open opened waiting e) ∙ sym is.root_parent ∙ ap (parent_of t) (sym e)
        by (inr ne) =
            let (o, outer, same, under) = innermost_is opened waiting (parent_inside (omega arith)) in
            ap parent_under same ∙ under

    pub next_depth : suc (length opened) ≡ depth k
    next_depth = by (cases_eq k 0)
      where
        by : (k ≡ 0) ⊎ (k ≡ 0 → ⊥) → suc (length opened) ≡ depth k
        by (inl e) = ap (λ os. suc (length os)) (nothing_open opened waiting e) ∙ sym deep.0 ∙ ap depth (sym e)
        by (inr ne) =
            let (o, outer, same, under) = innermost_is opened waiting (parent_inside (omega arith)) in
            let w = subst (AreWaiting (take k t) 0 (stated_in t) depth) same waiting in
            omega (arith, ap length same, w.0.deep, ap depth under, deep.1 k (omega arith) l)

-- ---- the node is taken

completes : (t : Tree) (extra : ℕ) (stated depth : ℕ → ℕ) → ((n : ℕ) → n < length t → IsInterval (kind_of t n) (stated n)) → (opened : List OpenNode) → AreWaiting t extra stated depth opened
    → (after : List OpenNode) × (complete opened ≡ Ok after)
completes t extra stated depth fits [] waiting = ([], refl)
completes t extra stated depth fits (o ∷ outer) waiting = by (ltb 1 o.left) (completes t 1 stated depth fits outer waiting.1)
  where
    closes : close_refusal o.least o.most o.children ≡ None
    closes = interval_closes o.least o.most o.children (subst (λ kind. IsInterval kind o.children) waiting.0.is_choose (subst (IsInterval (kind_of t o.number)) waiting.0.count (fits o.number waiting.0.there)))

    by : (more : Bool) → (after : List OpenNode) × (complete outer ≡ Ok after)
        → (after : List OpenNode) × (cond more (Ok (record o { left = o.left - 1 } ∷ outer)) (unless_unfit (close_refusal o.least o.most o.children) (complete outer)) ≡ Ok after)
    by true rest = (record o { left = o.left - 1 } ∷ outer, refl)
    by false rest = (rest.0, ap (λ r. unless_unfit r (complete outer)) closes ∙ rest.1)

pub opens : (t : Tree) (stated depth : ℕ → ℕ) → ((n : ℕ) → n < length t → IsInterval (kind_of t n) (stated n)) → (opened : List OpenNode) → AreWaiting t 0 stated depth opened
    → (kind : NodeKind) (number children : ℕ) → IsInterval kind children → (after : List OpenNode) × (open_after kind number children opened ≡ Ok after)
opens t stated depth fits opened waiting (Buy good units) number children fit = completes t 0 stated depth fits opened waiting
opens t stated depth fits opened waiting (Sell good units) number children fit = completes t 0 stated depth fits opened waiting
opens t stated depth fits opened waiting (Choose least most) number zero fit = absurd (omega (arith, fit.2))
opens t stated depth fits opened waiting (Choose least most) number (suc children) fit =
    (record { number = number; least = least; most = most; children = suc children; left = suc children } ∷ opened, refl)

pub leaf_count : (kind : NodeKind) (children : ℕ) → IsInterval kind children → IsLeafCount kind children
leaf_count (Choose least most) children fit = tt
leaf_count (Buy good units) children fit = fit
leaf_count (Sell good units) children fit = fit

pub kind_known : (goods : ℕ) (kind : NodeKind) → IsLimitedKind goods kind → names_no_good kind goods ≡ false
kind_known goods (Choose least most) fits = refl
kind_known goods (Buy good units) fits = lt-leb goods good fits.0
kind_known goods (Sell good units) fits = lt-leb goods good fits.0
