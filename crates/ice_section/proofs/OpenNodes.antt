-- The open nodes of a tree: each waits for its last children, and the nodes outside are closed.
use Rattle.std.proofs.Common.{ℕ, zero, suc, ◌+◌, ◌-◌, ◌<◌, ◌≤◌, ◌≡◌, ◌≢◌, Bool, true, false, cond, ltb, List, [], ◌∷◌, ◌++◌, length, Option, Some, None, Result, Ok, refl, arith, ap, sym, ◌∙◌, ◌⊎◌, inl, inr, subst}
use Rattle.std.proofs.lemmas.Bool.{cases_eq, ltb-true, ltb-false}
use Rattle.std.proofs.lemmas.Bool.Decides.{nat_tests}
use Rattle.ice_defs.specs.declared.Node.{Node}
use Rattle.ice_defs.specs.declared.NodeKind.{NodeKind}
use Rattle.ice_defs.specs.declared.NodeKind.TheVariants.{Choose, Buy, Sell}
use Rattle.ice_defs.specs.Tree.{Tree, IsTree, IsInterval, kind_of, parent_of, children_of}
use Rattle.ice_defs.specs.Bounds.{Bounds}
use Rattle.ice_defs.specs.Making.{close_refusal}
use Rattle.ice_section.specs.Section.{SectionFault, OpenNode, complete, unless_unfit, parent_under, open_after}
use Rattle.ice_section.proofs.NewNode.{with_last, at_last, before_last, length_grown, old_kind, last_kind, old_parent, last_parent, old_or_last, children_of_parent, IsShaped, IsPlace}
use Rattle.ice_tree.proofs.MoreNodes.{children_of-other}

abbrev pub IsOutside : ℕ → List OpenNode → Type 0
IsOutside n [] = Unit {0}
IsOutside n (o ∷ outer) = (o.number ≢ n) × IsOutside n outer

-- an open node comes after the open node around it
abbrev pub IsAfter : ℕ → List OpenNode → Type 0
IsAfter n [] = Unit {0}
IsAfter n (o ∷ outer) = o.number < n

-- so many of its children are there as its count says, but for
-- those that are left; one that is there may be incomplete
pub record IsWaiting (t : Tree) (extra : ℕ) (stated depth : ℕ → ℕ) (o : OpenNode) (outer : List OpenNode) : Type 0 where
  pub there : o.number < length t
  pub is_choose : kind_of t o.number ≡ Choose o.least o.most
  pub count : stated o.number ≡ o.children
  pub so_far : length (children_of t o.number) + o.left ≡ o.children + extra
  pub some_left : 0 < o.left
  pub deep : depth o.number ≡ length outer + 1
  pub over : (k : ℕ) → o.number < k → k < length t → o.number ≤ parent_of t k
  pub after : IsAfter o.number outer

-- the innermost open node has `extra` incomplete children, and each other one has one
abbrev pub AreWaiting : Tree → ℕ → (ℕ → ℕ) → (ℕ → ℕ) → List OpenNode → Type 0
AreWaiting t extra stated depth [] = Unit {0}
AreWaiting t extra stated depth (o ∷ outer) = IsWaiting t extra stated depth o outer × AreWaiting t 1 stated depth outer

-- a closed node has as many children as its record states, and its interval fits them
abbrev pub IsClosed : Tree → (ℕ → ℕ) → ℕ → Type 0
IsClosed t stated n = IsInterval (kind_of t n) (stated n) × (length (children_of t n) ≡ stated n)

abbrev pub AreClosed : Tree → (ℕ → ℕ) → List OpenNode → Type 0
AreClosed t stated opened = (n : ℕ) → n < length t → IsOutside n opened → IsClosed t stated n

-- ---- where the next node goes

pub place_of_next : (goods : ℕ) (t : Tree) (bounds : Bounds) (stated depth : ℕ → ℕ) (opened : List OpenNode) → IsShaped goods t bounds depth
    → (0 < length t → 0 < length opened) → AreWaiting t 0 stated depth opened → IsPlace t depth (parent_under opened) (suc (length opened))
place_of_next goods t bounds stated depth [] shaped started waiting = record {
  root = λ e. (refl, refl);
  there = λ l. absurd (omega (arith, started l));
  over = λ k l m. absurd (omega (arith, started (omega arith)));
  deep = λ l. absurd (omega (arith, started l));
}
place_of_next goods t bounds stated depth (o ∷ outer) shaped started waiting = record {
  root = λ e. absurd (omega (arith, waiting.0.there));
  there = λ l. waiting.0.there;
  over = waiting.0.over;
  deep = λ l. omega (arith, waiting.0.deep);
}

-- ---- one more node

module _ (t : Tree) (stated depth : ℕ → ℕ) (x : Node) (children d : ℕ) where
  -- an open node around the new one's parent has no more children
  outer_grown : (opened : List OpenNode) → IsAfter x.parent opened → AreWaiting t 1 stated depth opened
      → AreWaiting (t ++ x ∷ []) 1 (with_last (length t) children stated) (with_last (length t) d depth) opened
  outer_grown [] after waiting = tt
  outer_grown (o ∷ outer) after waiting = (
    record {
      there = omega (arith, length_grown t x, waiting.0.there);
      is_choose = old_kind t x o.number waiting.0.there ∙ waiting.0.is_choose;
      count = before_last (length t) children stated o.number waiting.0.there ∙ waiting.0.count;
      so_far = ap (λ c. length c + o.left) (children_of-other t x o.number (λ e. omega (arith, after))) ∙ waiting.0.so_far;
      some_left = waiting.0.some_left;
      deep = before_last (length t) d depth o.number waiting.0.there ∙ waiting.0.deep;
      over = λ k l m. over k l (old_or_last t x k m);
      after = waiting.0.after;
    },
    outer_grown outer (further outer waiting.0.after) waiting.1,
  )
    where
      over : (k : ℕ) → o.number < k → (k < length t) ⊎ (k ≡ length t) → o.number ≤ parent_of (t ++ x ∷ []) k
      over k l (inl m) = omega (arith, old_parent t x k m, waiting.0.over k l m)
      over k l (inr e) = omega (arith, last_parent t x k e, after)

      further : (outer : List OpenNode) → IsAfter o.number outer → IsAfter x.parent outer
      further [] h = tt
      further (y ∷ outer) h = omega (arith, h, after)

  -- and its parent has one more, which is incomplete
  pub waiting_grown : (opened : List OpenNode) → x.parent ≡ parent_under opened → AreWaiting t 0 stated depth opened
      → AreWaiting (t ++ x ∷ []) 1 (with_last (length t) children stated) (with_last (length t) d depth) opened
  waiting_grown [] under waiting = tt
  waiting_grown (o ∷ outer) under waiting = (
    record {
      there = omega (arith, length_grown t x, waiting.0.there);
      is_choose = old_kind t x o.number waiting.0.there ∙ waiting.0.is_choose;
      count = before_last (length t) children stated o.number waiting.0.there ∙ waiting.0.count;
      so_far = omega (arith, children_of_parent t x o.number under waiting.0.there, waiting.0.so_far);
      some_left = waiting.0.some_left;
      deep = before_last (length t) d depth o.number waiting.0.there ∙ waiting.0.deep;
      over = λ k l m. over k l (old_or_last t x k m);
      after = waiting.0.after;
    },
    outer_grown outer (around outer waiting.0.after) waiting.1,
  )
    where
      over : (k : ℕ) → o.number < k → (k < length t) ⊎ (k ≡ length t) → o.number ≤ parent_of (t ++ x ∷ []) k
      over k l (inl m) = omega (arith, old_parent t x k m, waiting.0.over k l m)
      over k l (inr e) = omega (arith, last_parent t x k e, under)

      around : (outer : List OpenNode) → IsAfter o.number outer → IsAfter x.parent outer
      around [] h = tt
      around (y ∷ outer) h = omega (arith, h, under)

  -- the new node's parent is open, so a closed node stays as it is
  is_parent : (opened : List OpenNode) (n : ℕ) → (0 < length t → 0 < length opened) → n < length t → x.parent ≡ parent_under opened → IsOutside n opened → x.parent ≢ n
  is_parent [] n started l under outside e = omega (arith, started (omega arith))
  is_parent (o ∷ outer) n started l under outside e = outside.0 (sym under ∙ e)

  pub closed_grown : (opened : List OpenNode) → (0 < length t → 0 < length opened) → x.parent ≡ parent_under opened → AreClosed t stated opened
      → (n : ℕ) → n < length t → IsOutside n opened → IsClosed (t ++ x ∷ []) (with_last (length t) children stated) n
  closed_grown opened started under closed n l outside =
      let same = before_last (length t) children stated n l in
      let was = closed n l outside in (
        subst (IsInterval (kind_of (t ++ x ∷ []) n)) (sym same) (subst (λ k. IsInterval k (stated n)) (sym (old_kind t x n l)) was.0),
        ap length (children_of-other t x n (is_parent opened n started l under outside)) ∙ was.1 ∙ sym same,
      )

-- ---- a node is complete

close_ok : (least most children : ℕ) → close_refusal least most children ≡ None → (0 < children) × (least ≤ most) × (most ≤ children)
close_ok least most children e = (grind (arith, nat_tests), grind (arith, nat_tests), grind (arith, nat_tests))

unfit_ok : (refusal : Option ℕ) (outer : Result (List OpenNode) SectionFault) (after : List OpenNode) → unless_unfit refusal outer ≡ Ok after → (refusal ≡ None) × (outer ≡ Ok after)
unfit_ok (Some number) outer after e = absurd cc
unfit_ok None outer after e = (refl, e)

abbrev still_open : List OpenNode → Result (List OpenNode) SectionFault
still_open opened = Ok opened

-- the innermost open node's incomplete child was completed
pub completed : (t : Tree) (stated depth : ℕ → ℕ) (opened after : List OpenNode) → complete opened ≡ Ok after → AreWaiting t 1 stated depth opened → AreClosed t stated opened
    → AreWaiting t 0 stated depth after × AreClosed t stated after
completed t stated depth [] after e waiting closed =
    let same : [] ≡ after = cc in
    subst (λ os. AreWaiting t 0 stated depth os × AreClosed t stated os) same (tt, closed)
completed t stated depth (o ∷ outer) after e waiting closed = by (ltb 1 o.left) refl e (λ rest outside. completed t stated depth outer after rest waiting.1 outside)
  where
    by : (more : Bool) → ltb 1 o.left ≡ more
        → cond more (still_open (record o { left = o.left - 1 } ∷ outer)) (unless_unfit (close_refusal o.least o.most o.children) (complete outer)) ≡ Ok after
        → (complete outer ≡ Ok after → AreClosed t stated outer → AreWaiting t 0 stated depth after × AreClosed t stated after)
        → AreWaiting t 0 stated depth after × AreClosed t stated after
    by true more e further =
        let several : 1 < o.left = ltb-true 1 o.left more in
        let same : (record o { left = o.left - 1 } ∷ outer) ≡ after = cc in
        subst (λ os. AreWaiting t 0 stated depth os × AreClosed t stated os) same (
          (
            record {
              there = waiting.0.there;
              is_choose = waiting.0.is_choose;
              count = waiting.0.count;
              so_far = omega (arith, waiting.0.so_far);
              some_left = omega arith;
              deep = waiting.0.deep;
              over = waiting.0.over;
              after = waiting.0.after;
            },
            waiting.1,
          ),
          λ n l outside. closed n l outside,
        )
    by false last e further =
        let one : o.left ≡ 1 = omega (arith, ltb-false 1 o.left last, waiting.0.some_left) in
        let (fits, rest) = unfit_ok (close_refusal o.least o.most o.children) (complete outer) after e in
        further rest (λ n l outside. here n l outside one (close_ok o.least o.most o.children fits) (cases_eq o.number n))
      where
        here : (n : ℕ) → n < length t → IsOutside n outer → o.left ≡ 1 → (0 < o.children) × (o.least ≤ o.most) × (o.most ≤ o.children)
            → (o.number ≡ n) ⊎ (o.number ≡ n → ⊥) → IsClosed t stated n
        here n l outside one fits (inr ne) = closed n l (ne, outside)
        here n l outside one fits (inl e) = subst (IsClosed t stated) e (
          subst (IsInterval (kind_of t o.number)) (sym waiting.0.count) (subst (λ k. IsInterval k o.children) (sym waiting.0.is_choose) (fits.1, fits.2, fits.0)),
          omega (arith, waiting.0.so_far, waiting.0.count),
        )

-- ---- a record of a node

-- only a choose node states children
abbrev pub IsLeafCount : NodeKind → ℕ → Type 0
IsLeafCount (Choose least most) children = Unit {0}
IsLeafCount (Buy good units) children = children ≡ 0
IsLeafCount (Sell good units) children = children ≡ 0

module _ (t : Tree) (stated depth : ℕ → ℕ) (x : Node) (children : ℕ) (opened : List OpenNode)
    (waiting : AreWaiting t 0 stated depth opened) (closed : AreClosed t stated opened) (started : 0 < length t → 0 < length opened)
    (under : x.parent ≡ parent_under opened) (none : (n : ℕ) → n ≡ length t → children_of (t ++ x ∷ []) n ≡ []) where
  leaf_closed : IsInterval x.kind children → children ≡ 0 → AreClosed (t ++ x ∷ []) (with_last (length t) children stated) opened
  leaf_closed leaf childless n l outside = by (old_or_last t x n l)
    where
      by : (n < length t) ⊎ (n ≡ length t) → IsClosed (t ++ x ∷ []) (with_last (length t) children stated) n
      by (inl m) = closed_grown t stated depth x children 0 opened started under closed n m outside
      by (inr e) =
          let now = at_last (length t) children stated n e in (
            subst (IsInterval (kind_of (t ++ x ∷ []) n)) (sym now) (subst (λ k. IsInterval k children) (sym (last_kind t x n e)) leaf),
            ap length (none n e) ∙ sym childless ∙ sym now,
          )

  leaf_after : IsInterval x.kind children → children ≡ 0 → (after : List OpenNode) → complete opened ≡ Ok after
      → AreWaiting (t ++ x ∷ []) 0 (with_last (length t) children stated) (with_last (length t) (suc (length opened)) depth) after
      × AreClosed (t ++ x ∷ []) (with_last (length t) children stated) after
  leaf_after leaf childless after e =
      completed (t ++ x ∷ []) (with_last (length t) children stated) (with_last (length t) (suc (length opened)) depth) opened after e
      (waiting_grown t stated depth x children (suc (length opened)) opened under waiting) (leaf_closed leaf childless)

  choose_after : (least most : ℕ) → x.kind ≡ Choose least most → 0 < children → (after : List OpenNode)
      → (record { number = length t; least = least; most = most; children = children; left = children } ∷ opened) ≡ after
      → AreWaiting (t ++ x ∷ []) 0 (with_last (length t) children stated) (with_last (length t) (suc (length opened)) depth) after
      × AreClosed (t ++ x ∷ []) (with_last (length t) children stated) after
  choose_after least most is some after same =
      subst (λ os. AreWaiting (t ++ x ∷ []) 0 (with_last (length t) children stated) (with_last (length t) (suc (length opened)) depth) os × AreClosed (t ++ x ∷ []) (with_last (length t) children stated) os) same (
        (
          record {
            there = omega (arith, length_grown t x);
            is_choose = last_kind t x (length t) refl ∙ is;
            count = at_last (length t) children stated (length t) refl;
            so_far = omega (arith, ap length (none (length t) refl));
            some_left = some;
            deep = omega (arith, at_last (length t) (suc (length opened)) depth (length t) refl);
            over = λ k l m. absurd (omega (arith, length_grown t x));
            after = last opened waiting;
          },
          waiting_grown t stated depth x children (suc (length opened)) opened under waiting,
        ),
        λ n l outside. by n outside (old_or_last t x n l),
      )
    where
      last : (os : List OpenNode) → AreWaiting t 0 stated depth os → IsAfter (length t) os
      last [] w = tt
      last (o ∷ outer) w = w.0.there

      by : (n : ℕ) → (length t ≢ n) × IsOutside n opened → (n < length t) ⊎ (n ≡ length t) → IsClosed (t ++ x ∷ []) (with_last (length t) children stated) n
      by n outside (inl m) = closed_grown t stated depth x children 0 opened started under closed n m outside.1
      by n outside (inr e) = absurd (outside.0 (sym e))

  by_kind : (kind : NodeKind) → x.kind ≡ kind → IsLeafCount kind children → (after : List OpenNode) → open_after kind (length t) children opened ≡ Ok after
      → AreWaiting (t ++ x ∷ []) 0 (with_last (length t) children stated) (with_last (length t) (suc (length opened)) depth) after
      × AreClosed (t ++ x ∷ []) (with_last (length t) children stated) after
  by_kind (Buy good units) is leaf after e = leaf_after (subst (λ k. IsInterval k children) (sym is) leaf) leaf after e
  by_kind (Sell good units) is leaf after e = leaf_after (subst (λ k. IsInterval k children) (sym is) leaf) leaf after e
  by_kind (Choose least most) is leaf after e = choose (λ m. choose_after least most is m after) children refl e
    where
      choose : (0 < children → (record { number = length t; least = least; most = most; children = children; left = children } ∷ opened) ≡ after
          → AreWaiting (t ++ x ∷ []) 0 (with_last (length t) children stated) (with_last (length t) (suc (length opened)) depth) after
          × AreClosed (t ++ x ∷ []) (with_last (length t) children stated) after)
          → (c : ℕ) → c ≡ children → open_after (Choose least most) (length t) c opened ≡ Ok after
          → AreWaiting (t ++ x ∷ []) 0 (with_last (length t) children stated) (with_last (length t) (suc (length opened)) depth) after
          × AreClosed (t ++ x ∷ []) (with_last (length t) children stated) after
      choose go zero same e = absurd cc
      choose go (suc c) same e =
          go (omega arith) (ap (λ n. record { number = length t; least = least; most = most; children = n; left = n } ∷ opened) (sym same) ∙ cc)

  pub opened_after : IsLeafCount x.kind children → (after : List OpenNode) → open_after x.kind (length t) children opened ≡ Ok after
      → AreWaiting (t ++ x ∷ []) 0 (with_last (length t) children stated) (with_last (length t) (suc (length opened)) depth) after
      × AreClosed (t ++ x ∷ []) (with_last (length t) children stated) after
  opened_after leaf after e = by_kind x.kind refl leaf after e

-- with no open node it is a tree
pub IsTree-closed : (goods : ℕ) (t : Tree) (bounds : Bounds) (stated depth : ℕ → ℕ) → IsShaped goods t bounds depth → 0 < length t → AreClosed t stated [] → IsTree t
IsTree-closed goods t bounds stated depth shaped some closed = record {
  rooted = some;
  root_parent = shaped.root_parent;
  parent_first = shaped.parent_first;
  preorder = shaped.preorder;
  interval = λ n l. subst (IsInterval (kind_of t n)) (sym (closed n l tt).1) (closed n l tt).0;
}
