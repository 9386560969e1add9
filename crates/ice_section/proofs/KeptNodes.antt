-- The open nodes of a tree from what is kept of them.
use Rattle.std.proofs.Common.{ℕ, suc, ◌+◌, ◌-◌, ◌<◌, ◌≤◌, ◌≡◌, cond, eqb, ltb, List, [], ◌∷◌, ◌++◌, length, get_or, take, set, reverse, Option, Some, None, Ok, Err, refl, arith, ap, sym, ◌∙◌, subst}
use Rattle.std.specs.List.{refill}
use Rattle.std.proofs.lemmas.Bool.{lt-ltb, le-ltb, ne_eqb, cond-true, cond-false}
use Rattle.std.proofs.lemmas.List.{append-nil, reverse-append, take_all, take_more, take_more_set, drop_all, length-set, length-reverse}
use Rattle.ice_defs.specs.declared.Node.{Node}
use Rattle.ice_defs.specs.declared.NodeKind.{NodeKind}
use Rattle.ice_defs.specs.declared.NodeKind.TheVariants.{Choose, Buy, Sell}
use Rattle.ice_defs.specs.Tree.{Tree, kind_of, children_of}
use Rattle.ice_defs.specs.Making.{close_refusal, innermost, TreeDraft}
use Rattle.ice_tree.specs.Making.{kind_close_refusal, draft_close_refusal, all_but_first}
use Rattle.ice_tree.proofs.MoreNodes.{children_of-other}
use Rattle.ice_section.specs.Section.{maker, OpenNode, complete, unless_unfit, parent_under}
use Rattle.ice_section.specs.Kept.{least_of, most_of, open_node, open_nodes, IsChoose, AreKept}
use Rattle.ice_section.proofs.NewNode.{old_kind, children_of_parent}
use Rattle.ice_section.proofs.OpenNodes.{IsAfter, AreWaiting}

same_node : (n c d : ℕ) (k l : NodeKind) (left : ℕ) → k ≡ l → c ≡ d
    → ◌≡◌ {A = OpenNode} (record { number = n; least = least_of k; most = most_of k; children = c; left = left }) (record { number = n; least = least_of l; most = most_of l; children = d; left = left })
same_node n c d k l left p q = λ i. record { number = n; least = least_of (p i); most = most_of (p i); children = q i; left = left }

pub length_open : (t : Tree) (incomplete : ℕ) (os ls : List ℕ) → length os ≡ length ls → length (open_nodes t incomplete os ls) ≡ length os
length_open t incomplete [] ls e = refl
length_open t incomplete (n ∷ os) [] e = absurd (omega (arith, e))
length_open t incomplete (n ∷ os) (l ∷ ls) e = ap suc (length_open t 1 os ls (omega (arith, e)))

pub parent_open : (t : Tree) (os ls : List ℕ) → length os ≡ length ls → parent_under (open_nodes t 0 os ls) ≡ innermost os
parent_open t [] ls e = refl
parent_open t (n ∷ os) [] e = absurd (omega (arith, e))
parent_open t (n ∷ os) (l ∷ ls) e = refl

is_choose : (k : NodeKind) (least most : ℕ) → k ≡ Choose least most → IsChoose k
is_choose k least most e = subst IsChoose (sym e) tt

-- ---- a node under the innermost open one

module _ (t : Tree) (x : Node) where
  outer_open : (stated depth : ℕ → ℕ) (os ls : List ℕ) → IsAfter x.parent (open_nodes t 1 os ls) → AreWaiting t 1 stated depth (open_nodes t 1 os ls)
      → open_nodes (t ++ x ∷ []) 1 os ls ≡ open_nodes t 1 os ls
  outer_open stated depth [] ls after w = refl
  outer_open stated depth (n ∷ os) [] after w = refl
  outer_open stated depth (n ∷ os) (l ∷ ls) after w =
      let head = same_node n _ _ _ _ l (old_kind t x n w.0.there) (ap (λ c. length c + l - 1) (children_of-other t x n (λ e. omega (arith, after)))) in
      ap (λ o. o ∷ open_nodes (t ++ x ∷ []) 1 os ls) head ∙ ap (λ os. open_node t 1 n l ∷ os) (outer_open stated depth os ls (further (open_nodes t 1 os ls) w.0.after) w.1)
    where
      further : (outer : List OpenNode) → IsAfter n outer → IsAfter x.parent outer
      further [] h = tt
      further (y ∷ outer) h = omega (arith, h, after)

  pub grown_open : (stated depth : ℕ → ℕ) (os ls : List ℕ) → x.parent ≡ innermost os → AreWaiting t 0 stated depth (open_nodes t 0 os ls)
      → open_nodes (t ++ x ∷ []) 1 os ls ≡ open_nodes t 0 os ls
  grown_open stated depth [] ls under w = refl
  grown_open stated depth (n ∷ os) [] under w = refl
  grown_open stated depth (n ∷ os) (l ∷ ls) under w =
      let head = same_node n _ _ _ _ l (old_kind t x n w.0.there) (omega (arith, children_of_parent t x n under w.0.there)) in
      ap (λ o. o ∷ open_nodes (t ++ x ∷ []) 1 os ls) head ∙ ap (λ os. open_node t 0 n l ∷ os) (outer_open stated depth os ls (around (open_nodes t 1 os ls) w.0.after) w.1)
    where
      around : (outer : List OpenNode) → IsAfter n outer → IsAfter x.parent outer
      around [] h = tt
      around (y ∷ outer) h = omega (arith, h, under)

  grown_kept_outer : (stated depth : ℕ → ℕ) (incomplete : ℕ) (os ls : List ℕ) → AreWaiting t incomplete stated depth (open_nodes t incomplete os ls) → length os ≡ length ls → AreKept (t ++ x ∷ []) os ls
  grown_kept_outer stated depth incomplete [] [] w e = tt
  grown_kept_outer stated depth incomplete [] (l ∷ ls) w e = absurd (omega (arith, e))
  grown_kept_outer stated depth incomplete (n ∷ os) [] w e = absurd (omega (arith, e))
  grown_kept_outer stated depth incomplete (n ∷ os) (l ∷ ls) w e =
      (is_choose (kind_of (t ++ x ∷ []) n) _ _ (old_kind t x n w.0.there ∙ w.0.is_choose), w.0.some_left, grown_kept_outer stated depth 1 os ls w.1 (omega (arith, e)))

  pub grown_kept : (stated depth : ℕ → ℕ) (os ls : List ℕ) → AreWaiting t 0 stated depth (open_nodes t 0 os ls) → length os ≡ length ls → AreKept (t ++ x ∷ []) os ls
  grown_kept stated depth os ls w e = grown_kept_outer stated depth 0 os ls w e

-- the new node is open, and waits for all its children
pub begun_open : (t : Tree) (n least most children : ℕ) → kind_of t n ≡ Choose least most → children_of t n ≡ []
    → ◌≡◌ {A = OpenNode} (open_node t 0 n children) (record { number = n; least = least; most = most; children = children; left = children })
begun_open t n least most children is none = same_node n _ _ _ _ children is (omega (arith, ap length none))

-- ---- a child is complete

pub one_fewer : (t : Tree) (n left : ℕ) (os ls : List ℕ) → 1 < left → complete (open_nodes t 1 (n ∷ os) (left ∷ ls)) ≡ Ok (open_nodes t 0 (n ∷ os) ((left - 1) ∷ ls))
one_fewer t n left os ls several =
    cond-true (ltb 1 left) _ _ (lt-ltb 1 left several)
    ∙ ap (λ o. Ok (o ∷ open_nodes t 1 os ls)) (same_node n (length (children_of t n) + left - 1) (length (children_of t n) + (left - 1) - 0) (kind_of t n) (kind_of t n) (left - 1) refl (omega arith))

closes_as : (k : NodeKind) → IsChoose k → (children counted : ℕ) → children ≡ counted → (refusal : NodeKind → ℕ → Option ℕ) → ((least most c : ℕ) → refusal (Choose least most) c ≡ close_refusal least most c)
    → close_refusal (least_of k) (most_of k) children ≡ refusal k counted
closes_as (Choose least most) choose children counted e refusal is = ap (close_refusal least most) e ∙ sym (is least most counted)
closes_as (Buy good units) choose children counted e refusal is = absurd choose
closes_as (Sell good units) choose children counted e refusal is = absurd choose

pub last_child : (t : Tree) (n left : ℕ) (os ls : List ℕ) → left ≤ 1 → 0 < left → IsChoose (kind_of t n) → (refusal : NodeKind → ℕ → Option ℕ) → ((least most c : ℕ) → refusal (Choose least most) c ≡ close_refusal least most c)
    → complete (open_nodes t 1 (n ∷ os) (left ∷ ls)) ≡ unless_unfit (refusal (kind_of t n) (length (children_of t n))) (complete (open_nodes t 1 os ls))
last_child t n left os ls last some choose refusal is =
    cond-false (ltb 1 left) _ _ (le-ltb 1 left last)
    ∙ ap (λ r. unless_unfit r (complete (open_nodes t 1 os ls))) (closes_as (kind_of t n) choose (length (children_of t n) + left - 1) (length (children_of t n)) (omega arith) refusal is)

-- ---- the same over what the maker keeps

pub kept_length : (t : Tree) (os ls : List ℕ) → AreKept t os ls → length ls ≡ length os
kept_length t [] [] kept = refl
kept_length t [] (l ∷ ls) kept = absurd kept
kept_length t (n ∷ os) [] kept = absurd kept
kept_length t (n ∷ os) (l ∷ ls) kept = ap suc (kept_length t os ls kept.2)

pub reversed_last : (xs : List ℕ) (n : ℕ) → length xs ≡ n + 1 → reverse xs ≡ get_or xs n 0 ∷ reverse (take n xs)
reversed_last xs n e =
    ap reverse (sym (take_all (n + 1) xs (omega (arith, e))) ∙ take_more xs n 0 (omega (arith, e))) ∙ reverse-append (take n xs) (get_or xs n 0 ∷ [])

pub reversed_set : (xs : List ℕ) (n v : ℕ) → length xs ≡ n + 1 → reverse (set xs n v) ≡ v ∷ reverse (take n xs)
reversed_set xs n v e =
    ap reverse (sym (take_all (n + 1) (set xs n v) (omega (arith, e, length-set xs n v))) ∙ take_more_set xs n v (omega (arith, e))) ∙ reverse-append (take n xs) (v ∷ [])

pub refill_same : (n : ℕ) (xs ws : List ℕ) → length ws ≡ n → length xs ≡ n → refill n xs ws ≡ ws
refill_same n xs ws e f =
    ap (λ rest. take n (ws ++ rest)) (drop_all (length ws) xs (omega (arith, e, f))) ∙ ap (take n) (append-nil ws) ∙ take_all n ws (omega (arith, e))

pub fewer_children : (t : Tree) (os : List ℕ) (left : ℕ) (ls : List ℕ) → AreKept t os (left ∷ ls) → 1 < left → complete (open_nodes t 1 os (left ∷ ls)) ≡ Ok (open_nodes t 0 os ((left - 1) ∷ ls))
fewer_children t [] left ls kept several = absurd kept
fewer_children t (n ∷ os) left ls kept several = one_fewer t n left os ls several

closing : (d : TreeDraft) (left : ℕ) (ls : List ℕ) → AreKept d.tree d.opened (left ∷ ls) → left ≤ 1
    → complete (open_nodes d.tree 1 d.opened (left ∷ ls)) ≡ unless_unfit (draft_close_refusal d) (complete (open_nodes d.tree 1 (all_but_first d.opened) ls))
closing d left ls kept last = by d.opened kept
  where
    by : (os : List ℕ) → AreKept d.tree os (left ∷ ls)
        → complete (open_nodes d.tree 1 os (left ∷ ls))
        ≡ unless_unfit (cond (eqb (length os) 0) (Some 25) (kind_close_refusal (kind_of d.tree (innermost os)) (length (children_of d.tree (innermost os))))) (complete (open_nodes d.tree 1 (all_but_first os) ls))
    by [] kept = absurd kept
    by (n ∷ os) kept =
        last_child d.tree n left os ls last kept.1 kept.0 kind_close_refusal (λ least most c. refl)
        ∙ ap (λ r. unless_unfit r (complete (open_nodes d.tree 1 os ls))) (sym (cond-false (eqb (length (n ∷ os)) 0) (Some 25) _ (ne_eqb (length (n ∷ os)) 0 (λ e. omega arith))))

-- the innermost open node is closed
pub child_closed : (t : Tree) (d : TreeDraft) (left : ℕ) (ls : List ℕ) → d.tree ≡ t → AreKept t d.opened (left ∷ ls) → left ≤ 1 → draft_close_refusal d ≡ None
    → complete (open_nodes t 1 d.opened (left ∷ ls)) ≡ complete (open_nodes t 1 (all_but_first d.opened) ls)
child_closed t d left ls same kept last e =
    subst (λ x. complete (open_nodes x 1 d.opened (left ∷ ls)) ≡ complete (open_nodes x 1 (all_but_first d.opened) ls)) same
    (closing d left ls (subst (λ x. AreKept x d.opened (left ∷ ls)) (sym same) kept) last ∙ ap (λ r. unless_unfit r (complete (open_nodes d.tree 1 (all_but_first d.opened) ls))) e)

pub child_refused : (t : Tree) (d : TreeDraft) (left : ℕ) (ls : List ℕ) (number : ℕ) → d.tree ≡ t → AreKept t d.opened (left ∷ ls) → left ≤ 1 → draft_close_refusal d ≡ Some number
    → complete (open_nodes t 1 d.opened (left ∷ ls)) ≡ Err (maker number)
child_refused t d left ls number same kept last e =
    subst (λ x. complete (open_nodes x 1 d.opened (left ∷ ls)) ≡ Err (maker number)) same
    (closing d left ls (subst (λ x. AreKept x d.opened (left ∷ ls)) (sym same) kept) last ∙ ap (λ r. unless_unfit r (complete (open_nodes d.tree 1 (all_but_first d.opened) ls))) e)

pub kept_outer : (t : Tree) (os : List ℕ) (left : ℕ) (ls : List ℕ) → AreKept t os (left ∷ ls) → AreKept t (all_but_first os) ls
kept_outer t [] left ls kept = absurd kept
kept_outer t (n ∷ os) left ls kept = kept.2

-- ---- steps of the loop: the innermost open node stands last

module _ (t : Tree) (d : TreeDraft) (same : d.tree ≡ t) (xs es : List ℕ) (n : ℕ) (e : es ≡ xs) (size : length xs ≡ n + 1) (kept : AreKept t d.opened (reverse xs)) where
  shown : get_or xs n 0 ≡ get_or es n 0
  shown = ap (λ zs. get_or zs n 0) (sym e)

  last_first : reverse xs ≡ get_or es n 0 ∷ reverse (take n xs)
  last_first = reversed_last xs n size ∙ ap (λ x. x ∷ reverse (take n xs)) shown

  kept_last : AreKept t d.opened (get_or es n 0 ∷ reverse (take n xs))
  kept_last = subst (AreKept t d.opened) last_first kept

  pub step_fewer : (ds : List ℕ) → ds ≡ xs → 1 < get_or es n 0
      → complete (open_nodes t 1 d.opened (reverse xs)) ≡ Ok (open_nodes t 0 d.opened (reverse (refill (length xs) xs (set ds n (get_or es n 0 - 1)))))
  step_fewer ds f several =
      ap (λ ls. complete (open_nodes t 1 d.opened ls)) last_first
      ∙ fewer_children t d.opened (get_or es n 0) (reverse (take n xs)) kept_last several
      ∙ ap (λ ls. Ok (open_nodes t 0 d.opened ls)) (
      sym (reversed_set xs n (get_or es n 0 - 1) size)
      ∙ ap reverse (sym (refill_same (length xs) xs (set xs n (get_or es n 0 - 1)) (length-set xs n (get_or es n 0 - 1)) refl))
      ∙ ap (λ zs. reverse (refill (length xs) xs (set zs n (get_or es n 0 - 1)))) (sym f))

  pub length_fewer : (ds : List ℕ) (v : ℕ) → ds ≡ xs → length (refill (length xs) xs (set ds n v)) ≡ length d.opened
  length_fewer ds v f =
      ap length (refill_same (length xs) xs (set ds n v) (length-set ds n v ∙ ap length f) refl) ∙ length-set ds n v ∙ ap length f ∙ sym (length-reverse xs) ∙ kept_length t d.opened (reverse xs) kept

  pub step_closed : get_or es n 0 ≤ 1 → draft_close_refusal d ≡ None
      → (complete (open_nodes t 1 d.opened (reverse xs)) ≡ complete (open_nodes t 1 (all_but_first d.opened) (reverse (take n xs)))) × AreKept t (all_but_first d.opened) (reverse (take n xs))
  step_closed last closes = (
    ap (λ ls. complete (open_nodes t 1 d.opened ls)) last_first ∙ child_closed t d (get_or es n 0) (reverse (take n xs)) same kept_last last closes,
    kept_outer t d.opened (get_or es n 0) (reverse (take n xs)) kept_last,
  )

  pub step_refused : get_or es n 0 ≤ 1 → (number : ℕ) → draft_close_refusal d ≡ Some number → complete (open_nodes t 1 d.opened (reverse xs)) ≡ Err (maker number)
  step_refused last number closes = ap (λ ls. complete (open_nodes t 1 d.opened ls)) last_first ∙ child_refused t d (get_or es n 0) (reverse (take n xs)) number same kept_last last closes

-- no node is open
pub none_left : (t : Tree) (os : List ℕ) (xs : List ℕ) → xs ≡ [] → AreKept t os (reverse xs) → (complete (open_nodes t 1 os (reverse xs)) ≡ Ok (open_nodes t 0 os (reverse xs))) × (length xs ≡ length os)
none_left t os xs e kept = subst (λ zs. (complete (open_nodes t 1 os (reverse zs)) ≡ Ok (open_nodes t 0 os (reverse zs))) × (length zs ≡ length os)) (sym e) (by os (subst (λ zs. AreKept t os (reverse zs)) e kept))
  where
    by : (os : List ℕ) → AreKept t os [] → (complete (open_nodes t 1 os []) ≡ Ok (open_nodes t 0 os [])) × (length {A = ℕ} [] ≡ length os)
    by [] kept = (refl, refl)
    by (n ∷ os) kept = absurd kept

-- no node is open where none waits
pub closed_when : (t : Tree) (os xs : List ℕ) → length xs ≡ length os → length (open_nodes t 0 os (reverse xs)) ≡ length xs
closed_when t os xs e = length_open t 0 os (reverse xs) (sym e ∙ sym (length-reverse xs)) ∙ sym e
