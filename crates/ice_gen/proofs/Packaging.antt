-- A buyer, package by package.
use Rattle.std.proofs.Common.{ℕ, zero, suc, ◌+◌, ◌*◌, ◌%◌, ◌<◌, ◌≤◌, ◌≡◌, Bool, true, false, cond, ◌&&◌, ◌||◌, ltb, leb, eqb, List, [], ◌∷◌, ◌++◌, map, length, replicate, Option, Some, None, refl, arith, ap, sym, ◌∙◌, append_assoc, pos, sum}
use Rattle.std.specs.List.{list_all}
use Rattle.std.proofs.lemmas.Bool.Decides.{nat_tests}
use Rattle.std.proofs.lemmas.List.{length_push, map-append, replicate-append-replicate}
use Rattle.std.proofs.Math.Numerals.{add-one}
use Rattle.ice_defs.specs.declared.Node.{Node}
use Rattle.ice_defs.specs.declared.NodeKind.TheVariants.{Choose, Buy}
use Rattle.ice_defs.specs.Sum.{numbers_below}
use Rattle.ice_defs.specs.Tree.{Tree, kind_of, parent_of, children_of}
use Rattle.ice_defs.specs.Making.{is_complete, innermost, close_refusal}
use Rattle.ice_tree.specs.Making.{draft_close_refusal, kind_close_refusal, all_but_first}
use Rattle.ice_tree.proofs.MoreNodes.{old_node, last_node, children_of-new, children_of-past}
use Rattle.ice_gen.specs.declared.valued.Valued.{Valued}
use Rattle.ice_gen.specs.Generated.{advanced, draws, no_value, package_draws, package_tree, package_values, buyer, buyer_draws}
use Rattle.ice_gen.specs.Drawing.{drawn, state_after}
use Rattle.ice_gen.specs.Growing.{ValuedDraft, no_nodes, with_valued, with_choose, draft_of}
use Rattle.ice_gen.proofs.Numbers.{all_below}

-- ---- one package, leaf by leaf

-- a tree with so many leaves more, which buy every fifth good from the first on
unfoldable pub leaves : ValuedDraft → ℕ → ℕ → ValuedDraft
leaves d first zero = d
leaves d first (suc a) = with_valued (leaves d first a) (Buy ((first + 5 * a) % 12) 1) no_value

pub leaves-none : (d : ValuedDraft) (first : ℕ) → d ≡ leaves d first 0
unfolding leaves
leaves-none d first = refl

pub leaves-more : (d was now : ValuedDraft) (first a : ℕ) → was ≡ leaves d first a → now ≡ with_valued was (Buy ((first + 5 * a) % 12) 1) no_value → now ≡ leaves d first (a + 1)
unfolding leaves
leaves-more d was now first a so_far step =
    step ∙ ap (λ e. with_valued e (Buy ((first + 5 * a) % 12) 1) no_value) so_far ∙ ap (leaves d first) (sym (add-one a))

pub opened-leaves : (d : ValuedDraft) (first a : ℕ) → (leaves d first a).opened ≡ d.opened
unfolding leaves
opened-leaves d first zero = refl
opened-leaves d first (suc a) = opened-leaves d first a

pub length-leaves : (d : ValuedDraft) (first a : ℕ) → length (leaves d first a).tree ≡ length d.tree + a
unfolding leaves
length-leaves d first zero = omega arith
length-leaves d first (suc a) =
    omega (arith, length_push (leaves d first a).tree (record { kind = Buy ((first + 5 * a) % 12) 1; parent = innermost (leaves d first a).opened }), length-leaves d first a)

module _ (d : ValuedDraft) (k first : ℕ) (value : Valued) where
  -- a package with so many leaves
  abbrev pub packed : ℕ → ValuedDraft
  packed a = leaves (with_choose d (Choose k k) value) first a

  pub opened-packed : (a : ℕ) → (packed a).opened ≡ length d.tree ∷ d.opened
  opened-packed a = opened-leaves (with_choose d (Choose k k) value) first a

  pub tree-packed : (a : ℕ) → (packed a).tree
      ≡ d.tree ++ record { kind = Choose k k; parent = innermost d.opened } ∷ map (λ j. record { kind = Buy ((first + 5 * j) % 12) 1; parent = length d.tree }) (numbers_below a)
  unfolding leaves
  tree-packed zero = refl
  tree-packed (suc a) =
      let leaf : ℕ → Node = λ j. record { kind = Buy ((first + 5 * j) % 12) 1; parent = length d.tree } in
      let root : Node = record { kind = Choose k k; parent = innermost d.opened } in
      ap (λ (l : List ℕ). (packed a).tree ++ record { kind = Buy ((first + 5 * a) % 12) 1; parent = innermost l } ∷ []) (opened-packed a)
      ∙ ap (λ t. t ++ leaf a ∷ []) (tree-packed a)
      ∙ append_assoc (d.tree) (root ∷ map leaf (numbers_below a)) (leaf a ∷ [])
      ∙ ap (λ l. d.tree ++ root ∷ l) (sym (map-append leaf (numbers_below a) (a ∷ [])))

  pub values-packed : (a : ℕ) → (packed a).values ≡ d.values ++ value ∷ replicate a no_value
  unfolding leaves
  values-packed zero = refl
  values-packed (suc a) =
      ap (λ vs. vs ++ no_value ∷ []) (values-packed a)
      ∙ append_assoc (d.values) (value ∷ replicate a no_value) (no_value ∷ [])
      ∙ ap (λ vs. d.values ++ value ∷ vs) (replicate-append-replicate a 1 no_value ∙ ap (λ n. replicate n no_value) (add-one a))

  pub length-packed : (a : ℕ) → length (packed a).tree ≡ length d.tree + 1 + a
  length-packed a =
      omega (arith, length_push d.tree (record { kind = Choose k k; parent = innermost d.opened }), length-leaves (with_choose d (Choose k k) value) first a)

  kind-packed : (a : ℕ) → kind_of (packed a).tree (length d.tree) ≡ Choose k k
  unfolding leaves
  kind-packed zero = ap (λ (n : Node). n.kind) (last_node d.tree (record { kind = Choose k k; parent = innermost d.opened }))
  kind-packed (suc a) =
      ap (λ (n : Node). n.kind) (old_node (packed a).tree (record { kind = Buy ((first + 5 * a) % 12) 1; parent = innermost (packed a).opened }) (length d.tree) (omega (arith, length-packed a)))
      ∙ kind-packed a

  module _ (begun : 0 < length d.tree) (root : d.opened ≡ 0 ∷ []) (parents : (c : ℕ) → 0 < c → c < length d.tree → parent_of d.tree c < c) where
    children-packed : (a : ℕ) → length (children_of (packed a).tree (length d.tree)) ≡ a
    unfolding leaves
    children-packed zero =
        let x : Node = record { kind = Choose k k; parent = innermost d.opened } in
        let elsewhere : eqb (innermost d.opened) (length d.tree) ≡ false = ap (λ (l : List ℕ). eqb (innermost l) (length d.tree)) root ∙ zero-other (length d.tree) begun in
        let none : children_of d.tree (length d.tree) ≡ [] = children_of-past d.tree (length d.tree) parents (omega arith) in
        ap length (children_of-new d.tree x (length d.tree)
        ∙ ap (λ l. l ++ cond (ltb 0 (length d.tree) && eqb x.parent (length d.tree)) (length d.tree ∷ []) []) none
        ∙ ap (λ b. cond (ltb 0 (length d.tree) && b) (length d.tree ∷ []) []) elsewhere
        ∙ no_more (ltb 0 (length d.tree)) (length d.tree))
      where
        zero-other : (n : ℕ) → 0 < n → eqb 0 n ≡ false
        zero-other n some = grind (arith, nat_tests)

        no_more : (b : Bool) (n : ℕ) → cond (b && false) (n ∷ []) [] ≡ []
        no_more true n = refl
        no_more false n = refl
    children-packed (suc a) =
        let t : Tree = (packed a).tree in
        let x : Node = record { kind = Buy ((first + 5 * a) % 12) 1; parent = innermost (packed a).opened } in
        let here : eqb (innermost (packed a).opened) (length d.tree) ≡ true = ap (λ (l : List ℕ). eqb (innermost l) (length d.tree)) (opened-packed a) ∙ same (length d.tree) in
        let some : ltb 0 (length t) ≡ true = positive (length t) (omega (arith, length-packed a)) in
        let e : children_of (t ++ x ∷ []) (length d.tree) ≡ children_of t (length d.tree) ++ length t ∷ [] =
        children_of-new t x (length d.tree)
        ∙ ap (λ b. children_of t (length d.tree) ++ cond (b && eqb x.parent (length d.tree)) (length t ∷ []) []) some
        ∙ ap (λ b. children_of t (length d.tree) ++ cond b (length t ∷ []) []) here in
        ap length e ∙ omega (arith, length_push (children_of t (length d.tree)) (length t), children-packed a)
      where
        same : (n : ℕ) → eqb n n ≡ true
        same n = grind (arith, nat_tests)

        positive : (n : ℕ) → 0 < n → ltb 0 n ≡ true
        positive n some = grind (arith, nat_tests)

    -- with all its leaves it may be closed
    pub closes-packed : 0 < k → draft_close_refusal (draft_of (packed k)) ≡ None
    closes-packed some =
        ap (λ (l : List ℕ). cond (eqb (length l) 0) (Some 25) (kind_close_refusal (kind_of (packed k).tree (innermost l)) (length (children_of (packed k).tree (innermost l))))) (opened-packed k)
        ∙ ap (λ b. cond b (Some 25) (kind_close_refusal (kind_of (packed k).tree (length d.tree)) (length (children_of (packed k).tree (length d.tree))))) (some_open (length d.opened))
        ∙ ap (λ kind. kind_close_refusal kind (length (children_of (packed k).tree (length d.tree)))) (kind-packed k)
        ∙ ap (λ n. close_refusal k k n) (children-packed k)
        ∙ fits k some
      where
        some_open : (n : ℕ) → eqb (suc n) 0 ≡ false
        some_open n = grind (arith, nat_tests)

        fits : (n : ℕ) → 0 < n → close_refusal n n n ≡ None
        fits n some =
            let a : ltb 0 n ≡ true = grind (arith, nat_tests) in
            let b : leb n n ≡ true = grind (arith, nat_tests) in
            ap (λ t. let o : Option ℕ = cond (t && leb n n && leb n n) None (Some 20) in o) a ∙ ap (λ t. let o : Option ℕ = cond (t && t) None (Some 20) in o) b

-- a tree in which a root is open isn't complete while a package is
pub unfinished-packed : (d : ValuedDraft) (n : ℕ) (outer : List ℕ) → d.opened ≡ n ∷ outer → is_complete (draft_of d) ≡ false
unfinished-packed d n outer is = ap (λ (l : List ℕ). ltb 0 (length d.tree) && eqb (length l) 0) is ∙ by (ltb 0 (length d.tree)) (length outer)
  where
    by : (b : Bool) (m : ℕ) → (b && eqb (suc m) 0) ≡ false
    by true m = grind (arith, nat_tests)
    by false m = refl

-- ---- its value

below_5 : (P : ℕ → Type 0) → P 2 → P 3 → P 4 → (k : ℕ) → 2 ≤ k → k ≤ 4 → P k
below_5 P p2 p3 p4 zero low high = absurd (omega arith)
below_5 P p2 p3 p4 (suc zero) low high = absurd (omega arith)
below_5 P p2 p3 p4 (suc (suc zero)) low high = p2
below_5 P p2 p3 p4 (suc (suc (suc zero))) low high = p3
below_5 P p2 p3 p4 (suc (suc (suc (suc zero)))) low high = p4
below_5 P p2 p3 p4 (suc (suc (suc (suc (suc k))))) low high = absurd (omega arith)

abbrev pub worth_of : ℕ → ℕ → Valued
worth_of k x = record { truth = pos (10 * k + sum (draws (replicate k 30) x)); below = drawn (state_after k x) 10; above = drawn (state_after (k + 1) x) 10 }

pub values-package : (k x : ℕ) → 2 ≤ k → k ≤ 4 → worth_of k (advanced x) ∷ replicate k no_value ≡ package_values k (draws (package_draws k) x)
unfolding draws state_after
values-package k x low high = below_5 (λ k. worth_of k (advanced x) ∷ replicate k no_value ≡ package_values k (draws (package_draws k) x)) refl refl refl k low high

pub tree-package : (k number x : ℕ) → record { kind = Choose k k; parent = 0 } ∷ map (λ j. record { kind = Buy ((drawn x 12 + 5 * j) % 12) 1; parent = number }) (numbers_below k) ≡ package_tree number k (draws (package_draws k) x)
unfolding draws
tree-package k number x = refl

same_value : (v w : Valued) → v.truth ≡ w.truth → v.below ≡ w.below → v.above ≡ w.above → v ≡ w
same_value v w truth below above =
    ap (λ z. let r : Valued = record { truth = z; below = v.below; above = v.above } in r) truth
    ∙ ap (λ n. let r : Valued = record { truth = w.truth; below = n; above = v.above } in r) below
    ∙ ap (λ n. let r : Valued = record { truth = w.truth; below = w.below; above = n } in r) above

-- the value that is drawn from a later state
pub worth-from : (v : Valued) (k x s : ℕ) → s ≡ advanced x → v.truth ≡ pos (10 * k + sum (draws (replicate k 30) s)) → v.below ≡ drawn (state_after k s) 10 → v.above ≡ drawn (state_after (k + 1) s) 10
    → v ≡ worth_of k (advanced x)
worth-from v k x s at truth below above = same_value v (worth_of k s) truth below above ∙ ap (worth_of k) at

-- the whole package
pub tree-whole : (d : ValuedDraft) (k first : ℕ) (v : Valued) (x : ℕ) → d.opened ≡ 0 ∷ [] → first ≡ drawn x 12
    → (packed d k first v k).tree ≡ d.tree ++ package_tree (length d.tree) k (draws (package_draws k) x)
tree-whole d k first v x root is =
    let leaf : ℕ → ℕ → Node = λ f j. record { kind = Buy ((f + 5 * j) % 12) 1; parent = length d.tree } in
    tree-packed d k first v k
    ∙ ap (λ (l : List ℕ). d.tree ++ record { kind = Choose k k; parent = innermost l } ∷ map (leaf first) (numbers_below k)) root
    ∙ ap (λ f. d.tree ++ record { kind = Choose k k; parent = 0 } ∷ map (leaf f) (numbers_below k)) is
    ∙ ap (λ t. d.tree ++ t) (tree-package k (length d.tree) x)

pub values-whole : (d : ValuedDraft) (k first : ℕ) (v : Valued) (x : ℕ) → 2 ≤ k → k ≤ 4 → v ≡ worth_of k (advanced x)
    → (packed d k first v k).values ≡ d.values ++ package_values k (draws (package_draws k) x)
values-whole d k first v x low high is =
    values-packed d k first v k
    ∙ ap (λ w. d.values ++ w ∷ replicate k no_value) is
    ∙ ap (λ vs. d.values ++ vs) (values-package k x low high)

-- ---- package by package

-- the state after so many packages, of two goods and more
unfoldable pub package_state : ℕ → ℕ → ℕ
package_state zero x = x
package_state (suc j) x = state_after (j + 2 + 3) (package_state j x)

abbrev pub with_package : ValuedDraft → ℕ → ℕ → ValuedDraft
with_package d k x = record {
  tree = d.tree ++ package_tree (length d.tree) k (draws (package_draws k) x);
  values = d.values ++ package_values k (draws (package_draws k) x);
  opened = d.opened;
}

-- the tree after so many packages
unfoldable pub bought_by : ℕ → ℕ → ValuedDraft
bought_by zero x = with_choose no_nodes (Choose 0 1) no_value
bought_by (suc j) x = with_package (bought_by j x) (j + 2) (package_state j x)

pub opened-bought_by : (j x : ℕ) → (bought_by j x).opened ≡ 0 ∷ []
unfolding bought_by
opened-bought_by zero x = refl
opened-bought_by (suc j) x = opened-bought_by j x

-- what a further package asks of the tree
pub record MayGrow (d : ValuedDraft) (k : ℕ) : Type 0 where
  pub begun : 0 < length d.tree
  pub room : length d.tree + k < 13
  pub parents : (c : ℕ) → 0 < c → c < length d.tree → parent_of d.tree c < c

follows : Tree → ℕ → Bool
follows t c = eqb c 0 || ltb (parent_of t c) c

parents-below : (t : Tree) → list_all (follows t) (numbers_below (length t)) ≡ true → (c : ℕ) → 0 < c → c < length t → parent_of t c < c
unfolding follows
parents-below t all c some l = by (eqb c 0) (ltb (parent_of t c) c) refl refl (all_below (follows t) (length t) all c l)
  where
    by : (b e : Bool) → eqb c 0 ≡ b → ltb (parent_of t c) c ≡ e → (b || e) ≡ true → parent_of t c < c
    by true e is less or = grind (arith, nat_tests)
    by false true is less or = grind (arith, nat_tests)
    by false false is less or = absurd cc

pub MayGrow-bought_by : (j x : ℕ) → j < 3 → MayGrow (bought_by j x) (j + 2)
unfolding bought_by follows
MayGrow-bought_by zero x l = record { begun = omega arith; room = omega arith; parents = parents-below (bought_by 0 x).tree refl }
MayGrow-bought_by (suc zero) x l = record { begun = omega arith; room = omega arith; parents = parents-below (bought_by 1 x).tree refl }
MayGrow-bought_by (suc (suc zero)) x l = record { begun = omega arith; room = omega arith; parents = parents-below (bought_by 2 x).tree refl }
MayGrow-bought_by (suc (suc (suc j))) x l = absurd (omega arith)

pub package_state-more : (j x : ℕ) → package_state (j + 1) x ≡ state_after (j + 2 + 3) (package_state j x)
unfolding package_state
package_state-more j x = ap (λ n. package_state n x) (add-one j)

pub bought_by-more : (j x : ℕ) → bought_by (j + 1) x ≡ with_package (bought_by j x) (j + 2) (package_state j x)
unfolding bought_by
bought_by-more j x = ap (λ n. bought_by n x) (add-one j)

pub bought_by-none : (x : ℕ) → bought_by 0 x ≡ with_choose no_nodes (Choose 0 1) no_value
unfolding bought_by
bought_by-none x = refl

pub package_state-none : (x : ℕ) → package_state 0 x ≡ x
unfolding package_state
package_state-none x = refl

abbrev closed : ValuedDraft → ValuedDraft
closed d = record d { opened = all_but_first d.opened }

pub complete-bought : (x : ℕ) → is_complete (draft_of (closed (bought_by 3 x))) ≡ true
unfolding bought_by
complete-bought x = refl

pub closes-bought : (x : ℕ) → draft_close_refusal (draft_of (bought_by 3 x)) ≡ None
unfolding bought_by
closes-bought x = refl

pub package_state-all : (x : ℕ) → package_state 3 x ≡ state_after 18 x
unfolding package_state state_after
package_state-all x = refl

pub tree-bought : (x : ℕ) → (bought_by 3 x).tree ≡ (buyer 0 (draws buyer_draws x)).tree
unfolding bought_by package_state draws state_after
tree-bought x = refl

pub values-bought : (x : ℕ) → (bought_by 3 x).values ≡ (buyer 0 (draws buyer_draws x)).values
unfolding bought_by package_state draws state_after
values-bought x = refl

same_draft : (d e : ValuedDraft) → d.tree ≡ e.tree → d.values ≡ e.values → d.opened ≡ e.opened → d ≡ e
same_draft d e tree values opened =
    ap (λ t. let r : ValuedDraft = record { tree = t; values = d.values; opened = d.opened } in r) tree
    ∙ ap (λ vs. let r : ValuedDraft = record { tree = e.tree; values = vs; opened = d.opened } in r) values
    ∙ ap (λ o. let r : ValuedDraft = record { tree = e.tree; values = e.values; opened = o } in r) opened

-- one package more
pub package-more : (j x k n : ℕ) (was now : ValuedDraft) (before after : ℕ) → k ≡ j + 2 → n ≡ j + 1 → was ≡ bought_by j x → before ≡ package_state j x
    → now.tree ≡ was.tree ++ package_tree (length was.tree) k (draws (package_draws k) before)
    → now.values ≡ was.values ++ package_values k (draws (package_draws k) before)
    → now.opened ≡ was.opened
    → after ≡ state_after (k + 3) before
    → (now ≡ bought_by n x) × (after ≡ package_state n x)
package-more j x k n was now before after k_is n_is is at tree values opened moved = (
  same_draft now (with_package was k before) tree values opened
      ∙ ap (λ d. with_package d k before) is
      ∙ ap (λ m. with_package (bought_by j x) m before) k_is
      ∙ ap (λ s. with_package (bought_by j x) (j + 2) s) at
      ∙ sym (bought_by-more j x)
      ∙ ap (λ m. bought_by m x) (sym n_is),
  moved ∙ ap (λ m. state_after (m + 3) before) k_is ∙ ap (state_after (j + 2 + 3)) at ∙ sym (package_state-more j x) ∙ ap (λ m. package_state m x) (sym n_is),
)
