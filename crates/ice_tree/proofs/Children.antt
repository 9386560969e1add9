-- The children of a node, and those of them that are inside a set.
use Rattle.std.proofs.Common.{ℕ, zero, suc, ◌+◌, ◌<◌, ◌≤◌, ◌≡◌, Bool, true, false, cond, ◌&&◌, List, [], ◌∷◌, ◌++◌, length, refl, arith, ap, sym, ◌∙◌, ◌⊎◌, inl, inr, length-append}
use Rattle.std.specs.Prelude.{count_by}
use Rattle.std.specs.List.{All, filter}
use Rattle.std.proofs.lemmas.Bool.{cases_lt}
use Rattle.std.proofs.lemmas.List.Elements.{filter-append, All-filter, All-from_get_or}
use Rattle.std.proofs.lemmas.List.Sums.{length-filter}
use Rattle.ice_defs.specs.Sum.{numbers_below, count_below}
use Rattle.ice_defs.specs.Tree.{Tree, IsTree, parent_of, is_child, children_of}
use Rattle.ice_defs.specs.Set.{NodeSet, has, children_inside}
use Rattle.ice_defs.proofs.Below.{length-numbers_below, get_or-numbers_below}

-- a node's children are nodes
pub children_of-inside : (t : Tree) (p : ℕ) → All (λ c. c < length t) (children_of t p)
children_of-inside t p =
    All-filter (is_child t p) (λ c. c < length t) (numbers_below (length t))
    (All-from_get_or (λ c. c < length t) (numbers_below (length t)) 0
    (λ i h. omega (arith, length-numbers_below (length t), get_or-numbers_below (length t) i 0 (omega (arith, length-numbers_below (length t))))))

-- a node's parent is a node
pub parent_of-inside : (t : Tree) (n : ℕ) → IsTree t → n < length t → parent_of t n < length t
parent_of-inside t n is h = by (cases_lt 0 n)
  where
    by : (0 < n) ⊎ (n ≤ 0) → parent_of t n < length t
    by (inl later) = omega (arith, is.parent_first n later h)
    by (inr root) =
        let here : n ≡ 0 = omega arith in
        omega (arith, ap (parent_of t) here, is.root_parent, is.rooted)

count_by-append : {X : Type 0} (p : X → Bool) (xs ys : List X) → count_by p (xs ++ ys) ≡ count_by p xs + count_by p ys
count_by-append p xs ys =
    sym (length-filter p (xs ++ ys)) ∙ ap length (filter-append p xs ys) ∙ length-append (filter p xs) (filter p ys) ∙ omega (arith, length-filter p xs, length-filter p ys)

abbrev number : Bool → ℕ
number b = cond b 1 0

count_by-filter : (p q : ℕ → Bool) (n : ℕ) → count_by q (filter p (numbers_below n)) ≡ count_below (λ c. p c && q c) n
count_by-filter p q zero = refl
count_by-filter p q (suc n) =
    ap (count_by q) (filter-append p (numbers_below n) (n ∷ []))
    ∙ count_by-append q (filter p (numbers_below n)) (filter p (n ∷ []))
    ∙ omega (arith, count_by-filter p q n, last (p n))
  where
    last : (b : Bool) → count_by q (cond b (n ∷ []) []) ≡ number (b && q n)
    last true = omega arith
    last false = refl

-- the children inside a set, counted
pub count_by-children_of : (t : Tree) (s : NodeSet) (p : ℕ) → count_by (has s) (children_of t p) ≡ children_inside t s p
count_by-children_of t s p = count_by-filter (is_child t p) (has s) (length t)
