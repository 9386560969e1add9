-- Sums and counts over the nodes of a tree and a set of them, side by side.
use Rattle.std.proofs.Common.{ℕ, zero, suc, ◌+◌, ◌≡◌, ◌≢◌, Bool, true, cond, ◌&&◌, eqb, ltb, [], ◌∷◌, ◌++◌, length, ℤ, pos, ◌+ℤ◌, refl, ap, arith}
use Rattle.std.specs.List.{AllByRecursion}
use Rattle.std.proofs.lemmas.Int.{ints}
use Rattle.std.proofs.lemmas.Bool.{ne_eqb}
use Rattle.std.proofs.lemmas.Bool.Decides.{nat_tests}
use Rattle.ice_defs.specs.declared.Node.{Node}
use Rattle.ice_defs.specs.Sum.{count_below}
use Rattle.ice_defs.specs.Tree.{Tree, is_child, kind_of, parent_of}
use Rattle.ice_defs.specs.Set.{NodeSet, has, children_inside, Weights, weight_of, value, leaf_units, units}
use Rattle.ice_defs.proofs.Sums.{sum_below-front, count_below-same}

-- ---- counts

-- the first number apart
pub count_below-front : (p : ℕ → Bool) (n : ℕ) → count_below p (suc n) ≡ cond (p 0) 1 0 + count_below (λ k. p (suc k)) n
count_below-front p zero = omega arith
count_below-front p (suc n) = omega (arith, count_below-front p n)

-- how many are inside
abbrev pub inside : NodeSet → ℕ
inside [] = 0
inside (b ∷ s) = cond b 1 0 + inside s

pub inside-counted : (s : NodeSet) → count_below (has s) (length s) ≡ inside s
inside-counted [] = refl
inside-counted (b ∷ s) = omega (arith, count_below-front (has (b ∷ s)) (length s), inside-counted s)

-- how many with this parent are inside
abbrev pub inside_under : ℕ → Tree → NodeSet → ℕ
inside_under p [] s = 0
inside_under p (n ∷ t) [] = 0
inside_under p (n ∷ t) (b ∷ s) = cond (eqb n.parent p && b) 1 0 + inside_under p t s

pub inside_under-counted : (p : ℕ) (t : Tree) (s : NodeSet) → length s ≡ length t → count_below (λ c. eqb (parent_of t c) p && has s c) (length t) ≡ inside_under p t s
inside_under-counted p [] s e = refl
inside_under-counted p (n ∷ t) [] e = absurd (omega arith)
inside_under-counted p (n ∷ t) (b ∷ s) e =
    omega (arith, count_below-front (λ c. eqb (parent_of (n ∷ t) c) p && has (b ∷ s) c) (length t), inside_under-counted p t s (omega arith))

-- the children of a node, counted behind the root
pub children-counted : (p : ℕ) (root : Node) (t : Tree) (r : Bool) (s : NodeSet) → length s ≡ length t → children_inside (root ∷ t) (r ∷ s) p ≡ inside_under p t s
children-counted p root t r s e =
    omega (
      arith,
      count_below-front (λ c. is_child (root ∷ t) p c && has (r ∷ s) c) (length t),
      count_below-same (λ c. is_child (root ∷ t) p (suc c) && has s c) (λ c. eqb (parent_of t c) p && has s c) (length t) (λ c h. ap (λ after. (after && eqb (parent_of t c) p) && has s c) (after_root c)),
      inside_under-counted p t s e,
    )
  where
    after_root : (c : ℕ) → ltb 0 (suc c) ≡ true
    after_root c = grind (arith, nat_tests)

pub inside_under-append : (p : ℕ) (t u : Tree) (s z : NodeSet) → length s ≡ length t → inside_under p (t ++ u) (s ++ z) ≡ inside_under p t s + inside_under p u z
inside_under-append p [] u [] z e = omega arith
inside_under-append p [] u (b ∷ s) z e = absurd (omega arith)
inside_under-append p (n ∷ t) u [] z e = absurd (omega arith)
inside_under-append p (n ∷ t) u (b ∷ s) z e = omega (arith, inside_under-append p t u s z (omega arith))

-- none, where no node has this parent
pub inside_under-none : (p : ℕ) (t : Tree) (s : NodeSet) → AllByRecursion (λ n. n.parent ≢ p) t → inside_under p t s ≡ 0
inside_under-none p [] s other = refl
inside_under-none p (n ∷ t) [] other = refl
inside_under-none p (n ∷ t) (b ∷ s) other = omega (arith, ap (λ c. let k : ℕ = cond (c && b) 1 0 in k) (ne_eqb n.parent p other.0), inside_under-none p t s other.1)

-- ---- values

pub value_more : (b : Bool) (s : NodeSet) (z : ℤ) (w : Weights) → value (b ∷ s) (z ∷ w) ≡ cond b z (pos 0) +ℤ value s w
value_more b s z w = sum_below-front (λ n. cond (has (b ∷ s) n) (weight_of (z ∷ w) n) (pos 0)) (length s)

pub value-append : (s u : NodeSet) (w x : Weights) → length s ≡ length w → value (s ++ u) (w ++ x) ≡ value s w +ℤ value u x
value-append [] u [] x e = omega (arith, ints)
value-append [] u (z ∷ w) x e = absurd (omega arith)
value-append (b ∷ s) u [] x e = absurd (omega arith)
value-append (b ∷ s) u (z ∷ w) x e = omega (arith, ints, value_more b (s ++ u) z (w ++ x), value_more b s z w, value-append s u w x (omega arith))

-- ---- units

pub units_more : (n : Node) (t : Tree) (b : Bool) (s : NodeSet) (g : ℕ) → units (n ∷ t) (b ∷ s) g ≡ cond b (leaf_units n.kind g) (pos 0) +ℤ units t s g
units_more n t b s g = sum_below-front (λ i. cond (has (b ∷ s) i) (leaf_units (kind_of (n ∷ t) i) g) (pos 0)) (length t)

pub units-append : (t u : Tree) (s z : NodeSet) (g : ℕ) → length s ≡ length t → units (t ++ u) (s ++ z) g ≡ units t s g +ℤ units u z g
units-append [] u [] z g e = omega (arith, ints)
units-append [] u (b ∷ s) z g e = absurd (omega arith)
units-append (n ∷ t) u [] z g e = absurd (omega arith)
units-append (n ∷ t) u (b ∷ s) z g e = omega (arith, ints, units_more n (t ++ u) b (s ++ z) g, units_more n t b s g, units-append t u s z g (omega arith))
