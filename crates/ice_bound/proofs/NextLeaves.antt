-- From one leaf of a good to the next.
use Rattle.std.proofs.Common.{ℕ, zero, suc, ◌+◌, ◌<◌, ◌≤◌, ◌≡◌, ◌≢◌, Bool, true, false, cond, length, replicate, get_or, set, get_or-set_same, get_or-set_other, length-set, ℤ, pos, neg_ℤ, refl, arith, ap, sym, ◌∙◌, subst, ◌⊎◌, inl, inr}
use Rattle.std.proofs.lemmas.Int.{ints}
use Rattle.std.proofs.lemmas.List.{length-replicate, get_or-replicate}
use Rattle.std.proofs.lemmas.Bool.{cases_lt, cases_eq, eqb-false}
use Rattle.ice_defs.specs.Sum.{sum_below}
use Rattle.ice_defs.specs.declared.NodeKind.{NodeKind}
use Rattle.ice_defs.specs.declared.NodeKind.TheVariants.{Choose, Buy, Sell}
use Rattle.ice_defs.specs.Tree.{Tree, kind_of}
use Rattle.ice_defs.specs.Set.{NodeSet, has, leaf_units}
use Rattle.ice_defs.proofs.Choices.{cond-same}
use Rattle.ice_bound.specs.declared.direction.Direction.{Direction}
use Rattle.ice_bound.specs.declared.leaves.Leaves.{Leaves}
use Rattle.ice_bound.specs.Kept.{NodeStands}
use Rattle.ice_bound.specs.Leaves.{is_leaf_of, IsWithout, IsNextLeaf}

-- ---- what stands up to the next leaf

leaf_units-other : (kind : NodeKind) (g : ℕ) → is_leaf_of kind g ≡ false → leaf_units kind g ≡ pos 0
leaf_units-other (Choose least most) g other = refl
leaf_units-other (Buy good units) g other = ap (λ b. cond b (pos units) (pos 0)) other
leaf_units-other (Sell good units) g other = ap (λ b. cond b (neg_ℤ (pos units)) (pos 0)) other

node_without : (kind : NodeKind) (g : ℕ) (inside : Bool) (direction : Direction) → is_leaf_of kind g ≡ false → NodeStands kind g inside direction
node_without (Choose least most) g inside direction other = tt
node_without (Buy good units) g inside direction other = λ e. absurd (eqb-false good g other e)
node_without (Sell good units) g inside direction other = λ e. absurd (eqb-false good g other e)

-- and have no units
abbrev units_at : Tree → NodeSet → ℕ → ℕ → ℤ
units_at t s g n = cond (has s n) (leaf_units (kind_of t n) g) (pos 0)

none_more : (t : Tree) (s : NodeSet) (g a b : ℕ) → a ≤ suc b → (a ≤ b → sum_below (units_at t s g) b ≡ sum_below (units_at t s g) a) → (a ≤ b → is_leaf_of (kind_of t b) g ≡ false)
    → sum_below (units_at t s g) (suc b) ≡ sum_below (units_at t s g) a
none_more t s g a b le before other = by (cases_lt b a)
  where
    by : (b < a) ⊎ (a ≤ b) → sum_below (units_at t s g) (suc b) ≡ sum_below (units_at t s g) a
    by (inl l) = let e : suc b ≡ a = omega (arith, l, le) in ap (sum_below (units_at t s g)) e
    by (inr l) =
        let here : units_at t s g b ≡ pos 0 = ap (λ u. cond (has s b) u (pos 0)) (leaf_units-other (kind_of t b) g (other l)) ∙ cond-same (has s b) (pos 0) in
        omega (arith, ints, before l, here)

pub others_no_units : (t : Tree) (s : NodeSet) (g a b : ℕ) → a ≤ b → IsWithout t g a b → sum_below (units_at t s g) b ≡ sum_below (units_at t s g) a
others_no_units t s g a zero le without = let e : zero ≡ a = omega (arith, le) in ap (sum_below (units_at t s g)) e
others_no_units t s g a (suc b) le without =
    none_more t s g a b le (λ l. others_no_units t s g a b l (λ k h m. without k h (omega (arith, m)))) (λ l. without b l (omega arith))

-- ---- the leaves of a tree, from its end

-- the leaves from node n on
pub record AreLeavesFrom (t : Tree) (leaves : Leaves) (n : ℕ) : Type 0 where
  pub first_there : length leaves.first ≡ 32
  pub next_there : length leaves.next ≡ 200
  pub first : (g : ℕ) → g < 32 → IsNextLeaf t g n (get_or leaves.first g 0)
  pub next : (k g : ℕ) → n ≤ k → k < length t → is_leaf_of (kind_of t k) g ≡ true → IsNextLeaf t g (k + 1) (get_or leaves.next k 0)

-- with a node in front that is no leaf of the good
nearer : (t : Tree) (g n b : ℕ) → is_leaf_of (kind_of t n) g ≡ false → IsNextLeaf t g (n + 1) b → IsNextLeaf t g n b
nearer t g n b other is = record {
  behind = omega (arith, is.behind);
  inside = is.inside;
  none_between = λ k h l. by k (cases_eq k n) h l;
  is_leaf = is.is_leaf;
}
  where
    by : (k : ℕ) → (k ≡ n) ⊎ (k ≡ n → ⊥) → n ≤ k → k < b → is_leaf_of (kind_of t k) g ≡ false
    by k (inl e) h l = ap (λ j. is_leaf_of (kind_of t j) g) e ∙ other
    by k (inr ne) h l = is.none_between k (omega (arith, h, ne)) l

-- a leaf is of one good
one_good : (kind : NodeKind) (g h : ℕ) → is_leaf_of kind g ≡ true → h ≢ g → is_leaf_of kind h ≡ false
one_good (Choose least most) g h leaf ne = refl
one_good (Buy good units) g h leaf ne = grind arith
one_good (Sell good units) g h leaf ne = grind arith

-- a leaf in front
pub one_leaf_more : (t : Tree) (leaves leaves2 : Leaves) (n good : ℕ) → n < length t → n < 200 → good < 32 → is_leaf_of (kind_of t n) good ≡ true
    → leaves2.first ≡ set leaves.first good n → leaves2.next ≡ set leaves.next n (get_or leaves.first good 0) → AreLeavesFrom t leaves (n + 1) → AreLeavesFrom t leaves2 n
one_leaf_more t leaves leaves2 n good there fits small leaf first next is = record {
  first_there = ap length first ∙ length-set leaves.first good n ∙ is.first_there;
  next_there = ap length next ∙ length-set leaves.next n (get_or leaves.first good 0) ∙ is.next_there;
  first = λ g h. by_first g (cases_eq g good) h;
  next = λ k g h l at. by_next k g (cases_eq k n) h l at;
}
  where
    here : IsNextLeaf t good n n
    here = record { behind = omega arith; inside = omega (arith, there); none_between = λ k h l. absurd (omega (arith, h, l)); is_leaf = λ _. leaf }

    by_first : (g : ℕ) → (g ≡ good) ⊎ (g ≡ good → ⊥) → g < 32 → IsNextLeaf t g n (get_or leaves2.first g 0)
    by_first g (inl e) h =
        let value : get_or leaves2.first g 0 ≡ n = ap (λ l. get_or l g 0) first ∙ ap (λ j. get_or (set leaves.first good n) j 0) e ∙ get_or-set_same leaves.first good n 0 (omega (arith, small, is.first_there)) in
        subst (λ b. IsNextLeaf t g n b) (sym value) (subst (λ j. IsNextLeaf t j n n) (sym e) here)
    by_first g (inr ne) h =
        let value : get_or leaves2.first g 0 ≡ get_or leaves.first g 0 = ap (λ l. get_or l g 0) first ∙ get_or-set_other leaves.first good g n 0 ne in
        subst (λ b. IsNextLeaf t g n b) (sym value) (nearer t g n _ (one_good (kind_of t n) good g leaf ne) (is.first g h))

    -- the leaf is of the good alone
    same_good : (g : ℕ) → (g ≡ good) ⊎ (g ≡ good → ⊥) → is_leaf_of (kind_of t n) g ≡ true → g ≡ good
    same_good g (inl e) at = e
    same_good g (inr ne) at = let off : is_leaf_of (kind_of t n) g ≡ false = one_good (kind_of t n) good g leaf ne in absurd cc

    by_next : (k g : ℕ) → (k ≡ n) ⊎ (k ≡ n → ⊥) → n ≤ k → k < length t → is_leaf_of (kind_of t k) g ≡ true → IsNextLeaf t g (k + 1) (get_or leaves2.next k 0)
    by_next k g (inl e) h l at =
        let same : g ≡ good = same_good g (cases_eq g good) (ap (λ j. is_leaf_of (kind_of t j) g) (sym e) ∙ at) in
        let value : get_or leaves2.next k 0 ≡ get_or leaves.first g 0 =
        ap (λ j. get_or leaves2.next j 0) e ∙ ap (λ l. get_or l n 0) next ∙ get_or-set_same leaves.next n (get_or leaves.first good 0) 0 (omega (arith, fits, is.next_there)) ∙ ap (λ j. get_or leaves.first j 0) (sym same) in
        let was : IsNextLeaf t g (n + 1) (get_or leaves.first g 0) = is.first g (omega (arith, small, same)) in
        subst (λ b. IsNextLeaf t g (k + 1) b) (sym value) (subst (λ j. IsNextLeaf t g (j + 1) (get_or leaves.first g 0)) (sym e) was)
    by_next k g (inr ne) h l at =
        let value : get_or leaves2.next k 0 ≡ get_or leaves.next k 0 = ap (λ l. get_or l k 0) next ∙ get_or-set_other leaves.next n k (get_or leaves.first good 0) 0 ne in
        subst (λ b. IsNextLeaf t g (k + 1) b) (sym value) (is.next k g (omega (arith, h, ne)) l at)

-- behind the last node there is none
pub no_leaves : (t : Tree) (n : ℕ) → n ≡ length t → AreLeavesFrom t (record { first = replicate 32 n; next = replicate 200 0 }) n
no_leaves t n end = record {
  first_there = length-replicate {A = ℕ} 32 n;
  next_there = length-replicate {A = ℕ} 200 0;
  first = λ g h. record {
    behind = omega (arith, get_or-replicate 32 g n 0 h);
    inside = omega (arith, get_or-replicate 32 g n 0 h, end);
    none_between = λ k a b. absurd (omega (arith, get_or-replicate 32 g n 0 h, a, b));
    is_leaf = λ l. absurd (omega (arith, get_or-replicate 32 g n 0 h, end, l));
  };
  next = λ k g h l leaf. absurd (omega (arith, h, l, end));
}
