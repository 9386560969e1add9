-- The marks that searches begin with: all nodes free, but
-- for the root of a bidder that is left out.
use Rattle.std.proofs.Common.{ℕ, zero, suc, ◌≡◌, ◌<◌, Bool, true, false, List, [], ◌∷◌, length, replicate, refl, sym, ◌∙◌, ap, subst, arith, ◌⊎◌, inl, inr}
use Rattle.std.specs.Prelude.{slice_set}
use Rattle.std.proofs.lemmas.Bool.{cases_eq, true≢false}
use Rattle.std.proofs.lemmas.List.{get_or-map, get_or-set_same, get_or-set_other}
use Rattle.ice_defs.specs.declared.Mark.{Mark}
use Rattle.ice_defs.specs.declared.Mark.TheVariants.{Free, Must, Never}
use Rattle.ice_defs.specs.Tree.{Tree, IsTree, parent_of}
use Rattle.ice_defs.specs.Set.{NodeSet, has, IsSatisfied}
use Rattle.ice_defs.specs.Fixing.{Fixing, mark_of, Agrees}
use Rattle.ice_defs.specs.Trade.{Assignment, tree_of, set_of, fixing_of, MeetsAll}
use Rattle.ice_defs.specs.Steps.{with_mark}
use Rattle.ice_defs.specs.Vickrey.{IsEmpty}
use Rattle.ice_defs.specs.declared.Group.TheVariants.{Without}
use Rattle.ice_defs.specs.Group.{free_side, start_of}
use Rattle.ice_defs.proofs.NodeSets.{free_at}

pub free_marks : (ts : List Tree) (b n : ℕ) → mark_of (fixing_of (free_side ts) b) n ≡ Free
free_marks [] b n = refl
free_marks (t ∷ ts) zero n = free_at (length t) n
free_marks (t ∷ ts) (suc b) n = free_marks ts b n

pub length-free_side : (ts : List Tree) → length (free_side ts) ≡ length ts
length-free_side [] = refl
length-free_side (t ∷ ts) = ap suc (length-free_side ts)

-- where all nodes are free, every assignment meets the marks
pub meets_free_side : (ts : List Tree) (a : Assignment) → MeetsAll a (free_side ts)
meets_free_side ts a b l n k = subst (λ (x : Mark). Agrees x (has (set_of a b) n)) (sym (free_marks ts b n)) tt

-- ---- a bidder that is left out

-- a mark that asks for no node
abbrev AsksNone : Mark → Type 0
AsksNone Free = Unit {0}
AsksNone Must = ⊥
AsksNone Never = Unit {0}

agrees_none : (k : Mark) (b : Bool) → AsksNone k → b ≡ false → Agrees k b
agrees_none Free b h e = tt
agrees_none Must b h e = absurd h
agrees_none Never b h e = e

marks_at : (x : Fixing) → ((n : ℕ) → mark_of x n ≡ Free) → (n : ℕ) → AsksNone (mark_of (slice_set x 0 Never) n)
marks_at [] free n = tt
marks_at (m ∷ x) free zero = tt
marks_at (m ∷ x) free (suc n) = subst AsksNone (sym (free (suc n))) tt

-- the fixing of a bidder that is left out
pub fixing-without : (ts : List Tree) (b : ℕ) → b < length ts → fixing_of (start_of ts (Without b)) b ≡ slice_set (replicate (length (tree_of ts b)) Free) 0 Never
fixing-without ts b there =
    get_or-set_same (free_side ts) b (slice_set (fixing_of (free_side ts) b) 0 Never) [] (omega (arith, there, length-free_side ts))
    ∙ ap (λ (x : Fixing). slice_set x 0 Never) (get_or-map (λ (t : Tree). replicate (length t) Free) ts b [] [] there)

-- where the bidder's set is empty, an assignment meets the start without it
pub meets_without : (ts : List Tree) (b : ℕ) (a : Assignment) → b < length ts → IsEmpty (set_of a b) → MeetsAll a (start_of ts (Without b))
meets_without ts b a there empty c l n k = by (cases_eq c b)
  where
    out : Fixing
    out = slice_set (fixing_of (free_side ts) b) 0 Never

    is_out : fixing_of (with_mark (free_side ts) b 0 Never) b ≡ out
    is_out = get_or-set_same (free_side ts) b out [] (omega (arith, there, length-free_side ts))

    by : (c ≡ b) ⊎ (c ≡ b → ⊥) → Agrees (mark_of (fixing_of (with_mark (free_side ts) b 0 Never) c) n) (has (set_of a c) n)
    by (inl e) =
        subst (λ (d : ℕ). Agrees (mark_of (fixing_of (with_mark (free_side ts) b 0 Never) d) n) (has (set_of a d) n)) (sym e)
        (agrees_none _ _ (subst (λ (x : Fixing). AsksNone (mark_of x n)) (sym is_out) (marks_at (fixing_of (free_side ts) b) (free_marks ts b) n)) (empty n (subst (λ (d : ℕ). n < length (set_of a d)) e k)))
    by (inr ne) =
        subst (λ (x : Fixing). Agrees (mark_of x n) (has (set_of a c) n)) (sym (get_or-set_other (free_side ts) b c out [] ne))
        (subst (λ (x : Mark). Agrees x (has (set_of a c) n)) (sym (free_marks ts c n)) tt)

-- a satisfied set whose root is outside has no node
below_root : (t : Tree) (s : NodeSet) → IsTree t → IsSatisfied t s → has s 0 ≡ false → (k n : ℕ) → n < k → n < length t → has s n ≡ false
below_root t s tree is out zero n few l = absurd (omega (arith, few))
below_root t s tree is out (suc k) zero few l = out
below_root t s tree is out (suc k) (suc n) few l =
    let first = tree.parent_first (suc n) (omega arith) l in
    by (below_root t s tree is out k (parent_of t (suc n)) (omega (arith, first, few)) (omega (arith, first, l))) (has s (suc n)) refl
  where
    by : has s (parent_of t (suc n)) ≡ false → (inside : Bool) → has s (suc n) ≡ inside → has s (suc n) ≡ false
    by above false e = e
    by above true e = absurd (true≢false (sym (is.parent_inside (suc n) (omega arith) l e) ∙ above))

pub empty_below_root : (t : Tree) (s : NodeSet) → IsTree t → IsSatisfied t s → has s 0 ≡ false → IsEmpty s
empty_below_root t s tree is out n l = below_root t s tree is out (suc n) n (omega arith) (omega (arith, l, is.same_length))

first_mark : (m : ℕ) → 0 < m → mark_of (slice_set (replicate m Free) 0 Never) 0 ≡ Never
first_mark zero some = absurd (omega (arith, some))
first_mark (suc m) some = refl

-- an assignment that meets the start without a bidder leaves it out
pub left_out : (ts : List Tree) (b : ℕ) (a : Assignment) → b < length ts → b < length a → IsTree (tree_of ts b) → IsSatisfied (tree_of ts b) (set_of a b)
    → MeetsAll a (start_of ts (Without b)) → IsEmpty (set_of a b)
left_out ts b a there inside tree is meets =
    let out : mark_of (fixing_of (start_of ts (Without b)) b) 0 ≡ Never =
    ap (λ (x : Fixing). mark_of x 0) (fixing-without ts b there) ∙ first_mark (length (tree_of ts b)) tree.rooted in
    empty_below_root (tree_of ts b) (set_of a b) tree is
    (subst (λ (x : Mark). Agrees x (has (set_of a b) 0)) out (meets b inside 0 (omega (arith, tree.rooted, is.same_length))))
