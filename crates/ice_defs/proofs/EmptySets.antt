-- The empty sets: satisfied, without units and value, and so a feasible assignment.
use Rattle.std.proofs.Common.{ℕ, zero, suc, ◌<◌, ◌≡◌, Bool, true, false, cond, List, [], length, get_or, replicate, ℤ, pos, refl, arith, ap, sym, ◌∙◌, subst}
use Rattle.std.proofs.lemmas.Int.{ints}
use Rattle.std.proofs.lemmas.Bool.{both_ways}
use Rattle.std.proofs.lemmas.List.{length-replicate, length-map, get_or-map}
use Rattle.ice_defs.specs.Tree.{Tree, kind_of}
use Rattle.ice_defs.specs.Set.{NodeSet, has, IsSatisfied, Weights, weight_of, value, leaf_units, units}
use Rattle.ice_defs.specs.Trade.{tree_of, set_of, weights_of, is_exact, IsCovered, total_value, IsFeasible}
use Rattle.ice_defs.specs.Vickrey.{IsEmpty}
use Rattle.ice_defs.specs.Group.{empty_sets}
use Rattle.ice_defs.proofs.Sums.{sum_below-zero}

pub replicate_at : {X : Type 0} (m n : ℕ) (a : X) → get_or (replicate m a) n a ≡ a
replicate_at zero n a = refl
replicate_at (suc m) zero a = refl
replicate_at (suc m) (suc n) a = replicate_at m n a

pub empty_satisfied : (t : Tree) → IsSatisfied t (replicate (length t) false)
empty_satisfied t = record {
  same_length = length-replicate (length t) false;
  parent_inside = λ c h l f. absurd (both_ways _ (replicate_at (length t) c false) f);
  count_inside = λ n l f. absurd (both_ways _ (replicate_at (length t) n false) f);
}

pub units-empty : (t : Tree) (g : ℕ) → units t (replicate (length t) false) g ≡ pos 0
units-empty t g =
    sum_below-zero (λ n. cond (has (replicate (length t) false) n) (leaf_units (kind_of t n) g) (pos 0)) (length t)
    (λ n h. ap (λ b. cond b (leaf_units (kind_of t n) g) (pos 0)) (replicate_at (length t) n false))

-- an empty set has no value
pub value-empty : (s : NodeSet) (w : Weights) → IsEmpty s → value s w ≡ pos 0
value-empty s w empty = sum_below-zero (λ n. cond (has s n) (weight_of w n) (pos 0)) (length s) (λ n h. ap (λ b. cond b (weight_of w n) (pos 0)) (empty n h))

-- ---- one empty set per tree

pub set_of-empty : (ts : List Tree) (b : ℕ) → b < length ts → set_of (empty_sets ts) b ≡ replicate (length (tree_of ts b)) false
set_of-empty ts b h = get_or-map (λ (t : Tree). replicate (length t) false) ts b [] [] h

pub length-empty_sets : (ts : List Tree) → length (empty_sets ts) ≡ length ts
length-empty_sets ts = length-map ts (λ (t : Tree). replicate (length t) false)

pub empty_sets-are : (ts : List Tree) (b : ℕ) → b < length ts → IsEmpty (set_of (empty_sets ts) b)
empty_sets-are ts b h = subst IsEmpty (sym (set_of-empty ts b h)) (λ n l. replicate_at (length (tree_of ts b)) n false)

pub empty_feasible : (ts : List Tree) (exact : List Bool) → IsFeasible ts exact (empty_sets ts)
empty_feasible ts exact = record {
  same_length = length-empty_sets ts;
  satisfied = λ b h. subst (IsSatisfied (tree_of ts b)) (sym (set_of-empty ts b h)) (empty_satisfied (tree_of ts b));
  balanced = λ g h. by (is_exact exact g) (sum_below-zero (λ b. units (tree_of ts b) (set_of (empty_sets ts) b) g) (length ts)
      (λ b l. ap (λ s. units (tree_of ts b) s g) (set_of-empty ts b l) ∙ units-empty (tree_of ts b) g));
}
  where
    by : (e : Bool) {z : ℤ} → z ≡ pos 0 → IsCovered e z (pos 0)
    by true e = e
    by false e = omega (arith, ints, e)

pub total_value-empty : (ts : List Tree) (ws : List Weights) → total_value (empty_sets ts) ws ≡ pos 0
total_value-empty ts ws =
    sum_below-zero (λ b. value (set_of (empty_sets ts) b) (weights_of ws b)) (length (empty_sets ts))
    (λ b h. value-empty (set_of (empty_sets ts) b) (weights_of ws b) (empty_sets-are ts b (subst (λ n. b < n) (length-empty_sets ts) h)))
