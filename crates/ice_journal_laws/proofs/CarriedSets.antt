-- The sets of a group, written one after another.
use Rattle.std.proofs.Common.{◌≡◌, ◌+◌, ℕ, suc, [], ◌∷◌, ◌++◌, length, map, ℤ, refl, sym, ◌∙◌, ap, subst, arith, length-append, append_assoc}
use Rattle.std.specs.Prelude.{IsTrue}
use Rattle.std.proofs.Math.Seq.{get_or-append_seam}
use Rattle.ice_defs.specs.Set.{NodeSet, IsSatisfied}
use Rattle.ice_defs.specs.Trade.{Assignment, tree_of, set_of, IsFeasible, total_value}
use Rattle.ice_defs.specs.Vickrey.{IsEmpty}
use Rattle.ice_defs.specs.declared.Group.{Group}
use Rattle.ice_defs.specs.declared.Group.TheVariants.{Assign, Final, Rival, Provisional, Without}
use Rattle.ice_tree.proofs.Satisfied.{set_fault-none}
use Rattle.ice_journal.specs.Records as line
use Rattle.ice_journal_laws.specs.State.{Place, Stated, at_sets, State, exchange_at, trees_at, exact_at, weights_at}
use Rattle.ice_journal_laws.specs.Assigning.{IsBalanced}
use Rattle.ice_journal_laws.specs.Next.{to_line, go_to, after_sets}
use Rattle.ice_journal_laws.specs.Tests.{HasLeftOut, is_valued}
use Rattle.ice_journal_laws.specs.Progress.{passing, TakesOn}
use Rattle.ice_journal_laws.specs.Carrying.{Carries}
use Rattle.ice_journal_laws.specs.Showing.{LeavesOut}
use Rattle.ice_journal_laws.proofs.Sets.{IsFit, set_on, sets_complete}
use Rattle.ice_journal_laws.proofs.Carried.{carries_then, carries_one}

-- what comes after the sets doesn't look at the place before
after_sets_same : (k n : ℕ) (p : Place) (s : State) (g : Group) (found : Stated) → to_line k (after_sets (go_to p (to_line n s)) g found) ≡ to_line k (after_sets s g found)
after_sets_same k n p s Assign found = refl
after_sets_same k n p s Final found = refl
after_sets_same k n p s Rival found = refl
after_sets_same k n p s Provisional found = refl
after_sets_same k n p s (Without b) found = refl

set_there : (all front rest : Assignment) (x : NodeSet) → front ++ x ∷ rest ≡ all → set_of all (length front) ≡ x
set_there all front rest x e = ap (λ (sets : Assignment). set_of sets (length front)) (sym e) ∙ get_or-append_seam front x rest []

-- a set that is left out is empty
kept_empty : (g : Group) (value : ℤ) (all front rest : Assignment) (x : NodeSet) → LeavesOut g all → front ++ x ∷ rest ≡ all → ¬ HasLeftOut (at_sets g (record { value = value; sets = front })) (line.set x)
kept_empty Assign value all front rest x left e h = h
kept_empty Final value all front rest x left e h = h
kept_empty Rival value all front rest x left e h = h
kept_empty Provisional value all front rest x left e h = h
kept_empty (Without b) value all front rest x left e (here, full) = full (subst IsEmpty (set_there all front rest x e) (subst (λ (k : ℕ). IsEmpty (set_of all k)) (sym here) left))

module _ (s : State) (g : Group) (value : ℤ) (all : Assignment) (feasible : IsFeasible (trees_at s) (exact_at s) all) (valued : IsTrue (is_valued g) → total_value all (weights_at s g) ≡ value) (left : LeavesOut g all) where
  pub count_there : (front rest : Assignment) (x : NodeSet) → front ++ x ∷ rest ≡ all → length front + suc (length rest) ≡ length (trees_at s)
  count_there front rest x e = sym (length-append front (x ∷ rest)) ∙ ap length e ∙ feasible.same_length

  sat : (front rest : Assignment) (x : NodeSet) → front ++ x ∷ rest ≡ all → IsSatisfied (tree_of (trees_at s) (length front)) x
  sat front rest x e = subst (IsSatisfied (tree_of (trees_at s) (length front))) (set_there all front rest x e) (feasible.satisfied (length front) (omega (arith, count_there front rest x e)))

  pub fit : (n : ℕ) (front rest : Assignment) (x : NodeSet) → front ++ x ∷ rest ≡ all → IsFit (to_line n s) g (record { value = value; sets = front }) x
  fit n front rest x e = record {
    counted = record {
      count = (sat front rest x e).same_length;
      bidder = omega (arith, count_there front rest x e);
    };
    faultless = set_fault-none (tree_of (trees_at s) (length front)) x (sat front rest x e);
    taken = kept_empty g value all front rest x left e;
  }

  -- from where these are stated to where all are
  pub sets_carry : (front rest : Assignment) (x : NodeSet) → front ++ x ∷ rest ≡ all
      → Carries (go_to (at_sets g (record { value = value; sets = front })) s) (map line.set (x ∷ rest)) (after_sets s g (record { value = value; sets = all }))
  sets_carry front [] x e =
      carries_one (go_to (at_sets g (record { value = value; sets = front })) s) (after_sets s g (record { value = value; sets = all })) (line.set x)
      (λ n. subst (λ (t : State). TakesOn (go_to (at_sets g (record { value = value; sets = front })) (to_line n s)) (line.set x) (passing t))
      (ap (λ (sets : Assignment). to_line (suc n) (after_sets (go_to (at_sets g (record { value = value; sets = front })) (to_line n s)) g (record { value = value; sets = sets }))) e
      ∙ after_sets_same (suc n) n (at_sets g (record { value = value; sets = front })) s g (record { value = value; sets = all }))
      (sets_complete (to_line n s) g (record { value = value; sets = front }) x (fit n front [] x e) (omega (arith, count_there front [] x e))
      (λ k l. subst (λ (sets : Assignment). IsBalanced (exchange_at s) sets k) (sym e) (feasible.balanced k l))
      (λ v. ap (λ (sets : Assignment). total_value sets (weights_at s g)) e ∙ valued v)))
  sets_carry front (y ∷ rest) x e =
      carries_then (go_to (at_sets g (record { value = value; sets = front })) s) (go_to (at_sets g (record { value = value; sets = front ++ x ∷ [] })) s) (after_sets s g (record { value = value; sets = all })) (line.set x) (map line.set (y ∷ rest))
      (λ n. set_on (to_line n s) g (record { value = value; sets = front }) x (fit n front (y ∷ rest) x e) (λ last. omega (arith, last, count_there front (y ∷ rest) x e)))
      (sets_carry (front ++ x ∷ []) rest y (append_assoc front (x ∷ []) (y ∷ rest) ∙ e))
