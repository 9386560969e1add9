-- The test `is_satisfied` decides which sets are satisfied.
use Rattle.std.proofs.Common.{ℕ, ◌<◌, ◌≤◌, ◌≡◌, Bool, true, false, cond, ◌&&◌, not, ltb, length, Option, Some, None, refl, ap, ◌∙◌, ◌⊎◌, inl, inr, subst}
use Rattle.std.specs.Prelude.{is_none}
use Rattle.std.proofs.lemmas.Bool.{cases_lt, both_ways, and_parts, and_from, and_left, and_right, eqb-true, eq-eqb, lt-ltb, le-ltb}
use Rattle.ice_defs.specs.declared.SatRule.{SatRule}
use Rattle.ice_defs.specs.declared.SatRule.TheVariants.{Parent}
use Rattle.ice_defs.specs.Tree.{Tree, kind_of, parent_of}
use Rattle.ice_defs.specs.Set.{NodeSet, has, IsSatisfied, children_inside}
use Rattle.ice_defs.specs.SetFault.{count_fault, fault_at, first_in, is_satisfied}
use Rattle.ice_defs.proofs.Lists.{first_in-none}
use Rattle.ice_defs.proofs.Below.{filter_map-none, filter_map-each}
use Rattle.ice_defs.proofs.Choices.{is_none-true}
use Rattle.ice_tree.proofs.Satisfied.{IsWithin-from_none, none-from_IsWithin}

-- ---- the first of some options

-- ---- the faults of a node

abbrev fault_by : Bool → Bool → Option SatRule → Option SatRule
fault_by inside orphan rule = cond inside (cond orphan (Some Parent) rule) None

fault_by-none : (orphan : Bool) (rule : Option SatRule) → fault_by true orphan rule ≡ None → (orphan ≡ false) × (rule ≡ None)
fault_by-none true rule e = absurd (cc)
fault_by-none false rule e = (refl, e)

fault_by-fine : (inside orphan : Bool) (rule : Option SatRule) → (inside ≡ true → (orphan ≡ false) × (rule ≡ None)) → fault_by inside orphan rule ≡ None
fault_by-fine true orphan rule fine = let both = fine refl in ap (λ b. cond b (Some Parent) rule) both.0 ∙ both.1
fault_by-fine false orphan rule fine = refl

parent_of-orphan : (n : ℕ) (parent_in : Bool) → 0 < n → (ltb 0 n && not parent_in) ≡ false → parent_in ≡ true
parent_of-orphan n true h e = refl
parent_of-orphan n false h e = absurd (both_ways _ e (and_from _ _ (lt-ltb 0 n h) refl))

module _ (t : Tree) (s : NodeSet) where
  fault_at-none : (n : ℕ) → fault_at t s n ≡ None → has s n ≡ true
      → ((ltb 0 n && not (has s (parent_of t n))) ≡ false) × (count_fault (kind_of t n) (children_inside t s n) ≡ None)
  fault_at-none n e inside =
      fault_by-none _ _ (subst (λ b. fault_by b (ltb 0 n && not (has s (parent_of t n))) (count_fault (kind_of t n) (children_inside t s n)) ≡ None) inside e)

  satisfied : length s ≡ length t → ((n : ℕ) → n < length t → fault_at t s n ≡ None) → IsSatisfied t s
  satisfied size none = record {
    same_length = size;
    parent_inside = λ c later l e. parent_of-orphan c _ later (fault_at-none c (none c l) e).0;
    count_inside = λ n l e. IsWithin-from_none _ _ (fault_at-none n (none n l) e).1;
  }

  no_fault : IsSatisfied t s → (n : ℕ) → n < length t → fault_at t s n ≡ None
  no_fault sat n l = fault_by-fine (has s n) _ _ (λ e. (not_orphan (cases_lt 0 n) e, none-from_IsWithin _ _ (sat.count_inside n l e)))
    where
      not_orphan : (0 < n) ⊎ (n ≤ 0) → has s n ≡ true → (ltb 0 n && not (has s (parent_of t n))) ≡ false
      not_orphan (inl later) e = and_right _ _ (ap not (sat.parent_inside n later l e))
      not_orphan (inr root) e = and_left _ _ (le-ltb 0 n root)

  pub is_satisfied-true : is_satisfied t s ≡ true → IsSatisfied t s
  is_satisfied-true e =
      let both = and_parts _ _ e in
      satisfied (eqb-true _ _ both.0) (filter_map-each (fault_at t s) (length t) (first_in-none _ (is_none-true _ both.1)))

  pub is_satisfied-from : IsSatisfied t s → is_satisfied t s ≡ true
  is_satisfied-from sat =
      and_from _ _ (eq-eqb _ _ sat.same_length)
      (ap (λ l. is_none (first_in l)) (filter_map-none (fault_at t s) (length t) (no_fault sat)))
