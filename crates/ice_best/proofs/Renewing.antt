-- A table that is filled anew from a node up to the root.
use Rattle.std.proofs.Common.{ℕ, ◌<◌, ◌≤◌, ◌≡◌, ◌≢◌, true, length, arith, ap, sym, subst, ◌∙◌, ◌⊎◌, inl, inr}
use Rattle.std.proofs.lemmas.Bool.{cases_eq, cases_lt}
use Rattle.ice_defs.specs.Tree.{Tree, IsTree, parent_of, is_child}
use Rattle.ice_defs.specs.Set.{Weights, has, weight_of}
use Rattle.ice_defs.specs.Fixing.{Fixing}
use Rattle.ice_best.specs.declared.table.Table.{Table}
use Rattle.ice_best.specs.Entries.{HasEntry, AreEntries, AreOtherEntries, ChangesEntry, IsSeenAlike, IsTableOf, DifferOnlyAt, DifferOnlyAtMark}
use Rattle.ice_best.proofs.Children.{filter_at}
use Rattle.ice_best.proofs.Frame.{IsEntry-same, IsEntry-weight, IsEntry-mark}
use Rattle.ice_best.proofs.Bounding.{child_after}

-- where the weight of one node changed, the other entries are right
pub others_at_first : (t : Tree) (v w : Weights) (x : Fixing) (table : Table) (node : ℕ) → IsTableOf t v x table → DifferOnlyAt node v w → AreOtherEntries t w x table node
others_at_first t v w x table node is differ n ne l =
    IsEntry-weight t v w x (weight_of table.gain) (has table.needed) (has table.possible) (has table.taken) n (differ.same n ne) (is.entries n (omega arith) l)

-- and so where its mark changed
pub others_at_mark : (t : Tree) (w : Weights) (x y : Fixing) (table : Table) (node : ℕ) → IsTableOf t w x table → DifferOnlyAtMark node x y → AreOtherEntries t w y table node
others_at_mark t w x y table node is differ n ne l =
    IsEntry-mark t w x y (weight_of table.gain) (has table.needed) (has table.possible) (has table.taken) n (differ n ne) (is.entries n (omega arith) l)

module _ (t : Tree) (w : Weights) (x : Fixing) (old new : Table) (n : ℕ) (tree : IsTree t) (changes : ChangesEntry t n old new) where
  -- what its parent sees of c is the same
  Same : ℕ → Type 0
  Same c = (weight_of new.gain c ≡ weight_of old.gain c) × (has new.needed c ≡ has old.needed c) × (has new.possible c ≡ has old.possible c)

  same_other : (c : ℕ) → c ≢ n → Same c
  unfolding Same
  same_other c apart = (changes.gain_same c apart, changes.needed_same c apart, changes.possible_same c apart)

  -- an earlier node keeps its entry where it sees the same of its children
  kept_entry : (k : ℕ) → k < n → ((c : ℕ) → c < length t → is_child t k c ≡ true → Same c) → HasEntry t w x old k → HasEntry t w x new k
  unfolding Same
  kept_entry k m each =
      let other : k ≢ n = omega (arith, m) in
      IsEntry-same t w x (weight_of old.gain) (weight_of new.gain) (has old.needed) (has new.needed) (has old.possible) (has new.possible) (has old.taken) (has new.taken) k
      (λ c h child.
      let after = child_after t k c tree h child in
      let same = each c h child in (
        same.0,
        same.1,
        same.2,
        changes.taken_same c (λ j h' e.
            let at = filter_at (is_child t n) (length t) j h' in
            let mine = child_after t n _ tree at.1 at.0 in
            let both : parent_of t c ≡ n = ap (parent_of t) (sym e) ∙ mine.1 in
            omega (arith, both, after.1, m)),
      ))
      (changes.gain_same k other) (changes.needed_same k other) (changes.possible_same k other)

  module _ (others : AreOtherEntries t w x old n) (entries : AreEntries t w x new n) where
    -- where the entry of n is filled anew, that of its parent alone may be wrong
    pub others_above : AreOtherEntries t w x new (parent_of t n)
    others_above k ne l = by (cases_lt k n)
      where
        by : (k < n) ⊎ (n ≤ k) → HasEntry t w x new k
        by (inr m) = entries k m l
        by (inl m) =
            kept_entry k m
            (λ c h child. let after = child_after t k c tree h child in same_other c (λ e. ne (sym after.1 ∙ ap (parent_of t) e)))
            (others k (omega (arith, m)) l)

    -- and none is, where its parent sees the same
    pub all_right : IsSeenAlike n old new → AreEntries t w x new 0
    unfolding Same
    all_right alike k _ l = by (cases_lt k n)
      where
        same : (c : ℕ) → Same c
        same c = here (cases_eq c n)
          where
            here : (c ≡ n) ⊎ (c ≡ n → ⊥) → Same c
            here (inl e) = subst (λ c. Same c) (sym e) (alike.gain_same, alike.needed_same, alike.possible_same)
            here (inr ne) = same_other c ne

        by : (k < n) ⊎ (n ≤ k) → HasEntry t w x new k
        by (inr m) = entries k m l
        by (inl m) = kept_entry k m (λ c h child. same c) (others k (omega (arith, m)) l)
