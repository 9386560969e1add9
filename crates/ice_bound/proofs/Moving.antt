-- What a set costs where one good has another multiplier.
use Rattle.std.proofs.Common.{ℕ, ◌<◌, ◌≡◌, length, get_or, set, ℤ, pos, ◌+ℤ◌, ◌-ℤ◌, ◌*ℤ◌, cond, eqb, arith, ap, sym, ◌∙◌, ◌⊎◌, inl, inr, get_or-set_same, get_or-set_other}
use Rattle.std.proofs.lemmas.Int.{ints}
use Rattle.std.proofs.lemmas.Bool.{cases_eq}
use Rattle.std.proofs.lemmas.List.{length-set}
use Rattle.std.proofs.Math.IntN.{*ℤ_comm}
use Rattle.ice_defs.specs.Sum.{sum_below}
use Rattle.ice_defs.proofs.Sums.{sum_below-same, sum_below-add, sum_below-single, at_same, at_other}
use Rattle.ice_defs.proofs.Products.{times_add}
use Rattle.ice_defs.specs.Tree.{Tree}
use Rattle.ice_defs.specs.Set.{NodeSet, units}
use Rattle.ice_defs.specs.Bound.{Multipliers, cost}

-- a product of a sum, by its first factor
pub times_add_first : (a b u : ℤ) → (a +ℤ b) *ℤ u ≡ (a *ℤ u) +ℤ (b *ℤ u)
times_add_first a b u = *ℤ_comm (a +ℤ b) u ∙ times_add u a b ∙ ap (λ z. z +ℤ (u *ℤ b)) (*ℤ_comm u a) ∙ ap (λ z. (a *ℤ u) +ℤ z) (*ℤ_comm u b)

module _ (m : Multipliers) (g : ℕ) (there : g < length m) where
  -- with another multiplier of the good, a set costs so much more for each of its units
  pub cost-moved : (t : Tree) (s : NodeSet) (z y : ℤ) → cost t s (set m g y) ≡ cost t s (set m g z) +ℤ ((y -ℤ z) *ℤ units t s g)
  cost-moved t s z y =
      let at = λ (x : ℤ) (h : ℕ). get_or (set m g x) h (pos 0) *ℤ units t s h in
      let more = (y -ℤ z) *ℤ units t s g in
      let here = λ (h : ℕ). cond (eqb g h) more (pos 0) in
      let each = sum_below-same (at y) (λ h. at z h +ℤ here h) (length m) (λ h l. by h (cases_eq h g)) in
      let added = sum_below-add (at z) here (length m) in
      let one = sum_below-single g (length m) more there in
      let size_y : sum_below (at y) (length (set m g y)) ≡ sum_below (at y) (length m) = ap (sum_below (at y)) (length-set m g y) in
      let size_z : sum_below (at z) (length (set m g z)) ≡ sum_below (at z) (length m) = ap (sum_below (at z)) (length-set m g z) in
      omega (arith, ints, each, added, one, size_y, size_z)
    where
      by : (h : ℕ) → (h ≡ g) ⊎ (h ≡ g → ⊥)
          → get_or (set m g y) h (pos 0) *ℤ units t s h ≡ (get_or (set m g z) h (pos 0) *ℤ units t s h) +ℤ cond (eqb g h) ((y -ℤ z) *ℤ units t s g) (pos 0)
      by h (inl e) =
          let u = units t s h in
          let to_y : get_or (set m g y) h (pos 0) ≡ y = ap (λ k. get_or (set m g y) k (pos 0)) e ∙ get_or-set_same m g y (pos 0) there in
          let to_z : get_or (set m g z) h (pos 0) ≡ z = ap (λ k. get_or (set m g z) k (pos 0)) e ∙ get_or-set_same m g z (pos 0) there in
          let same_units : (y -ℤ z) *ℤ units t s g ≡ (y -ℤ z) *ℤ u = ap (λ k. (y -ℤ z) *ℤ units t s k) (sym e) in
          let whole : z +ℤ (y -ℤ z) ≡ y = omega (arith, ints) in
          let split : y *ℤ u ≡ (z *ℤ u) +ℤ ((y -ℤ z) *ℤ u) = ap (λ k. k *ℤ u) (sym whole) ∙ times_add_first z (y -ℤ z) u in
          let left : get_or (set m g y) h (pos 0) *ℤ u ≡ y *ℤ u = ap (λ k. k *ℤ u) to_y in
          let right : get_or (set m g z) h (pos 0) *ℤ u ≡ z *ℤ u = ap (λ k. k *ℤ u) to_z in
          let term = at_same g h ((y -ℤ z) *ℤ units t s g) (sym e) in
          omega (arith, ints, left, right, split, term, same_units)
      by h (inr ne) =
          let u = units t s h in
          let same : get_or (set m g y) h (pos 0) ≡ get_or (set m g z) h (pos 0) = get_or-set_other m g h y (pos 0) ne ∙ sym (get_or-set_other m g h z (pos 0) ne) in
          let times : get_or (set m g y) h (pos 0) *ℤ u ≡ get_or (set m g z) h (pos 0) *ℤ u = ap (λ k. k *ℤ u) same in
          let term = at_other g h ((y -ℤ z) *ℤ units t s g) (λ e. ne (sym e)) in
          omega (arith, ints, times, term)
