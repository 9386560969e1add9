-- A set of the greatest net has it still where a good that it has no leaf of costs more or less,
-- and no other set gains.
use Rattle.std.proofs.Common.{ℕ, ◌<◌, ◌≡◌, Bool, true, false, cond, length, set, get_or-set_same, get_or-set_other, Option, Some, None, ℤ, pos, neg_ℤ, ◌*ℤ◌, ◌≤ℤ◌, refl, arith, ap, sym, ◌∙◌, subst, ◌⊎◌, inl, inr}
use Rattle.std.proofs.lemmas.Bool.{cases_eq}
use Rattle.std.proofs.lemmas.Int.{ints}
use Rattle.std.proofs.Math.IntN.{*ℤ_comm}
use Rattle.ice_defs.specs.declared.NodeKind.{NodeKind}
use Rattle.ice_defs.specs.declared.NodeKind.TheVariants.{Choose, Buy, Sell}
use Rattle.ice_defs.specs.Tree.{Tree, kind_of}
use Rattle.ice_defs.specs.Set.{NodeSet, has, Weights}
use Rattle.ice_defs.specs.Fixing.{Fixing}
use Rattle.ice_defs.specs.Bound.{Multipliers, net}
use Rattle.ice_defs.proofs.Sums.{sum_below-same, sum_below-le}
use Rattle.ice_defs.proofs.Products.{times-le}
use Rattle.ice_best.specs.Nets.{node_cost}
use Rattle.ice_best.proofs.NetValues.{set_cost-nodes}
use Rattle.ice_bound.specs.declared.direction.Direction.{Direction}
use Rattle.ice_bound.specs.Multipliers.{multiplier_of}
use Rattle.ice_bound.specs.Kept.{NodeStands, Stands, IsFound}
use Rattle.ice_bound.specs.Tables.{Moves}

units-le : (a b : ℤ) (n : ℕ) → a ≤ℤ b → (a *ℤ pos n) ≤ℤ (b *ℤ pos n)
units-le a b n le = omega (arith, ints, times-le n a b le, *ℤ_comm a (pos n), *ℤ_comm b (pos n))

cond-le : (inside : Bool) (a b : ℤ) → a ≤ℤ b → cond inside a (pos 0) ≤ℤ cond inside b (pos 0)
cond-le true a b le = le
cond-le false a b le = omega (arith, ints)

outside : (inside : Bool) (a b : ℤ) → inside ≡ false → cond inside a (pos 0) ≡ cond inside b (pos 0)
outside inside a b out = ap (λ i. cond i a (pos 0)) out ∙ sym (ap (λ i. cond i b (pos 0)) out)

module _ (m : Multipliers) (g : ℕ) (z : ℤ) (there : g < length m) (direction : Direction) (moves : Moves direction (multiplier_of m g) z) where
  at : (good : ℕ) → good ≡ g → multiplier_of (set m g z) good ≡ z
  at good e = ap (λ k. multiplier_of (set m g z) k) e ∙ get_or-set_same m g z (pos 0) there

  -- no node costs less
  dearer : (kind : NodeKind) (inside : Bool) → NodeStands kind g inside direction → node_cost kind m ≤ℤ node_cost kind (set m g z)
  dearer (Choose least most) inside stands = omega (arith, ints)
  dearer (Buy good units) inside stands = by (cases_eq good g)
    where
      by : (good ≡ g) ⊎ (good ≡ g → ⊥) → (multiplier_of m good *ℤ pos units) ≤ℤ (multiplier_of (set m g z) good *ℤ pos units)
      by (inl e) =
          let up : multiplier_of m g ≤ℤ z = subst (λ r. Moves r (multiplier_of m g) z) (stands e).1 moves in
          units-le (multiplier_of m good) (multiplier_of (set m g z) good) units (omega (arith, ints, up, at good e, ap (multiplier_of m) e))
      by (inr ne) = units-le (multiplier_of m good) (multiplier_of (set m g z) good) units (omega (arith, ints, get_or-set_other m g good z (pos 0) ne))
  dearer (Sell good units) inside stands = by (cases_eq good g)
    where
      by : (good ≡ g) ⊎ (good ≡ g → ⊥) → neg_ℤ (multiplier_of m good *ℤ pos units) ≤ℤ neg_ℤ (multiplier_of (set m g z) good *ℤ pos units)
      by (inl e) =
          let down : z ≤ℤ multiplier_of m g = subst (λ r. Moves r (multiplier_of m g) z) (stands e).1 moves in
          let le = units-le (multiplier_of (set m g z) good) (multiplier_of m good) units (omega (arith, ints, down, at good e, ap (multiplier_of m) e)) in
          omega (arith, ints, le)
      by (inr ne) =
          let le = units-le (multiplier_of (set m g z) good) (multiplier_of m good) units (omega (arith, ints, get_or-set_other m g good z (pos 0) ne)) in
          omega (arith, ints, le)

  -- and those inside cost the same
  as_dear : (kind : NodeKind) (inside : Bool) → NodeStands kind g inside direction → cond inside (node_cost kind (set m g z)) (pos 0) ≡ cond inside (node_cost kind m) (pos 0)
  as_dear (Choose least most) inside stands = refl
  as_dear (Buy good units) inside stands = by (cases_eq good g)
    where
      by : (good ≡ g) ⊎ (good ≡ g → ⊥) → cond inside (multiplier_of (set m g z) good *ℤ pos units) (pos 0) ≡ cond inside (multiplier_of m good *ℤ pos units) (pos 0)
      by (inl e) = outside inside (multiplier_of (set m g z) good *ℤ pos units) (multiplier_of m good *ℤ pos units) (stands e).0
      by (inr ne) = ap (λ v. cond inside (v *ℤ pos units) (pos 0)) (get_or-set_other m g good z (pos 0) ne)
  as_dear (Sell good units) inside stands = by (cases_eq good g)
    where
      by : (good ≡ g) ⊎ (good ≡ g → ⊥) → cond inside (neg_ℤ (multiplier_of (set m g z) good *ℤ pos units)) (pos 0) ≡ cond inside (neg_ℤ (multiplier_of m good *ℤ pos units)) (pos 0)
      by (inl e) = outside inside (neg_ℤ (multiplier_of (set m g z) good *ℤ pos units)) (neg_ℤ (multiplier_of m good *ℤ pos units)) (stands e).0
      by (inr ne) = ap (λ v. cond inside (neg_ℤ (v *ℤ pos units)) (pos 0)) (get_or-set_other m g good z (pos 0) ne)

  module _ (t : Tree) (w : Weights) (s : NodeSet) (stands : Stands t s g direction (length t)) where
    abbrev costs : Multipliers → NodeSet → ℕ → ℤ
    costs rates r n = cond (has r n) (node_cost (kind_of t n) rates) (pos 0)

    no_gain : (r : NodeSet) → net t w (set m g z) r ≤ℤ net t w m r
    no_gain r =
        let le = sum_below-le (costs m r) (costs (set m g z) r) (length t)
        (λ n h. cond-le (has r n) (node_cost (kind_of t n) m) (node_cost (kind_of t n) (set m g z)) (dearer (kind_of t n) (has s n) (stands n h))) in
        omega (arith, ints, le, set_cost-nodes t r m, set_cost-nodes t r (set m g z))

    same_net : net t w (set m g z) s ≡ net t w m s
    same_net =
        let same = sum_below-same (costs (set m g z) s) (costs m s) (length t) (λ n h. as_dear (kind_of t n) (has s n) (stands n h)) in
        omega (arith, ints, same, set_cost-nodes t s m, set_cost-nodes t s (set m g z))

    -- what was found stands
    pub stays_best : (x : Fixing) (v : Option ℤ) → IsFound t w m x v s → IsFound t w (set m g z) x v s
    stays_best x None none = none
    stays_best x (Some v) (is, (o, e)) = (
      record {
        attained = (s, o, same_net ∙ e);
        bound = λ q ok. omega (arith, ints, no_gain q, is.bound q ok);
      },
      (o, same_net ∙ e),
    )
