-- The units of the nodes so far, and those of one node more.
use Rattle.std.proofs.Common.{ℕ, ◌+◌, ◌*◌, ◌<◌, ◌≡◌, Bool, true, false, cond, eqb, List, ℤ, pos, neg_ℤ, ◌+ℤ◌, ◌≤ℤ◌, arith, ap}
use Rattle.std.proofs.lemmas.Int.{ints}
use Rattle.ice_defs.specs.declared.NodeKind.{NodeKind}
use Rattle.ice_defs.specs.declared.NodeKind.TheVariants.{Choose, Buy, Sell}
use Rattle.ice_defs.specs.Sum.{sum_below}
use Rattle.ice_defs.specs.Tree.{Tree, kind_of}
use Rattle.ice_defs.specs.Set.{NodeSet, has, weight_of, leaf_units}
use Rattle.ice_defs.specs.Lawful.{IsLimitedKind}
use Rattle.ice_defs.proofs.Sums.{sum_below_more}
use Rattle.ice_tree.specs.Units.{AreWithin}

at_good : (b : Bool) (z : ℤ) → neg_ℤ (pos 1000) ≤ℤ z → z ≤ℤ pos 1000 → (neg_ℤ (pos 1000) ≤ℤ cond b z (pos 0)) × (cond b z (pos 0) ≤ℤ pos 1000)
at_good true z low high = (low, high)
at_good false z low high = (omega (arith, ints), omega (arith, ints))

-- a leaf has at most 1,000 units
pub leaf_units-within : (goods : ℕ) (kind : NodeKind) (g : ℕ) → IsLimitedKind goods kind → (neg_ℤ (pos 1000) ≤ℤ leaf_units kind g) × (leaf_units kind g ≤ℤ pos 1000)
leaf_units-within goods (Choose least most) g is = (omega (arith, ints), omega (arith, ints))
leaf_units-within goods (Buy good units) g is = at_good (eqb good g) (pos units) (omega (arith, ints)) (omega (arith, ints, is.2))
leaf_units-within goods (Sell good units) g is = at_good (eqb good g) (neg_ℤ (pos units)) (omega (arith, ints, is.2)) (omega (arith, ints))

module _ (t : Tree) (s : NodeSet) (n : ℕ) (sums more : List ℤ) where
  abbrev IsSum : List ℤ → ℕ → Type 0
  IsSum us m = (g : ℕ) → g < 32 → weight_of us g ≡ sum_below (λ k. cond (has s k) (leaf_units (kind_of t k) g) (pos 0)) m

  abbrev IsAdded : Type 0
  IsAdded = (g : ℕ) → g < 32 → weight_of more g ≡ weight_of sums g +ℤ leaf_units (kind_of t n) g

  pub sums-inside : IsSum sums n → has s n ≡ true → IsAdded → IsSum more (n + 1)
  sums-inside are e added g h =
      let term : ℕ → ℤ = λ k. cond (has s k) (leaf_units (kind_of t k) g) (pos 0) in
      omega (arith, ints, are g h, added g h, sum_below_more term n, ap (λ b. cond b (leaf_units (kind_of t n) g) (pos 0)) e)

  pub sums-outside : IsSum sums n → has s n ≡ false → IsSum sums (n + 1)
  sums-outside are e g h =
      let term : ℕ → ℤ = λ k. cond (has s k) (leaf_units (kind_of t k) g) (pos 0) in
      omega (arith, ints, are g h, sum_below_more term n, ap (λ b. cond b (leaf_units (kind_of t n) g) (pos 0)) e)

  pub within-inside : AreWithin (n * 1000) sums → IsLimitedKind 32 (kind_of t n) → IsAdded → AreWithin ((n + 1) * 1000) more
  within-inside within limited added = record {
    low = λ g h. omega (arith, ints, within.low g h, added g h, (leaf_units-within 32 (kind_of t n) g limited).0);
    high = λ g h. omega (arith, ints, within.high g h, added g h, (leaf_units-within 32 (kind_of t n) g limited).1);
  }

  pub within-outside : AreWithin (n * 1000) sums → AreWithin ((n + 1) * 1000) sums
  within-outside within = record {
    low = λ g h. omega (arith, ints, within.low g h);
    high = λ g h. omega (arith, ints, within.high g h);
  }
