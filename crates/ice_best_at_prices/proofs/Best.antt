-- A set that has the greatest value at net weights has the greatest net.
use Rattle.std.proofs.Common.{ℕ, ◌≡◌, length, replicate, ℤ, ◌≤ℤ◌, sym, ◌∙◌, subst}
use Rattle.ice_defs.specs.declared.Mark.TheVariants.{Free}
use Rattle.ice_defs.specs.Tree.{Tree}
use Rattle.ice_defs.specs.Set.{NodeSet, Weights, value}
use Rattle.ice_defs.specs.Fixing.{Fixing, Meets}
use Rattle.ice_defs.specs.Greatest.{IsGreatest}
use Rattle.ice_defs.specs.Bound.{IsOpen}
use Rattle.ice_defs.specs.Prices.{Prices}
use Rattle.ice_defs.proofs.NodeSets.{meets_free}
use Rattle.ice_best.specs.Nets.{AreNetWeights}
use Rattle.ice_best.proofs.NetValues.{value-nets}
use Rattle.ice_best_at_prices.specs.Net.{IsBestAtPrices}

pub best-net : (t : Tree) (w : Weights) (k : ℕ) (p : Prices) (nets : Weights) (x : Fixing) (s : NodeSet) (v : ℤ) → AreNetWeights t w p.den p.nums k nets
    → x ≡ replicate (length t) Free → IsGreatest (IsOpen t x) (λ a. value a nets) v → IsOpen t x s → value s nets ≡ v → IsBestAtPrices t w k p s v
best-net t w k p nets x s v are free is at same = record {
  satisfied = at.0;
  has = sym (value-nets t w p.den p.nums k nets s are (at.0).same_length) ∙ same;
  greatest = λ other sat.
      subst (λ z. z ≤ℤ v) (value-nets t w p.den p.nums k nets other are sat.same_length) (is.bound other (sat, open_to other));
}
  where
    open_to : (other : NodeSet) → Meets other x
    open_to other = subst (Meets other) (sym free) (meets_free other (length t))
