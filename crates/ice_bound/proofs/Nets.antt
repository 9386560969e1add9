-- The net of a set is its value at the net weights.
use Rattle.std.proofs.Common.{◌*◌, ◌^◌, ◌≤◌, ◌≡◌, length, ℤ, pos, neg_ℤ, ◌≤ℤ◌, arith, sym, ◌∙◌, subst}
use Rattle.std.proofs.lemmas.Int.{ints}
use Rattle.ice_defs.specs.Tree.{Tree}
use Rattle.ice_defs.specs.Set.{NodeSet, Weights, value}
use Rattle.ice_defs.specs.Fixing.{Fixing}
use Rattle.ice_defs.specs.Greatest.{IsGreatest}
use Rattle.ice_defs.specs.Bound.{Multipliers, net, IsOpen}
use Rattle.ice_best.specs.Nets.{net_at_rates, AllNets, AreNetWeights}
use Rattle.ice_best.proofs.NetValues as at_rates

pub value-nets : (t : Tree) (w : Weights) (m : Multipliers) (nets : Weights) (s : NodeSet) → AreNetWeights t w 64 m 1 nets → length s ≡ length t → value s nets ≡ net t w m s
value-nets t w m nets s are size = at_rates.value-nets t w 64 m 1 nets s are size ∙ once
  where
    once : net_at_rates t w 64 m 1 s ≡ net t w m s
    once = omega (arith, ints)

-- the greatest value at net weights is the greatest net
pub greatest-net : (t : Tree) (w : Weights) (m : Multipliers) (nets : Weights) (x : Fixing) (v : ℤ) → AreNetWeights t w 64 m 1 nets
    → IsGreatest (IsOpen t x) (λ s. value s nets) v → IsGreatest (IsOpen t x) (net t w m) v
greatest-net t w m nets x v are is =
    let (s, o, same) = is.attained in
    record {
      attained = (s, o, sym (value-nets t w m nets s are (o.0).same_length) ∙ same);
      bound = λ r ok. subst (λ z. z ≤ℤ v) (value-nets t w m nets r are (ok.0).same_length) (is.bound r ok);
    }

-- what is greatest at small weights is no larger than 200 of them
pub greatest-small : (t : Tree) (nets : Weights) (x : Fixing) (v : ℤ) → length t ≤ 200 → length nets ≡ length t → AllNets nets
    → IsGreatest (IsOpen t x) (λ s. value s nets) v → (neg_ℤ (pos (200 * 2 ^ 90)) ≤ℤ v) × (v ≤ℤ pos (200 * 2 ^ 90))
greatest-small t nets x v few nodes small is =
    let (s, o, same) = is.attained in
    at_rates.value-small t s nets v few nodes small (o.0).same_length same
