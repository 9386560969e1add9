-- What nodes net beside what they are charged.
use Rattle.std.specs.Prelude.{ℕ, ◌<◌, ◌≡◌, length, ℤ, pos, ◌-ℤ◌, ◌*ℤ◌}
use Rattle.ice_defs.specs.Tree.{Tree}
use Rattle.ice_defs.specs.Set.{NodeSet, Weights, weight_of, value, IsSmall}
use Rattle.ice_defs.specs.Bound.{Multipliers, cost}
use Rattle.ice_best.specs.Nets.{node_net}

-- the net of a set in 4096ths, less what its nodes are charged
abbrev pub net_less : Tree → Weights → Multipliers → Weights → NodeSet → ℤ
net_less t w m charges s = ((pos 4096 *ℤ value s w) -ℤ cost t s m) -ℤ value s charges

-- weights by which the value of a set is that net
pub record AreNetsLess (t : Tree) (w : Weights) (m : Multipliers) (charges nets : Weights) : Type 0 where
  pub nodes : length nets ≡ length t
  pub each : (n : ℕ) → n < length t → weight_of nets n ≡ node_net t w 4096 m 1 n -ℤ weight_of charges n
  pub small : (n : ℕ) → n < length t → IsSmall (weight_of nets n)
