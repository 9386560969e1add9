-- What nodes are charged at tolls on derived goods.
use Rattle.std.specs.Prelude.{ℕ, ◌+◌, ◌*◌, ◌^◌, ◌<◌, ◌≡◌, List, length, sum, take, slice_index, ℤ, pos, neg_ℤ, ◌+ℤ◌, ◌*ℤ◌, ◌≤ℤ◌}
use Rattle.ice_defs.specs.Set.{Weights, weight_of}
use Rattle.ice_defs.specs.Trade.{weights_of}
use Rattle.ice_defs.specs.Derived.{Derived, derived_at, Tolls, tolls_on_limits}
use Rattle.ice_bound.specs.Laws.{tolls_on_node}
use Rattle.ice_refute.specs.Waiting.{nodes_of}
use Rattle.ice_derived.specs.Packing.{PackedView}

-- the difference of two tolls is at most 2^63 in size
pub record IsChange (z : ℤ) : Type 0 where
  pub low : neg_ℤ (pos (2 ^ 63)) ≤ℤ z
  pub high : z ≤ℤ pos (2 ^ 63)

-- a charge, which is at most 2^82 in size for each of 2,000 derived goods
pub record IsCharge (z : ℤ) : Type 0 where
  pub low : neg_ℤ (pos (2000 * 2 ^ 82)) ≤ℤ z
  pub high : z ≤ℤ pos (2000 * 2 ^ 82)

abbrev pub AreCharges : Weights → Type 0
AreCharges w = (n : ℕ) → n < length w → IsCharge (weight_of w n)

abbrev pub AreAllCharges : List Weights → Type 0
AreAllCharges rows = (b : ℕ) → b < length rows → AreCharges (weights_of rows b)

-- tolls on limits, at most 2^102 in size for each of 2,000 derived goods
pub record IsOnLimits (z : ℤ) : Type 0 where
  pub low : neg_ℤ (pos (2000 * 2 ^ 102)) ≤ℤ z
  pub high : z ≤ℤ pos (2000 * 2 ^ 102)

-- the amount of this node
abbrev pub amount_of : Derived → ℕ → ℕ → ℤ
amount_of d b n = weight_of (weights_of d.amounts b) n

-- one toll for each derived good; each node is charged its tolls, and those on limits are summed
pub record AreChargesOf (v : PackedView) (tolls : Tolls) (rows : List Weights) (on_limits : ℤ) : Type 0 where
  pub nodes : nodes_of rows ≡ v.nodes
  pub count : length tolls ≡ length v.goods
  pub each : (b n : ℕ) → b < length v.nodes → n < slice_index v.nodes b
      → weight_of (weights_of rows b) n ≡ tolls_on_node v.goods tolls b n
  pub on_all : on_limits ≡ tolls_on_limits v.goods tolls

-- so many times an amount more is a charge; the amounts of all nodes are one list
abbrev pub MayBeChargedAt : List ℕ → List ℤ → ℤ → List Weights → Type 0
MayBeChargedAt nodes amounts times rows = (b n : ℕ) → b < length nodes → n < slice_index nodes b
    → IsCharge (weight_of (weights_of rows b) n +ℤ (times *ℤ weight_of amounts (sum (take b nodes) + n)))

-- and each node is charged so much more
abbrev pub AreChargedAt : List ℕ → List ℤ → ℤ → List Weights → List Weights → Type 0
AreChargedAt nodes amounts times old new = (b n : ℕ) → b < length nodes → n < slice_index nodes b
    → weight_of (weights_of new b) n ≡ weight_of (weights_of old b) n +ℤ (times *ℤ weight_of amounts (sum (take b nodes) + n))

-- the same with the amounts of this derived good
abbrev pub MayBeCharged : PackedView → ℕ → ℤ → List Weights → Type 0
MayBeCharged v k times rows = (b n : ℕ) → b < length v.nodes → n < slice_index v.nodes b
    → IsCharge (weight_of (weights_of rows b) n +ℤ (times *ℤ amount_of (derived_at v.goods k) b n))

abbrev pub AreChargedMore : PackedView → ℕ → ℤ → List Weights → List Weights → Type 0
AreChargedMore v k times old new = (b n : ℕ) → b < length v.nodes → n < slice_index v.nodes b
    → weight_of (weights_of new b) n ≡ weight_of (weights_of old b) n +ℤ (times *ℤ amount_of (derived_at v.goods k) b n)
