-- Laws of bounds, as statements.
use Rattle.std.specs.Prelude.{ℕ, ◌+◌, ◌<◌, ◌≤◌, ◌≡◌, ◌↔◌, ◌++◌, Bool, List, length, map, ℤ, pos, ◌-ℤ◌, ◌*ℤ◌, ◌≤ℤ◌}
use Rattle.ice_defs.specs.Sum.{sum_below}
use Rattle.ice_defs.specs.Tree.{Tree}
use Rattle.ice_defs.specs.Set.{NodeSet, Weights, weight_of, value}
use Rattle.ice_defs.specs.Trade.{Assignment, weights_of, IsFeasible, MeetsAll, total_value}
use Rattle.ice_defs.specs.Bound.{Multipliers, cost, IsDead, IsBound}
use Rattle.ice_defs.specs.Derived.{Derived, derived_at, KeepsLimit, Tolls, toll_of, net_with, Means, goods_alone, with_derived}
use Rattle.ice_defs.specs.Derived.{flags_of, IsBoundBy}
use Rattle.ice_defs.specs.Steps.{Side}
use Rattle.ice_defs.specs.Log.{HasWrongSign}

-- a bound is above every feasible assignment that meets the side
abbrev pub BoundIsSound : Type 0
BoundIsSound = (ts : List Tree) (exact : List Bool) (ws : List Weights) (m : Multipliers) (side : Side) (v : ℤ) (a : Assignment)
    → length m ≡ length exact → ¬ HasWrongSign exact m → IsBound ts ws m side v
    → IsFeasible ts exact a → MeetsAll a side → total_value a ws ≤ℤ v

-- no feasible assignment meets a side with a dead bidder
abbrev pub DeadHasNone : Type 0
DeadHasNone = (ts : List Tree) (exact : List Bool) (side : Side) (b : ℕ) (a : Assignment)
    → b < length ts → IsDead ts side b → IsFeasible ts exact a → ¬ MeetsAll a side

-- ---- derived goods

-- one number for each good, where there are no others; with derived goods, those that are left out
-- are 0, and those behind the last one count for nothing
abbrev pub IsCounted : Means → List Bool → Multipliers → Type 0
IsCounted goods_alone exact m = length m ≡ length exact
IsCounted (with_derived ds) exact m = Unit {0}

-- no more is taken than the limit of each derived good
abbrev pub KeepsLimits : Assignment → Means → Type 0
KeepsLimits a goods_alone = Unit {0}
KeepsLimits a (with_derived ds) = (k : ℕ) → k < length ds → KeepsLimit a (derived_at ds k)

-- so is a bound at the numbers of a leaf, where the limits are kept
abbrev pub BoundByIsSound : Type 0
BoundByIsSound = (means : Means) (ts : List Tree) (exact : List Bool) (ws : List Weights) (m : Multipliers) (side : Side) (v : ℤ)
    (a : Assignment)
    → IsCounted means exact m → ¬ HasWrongSign (flags_of means exact) m → IsBoundBy means ts exact ws m side v
    → IsFeasible ts exact a → KeepsLimits a means → MeetsAll a side → total_value a ws ≤ℤ v

-- multipliers in 64ths, as numbers in 4096ths
abbrev pub in_4096ths : Multipliers → Multipliers
in_4096ths m = map (λ z. pos 64 *ℤ z) m

-- a bound in 64ths is the one in 4096ths that has no tolls, among any derived goods
abbrev pub PlainBoundIsBound : Type 0
PlainBoundIsBound = (ds : List Derived) (ts : List Tree) (exact : List Bool) (ws : List Weights) (m : Multipliers) (side : Side) (v : ℤ)
    → length m ≤ length exact → IsBound ts ws m side v ↔ IsBoundBy (with_derived ds) ts exact ws (in_4096ths m) side v

-- a bound stays where derived goods come after those that have tolls
abbrev pub BoundStays : Type 0
BoundStays = (ds more : List Derived) (ts : List Tree) (exact : List Bool) (ws : List Weights) (m : Multipliers) (side : Side) (v : ℤ)
    → length m ≤ length exact + length ds
    → IsBoundBy (with_derived ds) ts exact ws m side v ↔ IsBoundBy (with_derived (ds ++ more)) ts exact ws m side v

-- the tolls on what a node of this bidder takes
abbrev pub tolls_on_node : List Derived → Tolls → ℕ → ℕ → ℤ
tolls_on_node ds tolls b n = sum_below (λ k. toll_of tolls k *ℤ weight_of (weights_of (derived_at ds k).amounts b) n) (length ds)

-- weights in 4096ths, less the tolls on each node
pub record AreCharged (ds : List Derived) (tolls : Tolls) (b : ℕ) (w charged : Weights) : Type 0 where
  pub nodes : length charged ≡ length w
  pub each : (n : ℕ) → n < length w → weight_of charged n ≡ (pos 4096 *ℤ weight_of w n) -ℤ tolls_on_node ds tolls b n

-- a net with tolls is one without, at charged weights
abbrev pub ChargedGivesNet : Type 0
ChargedGivesNet = (ds : List Derived) (tolls : Tolls) (b : ℕ) (t : Tree) (w charged : Weights) (m : Multipliers) (s : NodeSet)
    → AreCharged ds tolls b w charged → length s ≡ length w
    → net_with ds tolls b t w m s ≡ value s charged -ℤ cost t s m
