-- The sum of the greatest nets where the multiplier of one good is one more, or one less.
use Rattle.std.specs.Prelude.{ℕ, ◌*◌, ◌^◌, ◌<◌, ◌≤◌, ◌≡◌, List, length, slice_index_or, Option, ℤ, pos, neg_ℤ, ◌+ℤ◌, ◌-ℤ◌, ◌≤ℤ◌, slice_set}
use Rattle.ice_defs.specs.Tree.{Tree}
use Rattle.ice_defs.specs.Set.{Weights}
use Rattle.ice_defs.specs.Fixing.{Fixing}
use Rattle.ice_defs.specs.Greatest.{IsGreatest}
use Rattle.ice_defs.specs.Sweep.{IsLive}
use Rattle.ice_defs.specs.Trade.{Assignment, tree_of, set_of, weights_of, fixing_of}
use Rattle.ice_defs.specs.Bound.{Multipliers, net, IsOpen}
use Rattle.ice_bound.specs.Multipliers.{multiplier_of}
use Rattle.ice_defs.specs.Conditions.{AreWeightsOf, AreFixingsOf}
use Rattle.ice_bound.specs.Leaves.{AreLeaves}
use Rattle.ice_bound.specs.declared.direction.Direction.{Direction}
use Rattle.ice_bound.specs.declared.direction.Direction.TheVariants.{Up, Down}
use Rattle.ice_bound.specs.declared.leaves.Leaves.{Leaves}
use Rattle.ice_bound.specs.declared.net_table.NetTable.{NetTable}
use Rattle.ice_bound.specs.Tables.{IsNetTable, AreTables}
use Rattle.ice_bound.specs.Kept.{HaveRoom, AreFound}

-- one more, or one less
abbrev pub beside : Direction → ℤ → ℤ
beside Up z = z +ℤ pos 1
beside Down z = z -ℤ pos 1

-- what costs a sum of 64ths more is taken off, and what costs less is added
abbrev pub less_cost : Direction → (net units : ℤ) → ℤ
less_cost Up net units = net -ℤ units
less_cost Down net units = net +ℤ units

-- the multipliers where that of one good is one more, or one less
abbrev pub with_beside : Multipliers → ℕ → Direction → Multipliers
with_beside m g direction = slice_set m g (beside direction (multiplier_of m g))

-- trees, weights, marks and multipliers, with a net and a set of each bidder and the leaves of each
-- tree; and the multipliers
-- where that of one good is moved
pub record StandingBeside : Type 0 where
  pub trees : List Tree
  pub weights : List Weights
  pub marks : List Fixing
  pub multipliers : Multipliers
  pub moved : Multipliers
  pub nets : List (Option ℤ)
  pub sets : Assignment
  pub leaves : List Leaves
  pub good : ℕ
  pub direction : Direction

-- no bidder is dead, the nets and sets are found at the multipliers, and that of the good is moved
-- by one
pub record IsFoundBeside (st : StandingBeside) : Type 0 where
  pub few : length st.trees ≤ 40
  pub weights : AreWeightsOf st.trees st.weights
  pub marks : AreFixingsOf st.trees st.marks
  pub live : IsLive st.trees st.marks
  pub room : HaveRoom st.trees st.nets st.sets
  pub found : AreFound st.trees st.weights st.multipliers st.marks st.nets st.sets (length st.trees)
  pub leaved : AreLeaves st.trees st.leaves (length st.trees)
  pub good : st.good < length st.multipliers
  pub good_fits : st.good < 32
  pub moved : st.moved ≡ with_beside st.multipliers st.good st.direction

-- the table of a bidder at the multipliers before they moved
abbrev pub IsTableBeside : StandingBeside → ℕ → NetTable → Type 0
IsTableBeside st b table = IsNetTable (tree_of st.trees b) (weights_of st.weights b) st.multipliers (fixing_of st.marks b) table

abbrev pub AreTablesBeside : StandingBeside → List NetTable → Type 0
AreTablesBeside st tables = AreTables st.trees st.weights st.multipliers st.marks tables (length st.trees)

-- what the set of a bidder nets at the moved multipliers
abbrev pub net_beside : StandingBeside → ℕ → ℤ
net_beside st b = net (tree_of st.trees b) (weights_of st.weights b) st.moved (set_of st.sets b)

pub record IsShare (st : StandingBeside) (b : ℕ) (share : ℤ) : Type 0 where
  pub is : net_beside st b ≡ share
  pub low : neg_ℤ (pos (201 * 2 ^ 90)) ≤ℤ share
  pub high : share ≤ℤ pos (201 * 2 ^ 90)

abbrev pub share_of : List ℤ → ℕ → ℤ
share_of shares b = slice_index_or shares b (pos 0)

-- the greatest net of a bidder at the moved multipliers
pub record IsGreatestShare (st : StandingBeside) (b : ℕ) (v : ℤ) : Type 0 where
  pub greatest : IsGreatest (IsOpen (tree_of st.trees b) (fixing_of st.marks b))
      (net (tree_of st.trees b) (weights_of st.weights b) st.moved) v
  pub low : neg_ℤ (pos (200 * 2 ^ 90)) ≤ℤ v
  pub high : v ≤ℤ pos (200 * 2 ^ 90)
