-- Derived goods, and the bound with them.
use Rattle.std.specs.Prelude.{ℕ, ◌<◌, ◌≡◌, Bool, false, List, [], ◌++◌, length, slice_index_or, take, drop, replicate}
use Rattle.std.specs.Prelude.{ℤ, pos, ◌+ℤ◌, ◌-ℤ◌, ◌*ℤ◌, ◌≤ℤ◌, ◌<ℤ◌}
use Rattle.ice_defs.specs.Tree.{Tree}
use Rattle.ice_defs.specs.Set.{NodeSet, Weights, value}
use Rattle.ice_defs.specs.Fixing.{Fixing}
use Rattle.ice_defs.specs.Greatest.{IsGreatest}
use Rattle.ice_defs.specs.Sum.{sum_below}
use Rattle.ice_defs.specs.Trade.{Assignment, tree_of, weights_of, fixing_of, total_value}
use Rattle.ice_defs.specs.Bound.{Multipliers, cost, IsOpen, IsBound}

-- a derived good: what a set takes of it is its value at the amounts, one number for each node of
-- each bidder's tree, and all sets together may take the limit
pub record Derived : Type 0 where
  pub amounts : List Weights
  pub limit : ℤ

abbrev pub no_derived : Derived
no_derived = record { amounts = []; limit = pos 0 }

abbrev pub derived_at : List Derived → ℕ → Derived
derived_at ds k = slice_index_or ds k no_derived

-- no more than the limit is taken of it
abbrev pub KeepsLimit : Assignment → Derived → Type 0
KeepsLimit a d = total_value a d.amounts ≤ℤ d.limit

-- one multiplier for each derived good, in 4096ths; those that are left out at the end are 0
abbrev pub Tolls : Type 0
Tolls = List ℤ

abbrev pub toll_of : Tolls → ℕ → ℤ
toll_of tolls k = slice_index_or tolls k (pos 0)

-- the tolls on what a set of this bidder takes
abbrev pub tolls_on : List Derived → Tolls → ℕ → NodeSet → ℤ
tolls_on ds tolls b s = sum_below (λ k. toll_of tolls k *ℤ value s (weights_of (derived_at ds k).amounts b)) (length ds)

-- the tolls on all that may be taken
abbrev pub tolls_on_limits : List Derived → Tolls → ℤ
tolls_on_limits ds tolls = sum_below (λ k. toll_of tolls k *ℤ (derived_at ds k).limit) (length ds)

-- the net of a set with derived goods, in 4096ths: 4096 times its value, less what its units cost,
-- less the tolls on what it takes
abbrev pub net_with : List Derived → Tolls → ℕ → Tree → Weights → Multipliers → NodeSet → ℤ
net_with ds tolls b t w m s = ((pos 4096 *ℤ value s w) -ℤ cost t s m) -ℤ tolls_on ds tolls b s

-- the total, T in the documents, is the sum of the bidders' greatest such nets over their open sets
abbrev pub IsNetSumWith : List Derived → Tolls → List Tree → List Weights → Multipliers → List Fixing → ℤ → Type 0
IsNetSumWith ds tolls ts ws m xs total =
    (best : ℕ → ℤ)
    × ((b : ℕ) → b < length ts
    → IsGreatest (IsOpen (tree_of ts b) (fixing_of xs b)) (net_with ds tolls b (tree_of ts b) (weights_of ws b) m) (best b))
    × (sum_below best (length ts) ≡ total)

-- v is the floor of a 4096th of T and the tolls on the limits
abbrev pub IsBoundWith : List Derived → Tolls → List Tree → List Weights → Multipliers → List Fixing → ℤ → Type 0
IsBoundWith ds tolls ts ws m xs v =
    (total : ℤ) × IsNetSumWith ds tolls ts ws m xs total × ((pos 4096 *ℤ v) ≤ℤ (total +ℤ tolls_on_limits ds tolls))
    × ((total +ℤ tolls_on_limits ds tolls) <ℤ (pos 4096 *ℤ v +ℤ pos 4096))

-- by what the leaves of a log close. A leaf has one number for each good: its multiplier in 64ths.
-- Or it has one for each good and then one for each of these derived goods: the multipliers and the
-- tolls in 4096ths
pub data Means : Type 0 where
  goods_alone : Means
  with_derived : List Derived → Means

-- for each number of a leaf whether its good is exact: no derived one is
abbrev pub flags_of : Means → List Bool → List Bool
flags_of goods_alone exact = exact
flags_of (with_derived ds) exact = exact ++ replicate (length ds) false

-- the bound at the numbers of a leaf
abbrev pub IsBoundBy : Means → List Tree → List Bool → List Weights → Multipliers → List Fixing → ℤ → Type 0
IsBoundBy goods_alone ts exact ws m xs v = IsBound ts ws m xs v
IsBoundBy (with_derived ds) ts exact ws m xs v = IsBoundWith ds (drop (length exact) m) ts ws (take (length exact) m) xs v
