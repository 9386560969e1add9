-- How a change of a node's gain is followed to the entry of its parent.
use Rattle.std.specs.Prelude.{ℕ, ◌*◌, ◌^◌, ◌<◌, ◌≤◌, ◌≡◌, ◌≢◌, ◌⊎◌, Bool, false, length, IsTrue, ℤ, pos, neg_ℤ, ◌+ℤ◌, ◌≤ℤ◌}
use Rattle.ice_defs.specs.Tree.{Tree, parent_of}
use Rattle.ice_defs.specs.Set.{Weights, weight_of, has}
use Rattle.ice_defs.specs.Fixing.{Fixing}
use Rattle.ice_best.specs.declared.table.Table.{Table}
use Rattle.ice_best.specs.Choice.{IsGainSmall}
use Rattle.ice_best.specs.Table.{IsEntry}
use Rattle.ice_best.specs.Entries.{HasEntry, IsTableOf, DifferOnlyAt}

-- the entry of p is right where n adds `more` less
abbrev pub IsRightBefore : Tree → Weights → Fixing → Table → ℕ → ℕ → ℤ → Type 0
IsRightBefore t w x table n p more = (g : ℕ → ℤ) → (g n +ℤ more) ≡ weight_of table.gain n → ((k : ℕ) → k ≢ n → g k ≡ weight_of table.gain k)
    → IsEntry t w x g (has table.needed) (has table.possible) (has table.taken) p

-- at most what two gains differ by
pub record IsDifference (z : ℤ) : Type 0 where
  pub low : neg_ℤ (pos (400 * 2 ^ 94)) ≤ℤ z
  pub high : z ≤ℤ pos (400 * 2 ^ 94)

-- all nodes have their entries, but for n's parent, which has its where n adds `more` less
pub record IsFollowed (t : Tree) (w : Weights) (x : Fixing) (table : Table) (n : ℕ) (more : ℤ) : Type 0 where
  pub others : (k : ℕ) → k < length t → (0 < n → k ≢ parent_of t n) → HasEntry t w x table k
  pub above : 0 < n → IsRightBefore t w x table n (parent_of t n) more
  pub small : (k : ℕ) → k ≤ n → IsGainSmall (weight_of table.gain k)
  pub difference : IsDifference more

-- it is the table at weights that differ at most at n, where n's was `before`
abbrev pub WasTableOf : Tree → Weights → Fixing → Table → ℕ → ℤ → Type 0
WasTableOf t w x table n before = (v : Weights) × IsTableOf t v x table × DifferOnlyAt n v w × (weight_of v n ≡ before)

-- why a best choice stays the best, and adds `rise` more, when one child adds `more`
abbrev pub MayStay : Bool → Bool → ℕ → ℤ → ℤ → ℤ → ℤ → Type 0
MayStay taken all most choice gain more rise =
    (IsTrue taken × ((pos 0 ≤ℤ more) ⊎ IsTrue all) × (rise ≡ more))
    ⊎ ((taken ≡ false) × ((more ≤ℤ pos 0) ⊎ ((most ≤ 1) × (gain ≤ℤ choice))) × (rise ≡ pos 0))
