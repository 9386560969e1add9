-- A provisional trade, for which prices are sought: the bidders'
-- trees, weighted values and own sets, the goods and the cap.
use Rattle.std.specs.Prelude.{ℕ, ◌<◌, ◌≤◌, ◌≡◌, List, length, ℤ, pos, ◌≤ℤ◌}
use Rattle.ice_defs.specs.Tree.{Tree}
use Rattle.ice_defs.specs.Set.{Weights}
use Rattle.ice_defs.specs.Trade.{Assignment, tree_of, weights_of}
use Rattle.ice_defs.specs.Exchange.{Exchange, trees_of}
use Rattle.ice_best.specs.Nets.{AreAtMostTrillion}
use Rattle.ice_tree.specs.Alike.{HasWeightPerNode}
use Rattle.ice_row_laws.specs.Laws.{AreSatisfied}

pub record ProvisionalTrade : Type 0 where
  pub trees : List Tree
  pub weights : List Weights
  pub sets : Assignment
  pub goods : ℕ
  pub cap : ℤ

-- no weight of any bidder is larger than 1,000,000,000,000 in size
abbrev pub AreModest : List Weights → Type 0
AreModest ws = (b : ℕ) → b < length ws → AreAtMostTrillion (weights_of ws b)

-- 1 to 40 bidders with a satisfied set and a modest weight of each of at
-- most 200 nodes, 1 to 32 goods, and a cap from 0 to 1,000,000,000
pub record IsProvisional (t : ProvisionalTrade) : Type 0 where
  pub bidders : (1 ≤ length t.trees) × (length t.trees ≤ 40)
  pub goods_count : (1 ≤ t.goods) × (t.goods ≤ 32)
  pub cap_low : pos 0 ≤ℤ t.cap
  pub cap_high : t.cap ≤ℤ pos 1000000000
  pub count : length t.sets ≡ length t.trees
  pub satisfied : AreSatisfied t.trees t.sets
  pub nodes : HasWeightPerNode t.trees t.weights
  pub modest : AreModest t.weights
  pub limited : (b : ℕ) → b < length t.trees → length (tree_of t.trees b) ≤ 200

-- the sets of an exchange's bidders, at weights of their nodes
abbrev pub provisional_of : Exchange → List Weights → Assignment → ProvisionalTrade
provisional_of ex ws sets = record { trees = trees_of ex; weights = ws; sets = sets; goods = length ex.goods; cap = ex.settings.cap }
