-- How the readers of trees follow the definitions.
use Rattle.std.specs.Prelude.{ℕ, ◌-◌, ◌<◌, ◌≤◌, ◌≡◌, false, List, [], length, codes}
use Rattle.serde_json.specs.Data.{Data}
use Rattle.ice_defs.specs.declared.NodeKind.{NodeKind}
use Rattle.ice_defs.specs.declared.NodeKind.TheVariants as kind
use Rattle.ice_defs.specs.Making.{TreeDraft, innermost, is_complete}
use Rattle.ice_defs.specs.Tree.{children_of}
use Rattle.ice_defs.specs.FileFault.{Path, Read, ◌>>=◌}
use Rattle.ice_defs.specs.Exchange.{Good, Bidder, Exchange}
use Rattle.ice_defs.specs.Lawful.{good_names}
use Rattle.ice_read.specs.ExchangeFile.{good_value, add_good, bidder_at, add_bidder}
use Rattle.ice_read.specs.declared.leaf.Side.{Side}
use Rattle.ice_read.specs.declared.leaf.Side.TheVariants.{Buy, Sell}
use Rattle.ice_read.specs.TreeFile.{Draft, Opened, leaf_at, opened_at, node_at}

abbrev pub side_word : Side → List ℕ
side_word Buy = codes "buy"
side_word Sell = codes "sell"

abbrev pub side_kind : Side → ℕ → ℕ → NodeKind
side_kind Buy = kind.Buy
side_kind Sell = kind.Sell

-- what a maker of a tree has taken
abbrev pub made_so_far : TreeDraft → Draft
made_so_far d = record { tree = d.tree; bounds = d.bounds }

-- the levels that are left below the open nodes
abbrev pub levels_below : TreeDraft → ℕ
levels_below d = 16 - length d.opened

-- what is read below the innermost open node
abbrev pub leaf_below : List (List ℕ) → TreeDraft → Side → Path → Data → Read Draft
leaf_below goods d side path = leaf_at goods (levels_below d) (innermost d.opened) path (made_so_far d) (side_word side) (side_kind side)

abbrev pub opened_below : List (List ℕ) → TreeDraft → Path → Data → Read Opened
opened_below goods d path = opened_at goods (levels_below d) (innermost d.opened) path (made_so_far d)

abbrev pub node_below : List (List ℕ) → TreeDraft → Path → Data → Read Draft
node_below goods d path = node_at goods (levels_below d) (innermost d.opened) path (made_so_far d)

-- a tree that another node may come to, and in which no
-- node is told to be under one that isn't there
pub record IsWaiting (d : TreeDraft) : Type 0 where
  pub going : is_complete d ≡ false
  pub deep : length d.opened ≤ 16
  pub under : 0 < length d.tree → innermost d.opened < length d.tree
  pub childless : (n : ℕ) → length d.tree ≤ n → children_of d.tree n ≡ []

-- what an exchange that is being made has with one good more, or one bidder more
abbrev pub goods_with : Exchange → Path → Data → Read (List Good)
goods_with ex path d = good_value path d >>= λ good. add_good path ex.goods good

abbrev pub bidders_with : Exchange → Path → Data → Read (List Bidder)
bidders_with ex path d = bidder_at (good_names ex) path d >>= λ b. add_bidder path (length (good_names ex)) ex.bidders b
