-- How a maker keeps its bidders.
use Rattle.std.specs.Prelude.{◌≤◌, ◌≡◌, List, length, vec_capacity}
use Rattle.ice_defs.specs.Exchange.{Bidder}
use Rattle.ice_defs.specs.Making.{node_count}
use Rattle.ice_trade.specs.declared.bidders.Bidders.TheInside.{Inside}
use Rattle.ice_trade.specs.Parts.{bidders_from}

abbrev pub bidders_of : Inside → List Bidder
bidders_of t = bidders_from t.names.items t.owned.items t.trees.items t.bounds.items

-- each list counts the bidders, and has room for 40
pub record AreBidders (t : Inside) : Type 0 where
  pub owned : length t.owned.items ≡ length t.names.items
  pub trees : length t.trees.items ≡ length t.names.items
  pub bounds : length t.bounds.items ≡ length t.names.items
  pub few : length t.names.items ≤ 40
  pub names_room : 40 ≤ vec_capacity t.names
  pub owned_room : 40 ≤ vec_capacity t.owned
  pub trees_room : 40 ≤ vec_capacity t.trees
  pub bounds_room : 40 ≤ vec_capacity t.bounds
  pub nodes : t.nodes ≡ node_count (bidders_of t)
  pub few_nodes : t.nodes ≤ 2000
