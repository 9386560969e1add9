-- Weighted values at bounds of an exchange's bidders: one for each node, and modest.
use Rattle.std.proofs.Common.{zero, suc, ◌∷◌, ◌≡◌, ◌∙◌, ap, sym, subst, ℕ, ◌<◌, ◌≤◌, length, map, replicate, pos, List, [], arith}
use Rattle.std.proofs.lemmas.List.{get_or-map, length-map, length-replicate}
use Rattle.ice_defs.specs.Tree.{Tree}
use Rattle.ice_defs.specs.Trade.{tree_of}
use Rattle.ice_defs.specs.Bounds.{Bounds, bounds_of}
use Rattle.std.specs.List.{AllByRecursion}
use Rattle.ice_defs.specs.Exchange.{Bidder, Exchange, trees_of, opening_bounds}
use Rattle.ice_defs.specs.Lawful.{IsBidder, IsExchange}
use Rattle.ice_defs.specs.Weighing.{weighted_list, weighted_weights}
use Rattle.ice_best.specs.Nets.{AreAtMostTrillion}
use Rattle.ice_best_at_prices.proofs.Modest.{weighted-modest}
use Rattle.ice_trade.proofs.Weighted.{length-trees, length-bounds, bidder_bounds}
use Rattle.ice_tree.proofs.Filling.{weights_of-weighted, length-weighted_list}
use Rattle.ice_tree.specs.Alike.{AreAlike, HasWeightPerNode}
use Rattle.ice_pricing.specs.Bounding.{AreBoundsOf}
use Rattle.ice_pricing.specs.Provisional.{AreModest}

-- an exchange's opening bounds are bounds of its bidders
pub opening-are : (ex : Exchange) → IsExchange ex → AreBoundsOf ex (opening_bounds ex)
opening-are ex is = record { count = length-bounds ex; each = λ b h. bidder_bounds ex b is (omega (arith, length-bounds ex, h)) }

-- weights of 0 are alike to the bounds
pub zeros-alike : (ex : Exchange) (bounds : List Bounds) → AreBoundsOf ex bounds → AreAlike (map (λ t. replicate (length t) (pos 0)) (trees_of ex)) bounds
zeros-alike ex bounds are = record {
  count = length-map (trees_of ex) (λ (t : Tree). replicate (length t) (pos 0)) ∙ length-trees ex ∙ sym are.count;
  nodes = λ b h.
      let there : b < length (trees_of ex) = omega (arith, length-trees ex, are.count, h) in
      ap length (get_or-map (λ (t : Tree). replicate (length t) (pos 0)) (trees_of ex) b [] [] there)
      ∙ length-replicate (length (tree_of (trees_of ex) b)) (pos 0) ∙ sym (are.each b h).lo_count;
}

length-weighted : (weight : ℕ) (bounds : List Bounds) → length (weighted_weights weight bounds) ≡ length bounds
length-weighted weight bounds = length-map bounds (λ (b : Bounds). weighted_list weight b.lo b.hi)

pub weighted-nodes : (ex : Exchange) (bounds : List Bounds) (weight : ℕ) → AreBoundsOf ex bounds → HasWeightPerNode (trees_of ex) (weighted_weights weight bounds)
weighted-nodes ex bounds weight are = record {
  count = length-weighted weight bounds ∙ are.count ∙ sym (length-trees ex);
  nodes = λ b h.
      let there : b < length bounds = omega (arith, length-trees ex, are.count, h) in
      let own = are.each b there in
      ap length (weights_of-weighted weight bounds b there)
      ∙ length-weighted_list weight (bounds_of bounds b).lo (bounds_of bounds b).hi (own.hi_count ∙ sym own.lo_count) ∙ own.lo_count;
}

pub weighted-each : (ex : Exchange) (bounds : List Bounds) (weight : ℕ) → weight ≤ 100 → AreBoundsOf ex bounds → AreModest (weighted_weights weight bounds)
weighted-each ex bounds weight few are b h =
    let there : b < length bounds = omega (arith, length-weighted weight bounds, h) in
    subst AreAtMostTrillion (sym (weights_of-weighted weight bounds b there)) (weighted-modest weight (length (tree_of (trees_of ex) b)) (bounds_of bounds b) few (are.each b there))

trees-limited : (goods : ℕ) (bidders : List Bidder) (b : ℕ) → AllByRecursion (IsBidder goods) bidders → b < length bidders → length (tree_of (map (λ x. x.tree) bidders) b) ≤ 200
trees-limited goods [] b all h = absurd (omega arith)
trees-limited goods (x ∷ bidders) zero all h = all.0.tree.count
trees-limited goods (x ∷ bidders) (suc b) all h = trees-limited goods bidders b all.1 (omega arith)

-- no tree of an exchange has more than 200 nodes
pub tree-limited : (ex : Exchange) (b : ℕ) → IsExchange ex → b < length (trees_of ex) → length (tree_of (trees_of ex) b) ≤ 200
tree-limited ex b is h = trees-limited (length ex.goods) ex.bidders b is.bidders (omega (arith, length-trees ex, h))
