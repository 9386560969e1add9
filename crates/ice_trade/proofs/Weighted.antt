-- The bounds of an exchange's bidders, and weights of 0 for them; how
-- many goods and bidders its lists have.
use Rattle.std.proofs.Common.{◌≡◌, ◌∙◌, ap, sym, ℕ, suc, zero, ◌<◌, List, [], ◌∷◌, length, map, replicate, pos, arith}
use Rattle.std.proofs.lemmas.List.{get_or-map, length-map, length-replicate}
use Rattle.std.specs.List.{AllByRecursion}
use Rattle.ice_defs.specs.Tree.{Tree}
use Rattle.ice_defs.specs.Trade.{tree_of}
use Rattle.ice_defs.specs.Bounds.{bounds_of}
use Rattle.ice_defs.specs.Exchange.{Good, Bidder, Exchange, trees_of, exact_of, names_of, opening_bounds}
use Rattle.ice_defs.specs.Lawful.{AreBounds, IsBidder, IsExchange}
use Rattle.ice_tree.specs.Alike.{AreAlike}

tree_bounds : (goods : ℕ) (bidders : List Bidder) (b : ℕ) → AllByRecursion (IsBidder goods) bidders → b < length bidders
    → AreBounds (length (tree_of (map (λ x. x.tree) bidders) b)) (bounds_of (map (λ x. x.bounds) bidders) b)
tree_bounds goods [] b all h = absurd (omega arith)
tree_bounds goods (x ∷ bidders) zero all h = all.0.bounds
tree_bounds goods (x ∷ bidders) (suc b) all h = tree_bounds goods bidders b all.1 (omega arith)

pub bidder_bounds : (ex : Exchange) (b : ℕ) → IsExchange ex → b < length ex.bidders → AreBounds (length (tree_of (trees_of ex) b)) (bounds_of (opening_bounds ex) b)
bidder_bounds ex b is h = tree_bounds (length ex.goods) ex.bidders b is.bidders h

pub length-trees : (ex : Exchange) → length (trees_of ex) ≡ length ex.bidders
length-trees ex = length-map ex.bidders (λ (x : Bidder). x.tree)

pub length-exact : (ex : Exchange) → length (exact_of ex) ≡ length ex.goods
length-exact ex = length-map ex.goods (λ (x : Good). x.exact)

pub length-bounds : (ex : Exchange) → length (opening_bounds ex) ≡ length ex.bidders
length-bounds ex = length-map ex.bidders (λ (x : Bidder). x.bounds)

pub length-names : (ex : Exchange) → length (names_of ex) ≡ length ex.bidders
length-names ex = length-map ex.bidders (λ (x : Bidder). x.name)

-- weights of 0 are alike to the bounds
pub zero-alike : (ex : Exchange) → IsExchange ex → AreAlike (map (λ t. replicate (length t) (pos 0)) (trees_of ex)) (opening_bounds ex)
zero-alike ex is = record {
  count = length-map (trees_of ex) (λ (t : Tree). replicate (length t) (pos 0)) ∙ length-trees ex ∙ sym (length-bounds ex);
  nodes = λ b h.
      let l : b < length ex.bidders = omega (arith, length-bounds ex, h) in
      let m : b < length (trees_of ex) = omega (arith, length-trees ex, l) in
      ap length (get_or-map (λ (t : Tree). replicate (length t) (pos 0)) (trees_of ex) b [] [] m)
      ∙ length-replicate (length (tree_of (trees_of ex) b)) (pos 0) ∙ sym (bidder_bounds ex b is l).lo_count;
}
