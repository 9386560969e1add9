-- Live sides, and the opening bounds of an exchange.
use Rattle.std.proofs.Common.{ℕ, zero, suc, ◌<◌, List, [], ◌∷◌, length, map, sym, ◌∙◌, arith}
use Rattle.std.specs.List.{AllByRecursion}
use Rattle.std.proofs.lemmas.List.{length-map}
use Rattle.ice_defs.specs.Tree.{Tree}
use Rattle.ice_defs.specs.Bound.{IsDead}
use Rattle.ice_defs.specs.Bounds.{bounds_of}
use Rattle.ice_defs.specs.Exchange.{Exchange, Bidder, trees_of, opening_bounds}
use Rattle.ice_defs.specs.Lawful.{AreBounds, IsBidder, IsExchange}
use Rattle.ice_defs.specs.Steps.{Side}
use Rattle.ice_defs.specs.Sweep.{IsLive}
use Rattle.ice_defs.specs.Trade.{tree_of}
use Rattle.ice_defs.specs.Conditions.{AreBoundsOf}

-- no bidder of a live side is dead
pub live_not_dead : (ts : List Tree) (side : Side) (b : ℕ) → IsLive ts side → b < length ts → ¬ IsDead ts side b
live_not_dead ts side b live h dead = let (s, open_set) = live b h in dead s open_set

each_bounds : (goods : ℕ) (bidders : List Bidder) → AllByRecursion (IsBidder goods) bidders → (b : ℕ) → b < length (map (λ x. x.tree) bidders)
    → AreBounds (length (tree_of (map (λ x. x.tree) bidders) b)) (bounds_of (map (λ x. x.bounds) bidders) b)
each_bounds goods [] are b there = absurd (omega arith)
each_bounds goods (x ∷ bidders) are zero there = are.0.bounds
each_bounds goods (x ∷ bidders) are (suc b) there = each_bounds goods bidders are.1 b (omega arith)

-- the opening bounds of an exchange are bounds of its trees
pub opening_are_bounds : (ex : Exchange) → IsExchange ex → AreBoundsOf (trees_of ex) (opening_bounds ex)
opening_are_bounds ex lawful = record {
  same_length = length-map ex.bidders (λ (b : Bidder). b.bounds) ∙ sym (length-map ex.bidders (λ (b : Bidder). b.tree));
  each = each_bounds (length ex.goods) ex.bidders lawful.bidders;
}
