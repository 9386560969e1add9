-- What the makers refuse of the trees of flat bids, in preorder, and then of the bidder.
use Rattle.std.specs.Prelude.{ℕ, suc, ◌==◌, if◌then◌else◌, List, [], ◌∷◌, ◌++◌, length, ℤ, Option, Some, None}
use Rattle.ice_defs.specs.Tree.{Tree}
use Rattle.ice_defs.specs.Exchange.{Bidder}
use Rattle.ice_defs.specs.Making.{node_refusal, bidder_refusal}
use Rattle.ice_xor.specs.FlatBids.{FlatBidder, FlatExchange, flat_tree, flat_bounds, translated_bidder}

-- the root has depth 1, a package 2 and a leaf 3
abbrev pub depth_of : ℕ → ℕ → ℕ
depth_of number parent = if number == 0 then 1 else if parent == 0 then 2 else 3

abbrev pub or_later : Option ℕ → Option ℕ → Option ℕ
or_later (Some fault) later = Some fault
or_later None later = later

-- the first refusal of these nodes, of which the first has this number
abbrev pub nodes_refusal : ℕ → ℕ → Tree → List ℤ → List ℤ → Option ℕ
nodes_refusal goods number [] los his = None
nodes_refusal goods number (n ∷ t) [] his = None
nodes_refusal goods number (n ∷ t) (lo ∷ los) [] = None
nodes_refusal goods number (n ∷ t) (lo ∷ los) (hi ∷ his) =
    or_later (node_refusal goods number (depth_of number n.parent) n.kind lo hi)
    (nodes_refusal goods (suc number) t los his)

abbrev pub tree_refusal : ℕ → FlatBidder → Option ℕ
tree_refusal goods b = nodes_refusal goods 0 (flat_tree b) (flat_bounds b).lo (flat_bounds b).hi

pub record Refusal : Type 0 where
  pub bidder : ℕ
  pub fault : ℕ

abbrev pub refusal_of : ℕ → Option ℕ → Option Refusal → Option Refusal
refusal_of b (Some fault) later = Some (record { bidder = b; fault = fault })
refusal_of b None later = later

-- the first refusal of a maker, the bidders being made in order
abbrev pub refusal_from : ℕ → ℕ → List Bidder → List FlatBidder → Option Refusal
refusal_from goods b made [] = None
refusal_from goods b made (f ∷ later) =
    refusal_of b (or_later (tree_refusal goods f) (bidder_refusal goods made (translated_bidder f)))
    (refusal_from goods (suc b) (made ++ translated_bidder f ∷ []) later)

abbrev pub translate_refusal : FlatExchange → Option Refusal
translate_refusal flat = refusal_from (length flat.goods) 0 [] flat.bidders
