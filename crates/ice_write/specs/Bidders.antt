-- The records of one bidder.
use Rattle.std.specs.Prelude.{ℕ, [], slice_index_or}
use Rattle.ice_defs.specs.Tree.{Tree}
use Rattle.ice_defs.specs.Bounds.{Bounds, no_bounds}
use Rattle.ice_defs.specs.Exchange.{Bidder, Exchange}

abbrev pub no_bidder : Bidder
no_bidder = record { name = []; own = []; tree = []; bounds = no_bounds }

-- a bidder of whom only the tree and the bounds are said
abbrev pub with_tree : Tree → Bounds → Bidder
with_tree tree bounds = record no_bidder { tree = tree; bounds = bounds }

abbrev pub bidder_of : Exchange → ℕ → Bidder
bidder_of ex b = slice_index_or ex.bidders b no_bidder
