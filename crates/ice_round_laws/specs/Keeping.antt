-- Rounds leave bounds that are bounds of the bidders' trees, as a statement.
use Rattle.std.specs.Prelude.{◌≡◌, List, length, ℤ}
use Rattle.std.specs.List.{AllZip}
use Rattle.ice_defs.specs.Trade.{Assignment}
use Rattle.ice_defs.specs.Bounds.{Bounds}
use Rattle.ice_defs.specs.Prices.{Prices}
use Rattle.ice_defs.specs.Exchange.{Bidder}
use Rattle.ice_defs.specs.Lawful.{AreBounds}
use Rattle.ice_defs.specs.Round.{Judged, IsRound, next_bounds}
use Rattle.ice_defs.specs.Session.{standings_from}

-- each bidder has bounds, and they are bounds of its tree
abbrev pub HaveBounds : List Bidder → List Bounds → Type 0
HaveBounds bidders bounds = AllZip (λ bidder now. AreBounds (length bidder.tree) now) bidders bounds

-- a round leaves bounds of the same trees
abbrev pub RoundsKeepBounds : Type 0
RoundsKeepBounds = (p : Prices) (improve : ℤ) (judged : List Judged) (bidders : List Bidder) (bounds : List Bounds) (sets : Assignment)
    → length sets ≡ length bidders → HaveBounds bidders bounds → IsRound p improve (standings_from bidders bounds sets) judged
    → HaveBounds bidders (next_bounds (standings_from bidders bounds sets) judged)
