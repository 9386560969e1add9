-- How a flat exchange is kept: its settings and goods in a maker of
-- exchanges that has no bidder, and its bidders apart.
use Rattle.std.specs.Prelude.{◌≡◌, List, []}
use Rattle.ice_defs.specs.Exchange.{Exchange}
use Rattle.ice_xor.specs.FlatBids.{FlatBidder, FlatExchange}
use Rattle.ice_xor.specs.Lawful.{IsFlatExchange}

abbrev pub flat_kept : Exchange → List FlatBidder → FlatExchange
flat_kept ex bidders = record { settings = ex.settings; goods = ex.goods; bidders = bidders }

pub record IsFlatKept (ex : Exchange) (bidders : List FlatBidder) : Type 0 where
  pub none : ex.bidders ≡ []
  pub lawful : IsFlatExchange (flat_kept ex bidders)
