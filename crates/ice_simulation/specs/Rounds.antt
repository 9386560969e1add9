-- The bids of proxies in a round.
use Rattle.std.specs.Prelude.{ℕ, ◌<◌, ◌≡◌, List, [], ◌∷◌, length, map, slice_index_or, ℤ}
use Rattle.ice_defs.specs.Set.{IsSatisfied}
use Rattle.ice_defs.specs.Lawful.{AreBounds}
use Rattle.ice_defs.specs.Prices.{Prices}
use Rattle.ice_defs.specs.Round.{Judged, Standing, Submission}
use Rattle.ice_defs.specs.Trade.{tree_of, set_of}
use Rattle.ice_defs.specs.Bounds.{bounds_of}
use Rattle.ice_defs.specs.Exchange.{trees_of, names_of}
use Rattle.ice_defs.specs.Session.{standings}
use Rattle.ice_round.specs.SessionAt.{RoundAt}
use Rattle.ice_proxy.specs.Proposals.{IsProxyBid}

-- one of each bidder in order
abbrev pub AreProxyBids : Prices → ℤ → List Standing → List (List ℤ) → List Submission → Type 0
AreProxyBids p improve [] truths [] = Unit {0}
AreProxyBids p improve (b ∷ bidders) (truth ∷ truths) (s ∷ bids) = IsProxyBid p improve b truth s
    × AreProxyBids p improve bidders truths bids
AreProxyBids p improve bidders truths bids = ⊥

-- in a round that stands so
abbrev pub AreProxyBidsIn : RoundAt → List (List ℤ) → List Submission → Type 0
AreProxyBidsIn r truths bids =
    AreProxyBids r.round.prices r.exchange.settings.improve (standings r.exchange r.round.bounds r.round.sets) truths bids

abbrev pub submissions_in : List Judged → List Submission
submissions_in judged = map (λ j. j.submission) judged

-- of each bidder of the exchange there are bounds of its tree and a satisfied set
pub record Stands (r : RoundAt) : Type 0 where
  pub bounds_count : length r.round.bounds ≡ length r.exchange.bidders
  pub bounds : (b : ℕ) → b < length r.exchange.bidders → AreBounds (length (tree_of (trees_of r.exchange) b)) (bounds_of r.round.bounds b)
  pub sets_count : length r.round.sets ≡ length r.exchange.bidders
  pub satisfied : (b : ℕ) → b < length r.exchange.bidders → IsSatisfied (tree_of (trees_of r.exchange) b) (set_of r.round.sets b)

-- this bidder's
abbrev pub standing_in : RoundAt → ℕ → Standing
standing_in r b =
    record {
      name = slice_index_or (names_of r.exchange) b [];
      tree = tree_of (trees_of r.exchange) b;
      bounds = bounds_of r.round.bounds b;
      set = set_of r.round.sets b;
    }

abbrev pub IsProxyBidOf : RoundAt → List (List ℤ) → ℕ → Submission → Type 0
IsProxyBidOf r truths b s = IsProxyBid r.round.prices r.exchange.settings.improve (standing_in r b) (slice_index_or truths b []) s
