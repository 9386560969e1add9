-- A settlement whose final sets and regret are found, and what its further steps find.
use Rattle.std.specs.Prelude.{◌+◌, ◌≤◌, ◌≡◌, List, length, Some}
use Rattle.ice_defs.specs.Steps.{branch_count}
use Rattle.ice_defs.specs.Exchange.{trees_of}
use Rattle.ice_defs.specs.Weighing.{weighted_weights}
use Rattle.ice_search.specs.Results.{IsFoundBy}
use Rattle.ice_search.specs.declared.results.Found.{Found}
use Rattle.ice_search.specs.declared.results.SearchEnd as ends
use Rattle.ice_regret.specs.declared.lead.Regret.{Regret}
use Rattle.ice_pricing.specs.Provisional.{ProvisionalTrade, provisional_of}
use Rattle.ice_price.specs.declared.ends.PriceEnd.{PriceEnd}
use Rattle.ice_price.specs.declared.ends.PriceEnd.TheVariants as price
use Rattle.ice_vickrey.specs.Marginals.{AreMarginalsFrom}
use Rattle.ice_vickrey.specs.declared.marginal.Marginal.{Marginal}
use Rattle.ice_settled.specs.declared.settled.Closing.{Closing}
use Rattle.ice_settled.specs.declared.settled.Opening.{Opening}
use Rattle.ice_round.specs.SessionAt.{SessionAt, IsSessionAt}
use Rattle.ice_round.specs.Searches.{economy_of, provisional_search, settlement_branches, IsSettlementOf}
use Rattle.ice_round.specs.Ends.{IsStoppedAt, IsLimitAt}
use Rattle.ice_round.specs.declared.offer.Offer.{Offer}

-- the session before the settlement, the final sets, their regret, and what the market is worth
-- without the first bidders
pub record SettlingAt : Type 0 where
  pub session : SessionAt
  pub best : Found
  pub regret : Regret
  pub done : List Marginal

-- all of it is right
pub record IsSettling (x : SettlingAt) : Type 0 where
  pub session : IsSessionAt x.session
  pub settlement : IsSettlementOf x.session x.best x.regret
  pub few : length x.done ≤ length (trees_of x.session.exchange)
  pub each : AreMarginalsFrom (economy_of x.session x.best) 0 x.done

-- a search that came next ended early
abbrev pub IsStoppedBehind : SettlingAt → ends.SearchEnd → Type 0
IsStoppedBehind x end = IsStoppedAt x.session (Some x.best) (Some x.regret) x.done end

-- the settlement that closes the session is made of what was found
pub record IsChargedFor (x : SettlingAt) (c : Closing) : Type 0 where
  pub best : c.best ≡ x.best
  pub regret : c.regret ≡ x.regret
  pub marginals : c.marginals.items ≡ x.done

-- the provisional sets, and the branches that their search left
pub record IsOfferOf (x : SettlingAt) (o : Offer) : Type 0 where
  pub found : IsFoundBy (provisional_search x.session) o.provisional
  pub branches : o.left + (settlement_branches x.best x.regret + branch_count o.provisional.log) ≡ x.session.branches

-- the sets for which prices are sought
abbrev pub offered_trade : SettlingAt → Offer → ProvisionalTrade
offered_trade x o =
    provisional_of x.session.exchange (weighted_weights x.session.exchange.settings.weight x.session.bounds) o.provisional.best

-- the pricing ended early
abbrev pub IsUnpriced : SettlingAt → Offer → PriceEnd → Type 0
IsUnpriced x o (price.Limit limit) = IsLimitAt x.session (Some x.best) (Some x.regret) (Some o.provisional) x.done limit
IsUnpriced x o price.NoMemory = Unit {0}

-- the settlement that opens a round is made of what was found
pub record IsOpenedBy (x : SettlingAt) (o : Offer) (opening : Opening) : Type 0 where
  pub best : opening.best ≡ x.best
  pub regret : opening.regret ≡ x.regret
  pub provisional : opening.provisional ≡ o.provisional
