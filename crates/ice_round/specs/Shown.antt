-- Settlements that are right: one that closes, and one that goes on.
use Rattle.std.specs.Prelude.{◌+◌, ◌≤◌, ◌≡◌, false, IsTrue, [], map}
use Rattle.ice_defs.specs.Steps.{branch_count}
use Rattle.ice_defs.specs.Weighing.{weighted_weights}
use Rattle.ice_defs.specs.Session.{closes}
use Rattle.ice_headline_laws.specs.Right.{IsClosed, IsGoing}
use Rattle.ice_search.specs.Results.{IsFoundBy}
use Rattle.ice_threshold.specs.CutOff.{AreCutDown}
use Rattle.ice_threshold.specs.Limits.{AreShort}
use Rattle.ice_pricing.specs.Provisional.{ProvisionalTrade, provisional_of}
use Rattle.ice_price.specs.Ends.{IsPriced}
use Rattle.ice_vickrey.specs.Marginals.{AreMarginals, branches_of}
use Rattle.ice_settled.specs.Shown.{closed_of, going_of}
use Rattle.ice_settled.specs.declared.settled.Closing.{Closing}
use Rattle.ice_settled.specs.declared.settled.Opening.{Opening}
use Rattle.ice_verdicts.specs.Judges.{IsAfter}
use Rattle.ice_round.specs.SessionAt.{SessionAt, RoundAt}
use Rattle.ice_round.specs.Searches.{economy_of, provisional_search, settlement_branches, IsSettlementOf}

-- ---- a settlement that closes

-- the last settlement, closed by the close test: all is right, each log passes and is earned, and
-- the fractions are short
pub record IsClosing (s : SessionAt) (c : Closing) : Type 0 where
  pub exchange : c.exchange ≡ s.exchange
  pub bounds : c.bounds.items ≡ s.bounds
  pub number : c.number ≡ s.number
  pub closes : IsTrue (closes s.exchange.settings s.number c.regret.amount)
  pub settlement : IsSettlementOf s c.best c.regret
  pub marginals : AreMarginals (economy_of s c.best) c.marginals.items
  pub closed : IsClosed s.exchange s.bounds (closed_of s.exchange c)
  pub cut_down : AreCutDown c.payments.cut c.payments.discounts.items (map (λ m. m.discount) c.marginals.items)
  pub short : AreShort c.payments.cut c.payments.surplus c.payments.discounts.items c.payments.payments.items
  pub branches : settlement_branches c.best c.regret + branches_of c.marginals.items ≤ s.branches

-- ---- a settlement that goes on

-- the provisional sets at weighted values, for which prices are sought
abbrev pub priced_trade : SessionAt → Opening → ProvisionalTrade
priced_trade s o = provisional_of s.exchange (weighted_weights s.exchange.settings.weight s.bounds) o.provisional.best

-- the close test fails; all is right, each log passes and is earned, the certificates pass, and the
-- round begins with what is left
pub record IsOpening (s : SessionAt) (r : RoundAt) (o : Opening) : Type 0 where
  pub number : o.number ≡ s.number
  pub goes_on : closes s.exchange.settings s.number o.regret.amount ≡ false
  pub settlement : IsSettlementOf s o.best o.regret
  pub provisional : IsFoundBy (provisional_search s) o.provisional
  pub pricing : IsPriced (priced_trade s o) o.pricing
  pub going : IsGoing s.exchange s.bounds (going_of o [])
  pub exchange : r.exchange ≡ s.exchange
  pub same_number : r.number ≡ s.number
  pub bounds : r.round.bounds ≡ s.bounds
  pub sets : r.round.sets ≡ o.provisional.best
  pub prices : r.round.prices ≡ o.pricing.prices
  pub begins : IsAfter s.exchange [] r.round
  pub branches : r.branches + (settlement_branches o.best o.regret + branch_count o.provisional.log) ≡ s.branches
