-- Fair prices that pass all tests.
use Rattle.std.specs.Prelude.{◌≡◌, length}
use Rattle.ice_pricing.specs.Priced.{IsLimited}
use Rattle.ice_fair_laws.specs.Fair.{PaidTrade, AreFair}
use Rattle.ice_fair.specs.Lasts.{LastTrade}
use Rattle.ice_fair_stage.specs.Certified.{IsFairLimited}
use Rattle.ice_fair.specs.Tested.{PassesFairTests}
use Rattle.ice_defs.specs.Rows.{Certificate}
use Rattle.ice_fair.specs.declared.answer.Fair.{Fair}
use Rattle.ice_fair_stage.specs.declared.ends.FairStageEnd.{FairStageEnd}
use Rattle.ice_fair.specs.declared.finding.Candidate.{Candidate}

abbrev pub PassesAll : PaidTrade → Fair → Type 0
PassesAll t f = PassesFairTests t f.prices f.delta f.accuracy f.distance f.certificate

-- the prices pass all tests and are fair; both certificates are limited
pub record IsFairFound (l : LastTrade) (f : Fair) : Type 0 where
  pub passes : PassesAll l.paid f
  pub fair : AreFair l.paid f.prices
  pub goods : length f.prices.nums ≡ l.paid.goods
  pub accuracy_limited : IsLimited f.accuracy
  pub certificate_limited : IsFairLimited (length l.paid.trees) f.certificate

abbrev pub fair_with : Candidate → Certificate → Fair
fair_with n accuracy = record {
  prices = n.prices;
  delta = n.delta;
  accuracy = accuracy;
  distance = n.distance;
  certificate = n.certificate;
}

-- with this certificate of accuracy they are such prices
abbrev pub IsFoundWith : LastTrade → Certificate → Candidate → Type 0
IsFoundWith l accuracy n = IsFairFound l (fair_with n accuracy)

-- the prices that a stage ends with
abbrev pub fair_at : FairStageEnd → Certificate → Fair
fair_at e accuracy = record {
  prices = e.prices;
  delta = e.violation;
  accuracy = accuracy;
  distance = e.distance;
  certificate = e.certificate;
}
