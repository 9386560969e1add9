-- What an offer knows of the state of the tests.
use Rattle.std.specs.Prelude.{ℕ, ◌<◌, ◌≤◌, ◌^◌, ◌≡◌, Bool, true, false, List, [], ◌∷◌, ◌++◌, length, replicate, pos, ◌≤ℤ◌}
use Rattle.ice_defs.specs.declared.Verdict.{Verdict}
use Rattle.ice_defs.specs.Rows.{Row}
use Rattle.ice_defs.specs.Round.{Submission, IsNextVerdict}
use Rattle.ice_defs.specs.Exchange.{Exchange}
use Rattle.ice_defs.specs.Weighing.{weighted_weights}
use Rattle.ice_journal_laws.specs.State as tests
use Rattle.ice_journal_laws.specs.State.{State, exchange_at}
use Rattle.ice_journal_laws.specs.State.{at_prices, at_accuracy, at_accuracy_rows, at_balance_rows, at_round, at_verdict}
use Rattle.ice_pricing.specs.Provisional.{ProvisionalTrade, provisional_of}
use Rattle.ice_pricing.specs.Tallies.{IsTallyOf}
use Rattle.ice_verdicts.specs.Judges.{Round, IsRoundOf, bidders_in, IsAfter}
use Rattle.ice_check_offer.specs.declared.place.CertificateList.{CertificateList}
use Rattle.ice_check_offer.specs.declared.place.CertificateList.TheVariants as list
use Rattle.ice_check_offer.specs.declared.place.Place.{Place}
use Rattle.ice_check_offer.specs.declared.place.Place.TheVariants as place
use Rattle.ice_check_offer.specs.declared.offer.Offer.{Offer}
use Rattle.ice_check_offer.specs.declared.settlement.Settlement.{Settlement}

-- the provisional trade at the weighted values of the bounds
abbrev pub trade_of : Exchange → Offer → ProvisionalTrade
trade_of ex o = provisional_of ex (weighted_weights ex.settings.weight o.judge.bounds) o.judge.sets

abbrev pub rows_place : CertificateList → ℕ → List Row → tests.Place
rows_place list.Accuracy den rows = at_accuracy_rows den rows
rows_place list.Balance den rows = at_balance_rows den rows

-- these rows of the list have come
pub record HasRows (ex : Exchange) (o : Offer) (of : CertificateList) (s : State) : Type 0 where
  pub rows : List Row
  pub place : s.place ≡ rows_place of o.den rows
  pub tallied : IsTallyOf (trade_of ex o) rows o.tally

-- a submission has come, and this verdict is due
pub record Awaits (ex : Exchange) (o : Offer) (due : Verdict) (s : State) : Type 0 where
  pub submission : Submission
  pub place : s.place ≡ at_verdict submission
  pub next : IsNextVerdict o.judge.prices ex.settings.improve (bidders_in ex o.judge) s.judged submission due
  pub after : IsAfter ex (s.judged ++ record { submission = submission; verdict = due } ∷ []) o.judge

abbrev pub IsAt : Exchange → Offer → Place → State → Type 0
IsAt ex o place.Prices s = (s.place ≡ at_prices) × IsAfter ex s.judged o.judge
IsAt ex o place.Accuracy s = (s.place ≡ at_accuracy) × (s.prices ≡ o.judge.prices) × IsAfter ex s.judged o.judge
IsAt ex o (place.Rows of) s = HasRows ex o of s × (s.prices ≡ o.judge.prices) × (s.violation ≡ o.violation) × IsAfter ex s.judged o.judge
IsAt ex o place.Round s = (s.place ≡ at_round) × (s.prices ≡ o.judge.prices) × IsAfter ex s.judged o.judge
IsAt ex o (place.Verdict due) s = Awaits ex o due s × (s.prices ≡ o.judge.prices)

-- the offer stands for this state, whatever its line
pub record IsOfferOf (ex : Exchange) (o : Offer) (s : State) : Type 0 where
  pub exchange : exchange_at s ≡ ex
  pub bounds : s.bounds ≡ o.judge.bounds
  pub offered : s.offered ≡ o.judge.sets
  pub at : IsAt ex o o.place s

-- the prices come next
abbrev pub are_prices_next : Place → Bool
are_prices_next place.Prices = true
are_prices_next other = false

-- what is kept
pub record IsKept (ex : Exchange) (o : Offer) : Type 0 where
  pub round : IsRoundOf ex o.judge
  pub low : pos 0 ≤ℤ o.violation
  pub high : o.violation ≤ℤ pos (2 ^ 100)
  pub den : 0 < o.den
  pub den_fits : o.den ≤ 2 ^ 32

-- no submission of this settlement was accepted
pub record IsFresh (ex : Exchange) (r : Round) : Type 0 where
  pub next : r.next ≡ r.bounds
  pub marks : r.marks ≡ replicate (length ex.bidders) false

-- the offer of the settlement is kept, and this comes next in it
pub record StandsAt (at : Settlement) (p : Place) (o : Offer) : Type 0 where
  pub place : o.place ≡ p
  pub kept : IsKept at.exchange.now o
  pub weights : at.weights.now ≡ weighted_weights at.exchange.now.settings.weight o.judge.bounds
