-- What an offer knows of a state that it stands for.
use Rattle.std.proofs.Common.{◌≡◌, ℕ, List, length, ℤ, sym, ◌∙◌, ap, subst}
use Rattle.ice_defs.specs.Bounds.{Bounds}
use Rattle.ice_defs.specs.Trade.{Assignment}
use Rattle.ice_defs.specs.Prices.{Prices}
use Rattle.ice_defs.specs.Pricing.{IsViolation}
use Rattle.ice_defs.specs.Rows.{Row, PassesAccuracy, PassesBalance}
use Rattle.ice_defs.specs.Weighing.{weighted_weights}
use Rattle.ice_defs.specs.Exchange.{Exchange, trees_of, exact_of}
use Rattle.ice_trade.proofs.Weighted.{length-exact}
use Rattle.ice_journal.specs.Records.{Record}
use Rattle.ice_journal_laws.specs.State as tests
use Rattle.ice_journal_laws.specs.State.{State, exchange_at, trees_at, goods_at}
use Rattle.ice_journal_laws.specs.Next.{go_to}
use Rattle.ice_journal_laws.specs.Tests.{offered_weights, AccuracyHolds, BalanceHolds}
use Rattle.ice_journal_laws.specs.Progress.{Progress, TakesOn}
use Rattle.ice_check_offer.specs.declared.place.Place.{Place}
use Rattle.ice_check_offer.specs.declared.offer.Offer.{Offer}
use Rattle.ice_check_offer.specs.Offers.{IsAt, IsOfferOf}

-- ---- a state at its place

placed : (s : State) (p : tests.Place) → s.place ≡ p → go_to p s ≡ s
placed s p e = λ i. record s { place = sym e i }

pub from_place : (s : State) (p : tests.Place) (r : Record) (x : Progress) → s.place ≡ p → TakesOn (go_to p s) r x → TakesOn s r x
from_place s p r x e h = subst (λ (t : State). TakesOn t r x) (placed s p e) h

-- ---- what the tests look back at

record Terms : Type 0 where
  exchange : Exchange
  bounds : List Bounds
  offered : Assignment
  prices : Prices
  violation : ℤ

abbrev AreAccurate : ℕ → List Row → Terms → Type 0
AreAccurate den rows t =
    PassesAccuracy (trees_of t.exchange) (weighted_weights t.exchange.settings.weight t.bounds) t.offered (length (exact_of t.exchange)) t.exchange.settings.cap t.prices t.violation (record { den = den; rows = rows })

abbrev AreBalanced : ℕ → List Row → Terms → Type 0
AreBalanced den rows t =
    PassesBalance (trees_of t.exchange) (weighted_weights t.exchange.settings.weight t.bounds) t.offered (length (exact_of t.exchange)) t.prices t.violation (record { den = den; rows = rows })

abbrev Violates : ℤ → Terms → Type 0
Violates x t = IsViolation (trees_of t.exchange) (weighted_weights t.exchange.settings.weight t.bounds) t.offered t.prices x

module _ (ex : Exchange) (o : Offer) (s : State) (st : IsOfferOf ex o s) where
  pub at_now : (now : Place) → o.place ≡ now → IsAt ex o now s
  at_now now e = subst (λ (p : Place). IsAt ex o p s) e st.at

  pub goods_are : goods_at s ≡ length ex.goods
  goods_are = ap (λ (x : Exchange). length (exact_of x)) st.exchange ∙ length-exact ex

  pub trees_are : trees_at s ≡ trees_of ex
  trees_are = ap trees_of st.exchange

  module _ (prices : s.prices ≡ o.judge.prices) where
    pub violates : (x : ℤ) → IsViolation (trees_at s) (offered_weights s) s.offered s.prices x → IsViolation (trees_of ex) (weighted_weights ex.settings.weight o.judge.bounds) o.judge.sets o.judge.prices x
    violates x h = subst (Violates x) same h
      where
        same : (let t : Terms = record { exchange = exchange_at s; bounds = s.bounds; offered = s.offered; prices = s.prices; violation = x } in t) ≡ record { exchange = ex; bounds = o.judge.bounds; offered = o.judge.sets; prices = o.judge.prices; violation = x }
        same = λ i. record { exchange = st.exchange i; bounds = st.bounds i; offered = st.offered i; prices = prices i; violation = x }

    pub violated : (x : ℤ) → IsViolation (trees_of ex) (weighted_weights ex.settings.weight o.judge.bounds) o.judge.sets o.judge.prices x → IsViolation (trees_at s) (offered_weights s) s.offered s.prices x
    violated x h = subst (Violates x) same h
      where
        same : (let t : Terms = record { exchange = ex; bounds = o.judge.bounds; offered = o.judge.sets; prices = o.judge.prices; violation = x } in t) ≡ record { exchange = exchange_at s; bounds = s.bounds; offered = s.offered; prices = s.prices; violation = x }
        same = λ i. record { exchange = sym st.exchange i; bounds = sym st.bounds i; offered = sym st.offered i; prices = sym prices i; violation = x }

    module _ (violation : s.violation ≡ o.violation) (den : ℕ) (rows : List Row) where
      abbrev of_state : Terms
      of_state = record { exchange = exchange_at s; bounds = s.bounds; offered = s.offered; prices = s.prices; violation = s.violation }

      abbrev of_offer : Terms
      of_offer = record { exchange = ex; bounds = o.judge.bounds; offered = o.judge.sets; prices = o.judge.prices; violation = o.violation }

      same_terms : of_state ≡ of_offer
      same_terms = λ i. record { exchange = st.exchange i; bounds = st.bounds i; offered = st.offered i; prices = prices i; violation = violation i }

      abbrev Accurate : ℕ → Type 0
      Accurate goods = PassesAccuracy (trees_of ex) (weighted_weights ex.settings.weight o.judge.bounds) o.judge.sets goods ex.settings.cap o.judge.prices o.violation (record { den = den; rows = rows })

      abbrev Balanced : ℕ → Type 0
      Balanced goods = PassesBalance (trees_of ex) (weighted_weights ex.settings.weight o.judge.bounds) o.judge.sets goods o.judge.prices o.violation (record { den = den; rows = rows })

      pub accuracy_holds : PassesAccuracy (trees_of ex) (weighted_weights ex.settings.weight o.judge.bounds) o.judge.sets (length ex.goods) ex.settings.cap o.judge.prices o.violation (record { den = den; rows = rows }) → AccuracyHolds s den rows
      accuracy_holds h = subst (AreAccurate den rows) (sym same_terms) (subst Accurate (sym (length-exact ex)) h)

      pub holds_accuracy : AccuracyHolds s den rows → PassesAccuracy (trees_of ex) (weighted_weights ex.settings.weight o.judge.bounds) o.judge.sets (length ex.goods) ex.settings.cap o.judge.prices o.violation (record { den = den; rows = rows })
      holds_accuracy h = subst Accurate (length-exact ex) (subst (AreAccurate den rows) same_terms h)

      pub balance_holds : PassesBalance (trees_of ex) (weighted_weights ex.settings.weight o.judge.bounds) o.judge.sets (length ex.goods) o.judge.prices o.violation (record { den = den; rows = rows }) → BalanceHolds s den rows
      balance_holds h = subst (AreBalanced den rows) (sym same_terms) (subst Balanced (sym (length-exact ex)) h)

      pub holds_balance : BalanceHolds s den rows → PassesBalance (trees_of ex) (weighted_weights ex.settings.weight o.judge.bounds) o.judge.sets (length ex.goods) o.judge.prices o.violation (record { den = den; rows = rows })
      holds_balance h = subst Balanced (length-exact ex) (subst (AreBalanced den rows) same_terms h)
