-- A settlement that goes on is shown and earned, and may be written.
use Rattle.std.proofs.Common.{◌≡◌, ◌≤◌, ℕ, List, [], length, arith, sym, subst, refl}
use Rattle.std.proofs.lemmas.List.{length-map}
use Rattle.ice_defs.specs.Set.{Weights}
use Rattle.ice_defs.specs.Weighing.{weighted_weights}
use Rattle.ice_defs.specs.Sweep.{EarnsStep}
use Rattle.ice_defs.specs.declared.Group.TheVariants.{Provisional}
use Rattle.ice_defs.specs.Group.{empty_sets}
use Rattle.ice_defs.specs.Rows.{PassesAccuracy, PassesBalance}
use Rattle.ice_defs.specs.Prices.{ArePrices}
use Rattle.ice_defs.specs.Round.{Judged}
use Rattle.ice_defs.specs.Exchange.{Good, trees_of, exact_of}
use Rattle.ice_defs.specs.Lawful.{IsExchange}
use Rattle.ice_defs.specs.Session.{standings}
use Rattle.ice_terms.specs.Terms.{ArePriceTerms}
use Rattle.ice_defs.specs.Conditions.{AreBoundsOf, AreWeightsOf}
use Rattle.ice_bound.proofs.Modest.{weighted_modest}
use Rattle.ice_search.specs.Results.{proved_found}
use Rattle.ice_pricing.specs.Provisional.{IsProvisional}
use Rattle.ice_journal_laws.specs.Showing.{IsShown}
use Rattle.ice_journal_laws.specs.ShowingSession.{AreShownVerdicts, IsShownPricing, IsShownGoing}
use Rattle.ice_journal_laws.specs.Earning.{EarnsGoing}
use Rattle.ice_round.specs.SessionAt.{SessionAt, RoundAt}
use Rattle.ice_settled.specs.Shown.{going_of}
use Rattle.ice_round.specs.Shown.{priced_trade, IsOpening}
use Rattle.ice_settled.specs.declared.settled.Opening.{Opening}
use Rattle.ice_write_session.specs.Writable.{IsWritable, IsWritableOpening}
use Rattle.ice_session_laws.proofs.Worth.{worth_is_total}
use Rattle.ice_session_laws.proofs.Found.{found_shown, found_earned, found_worth, found_writable}
use Rattle.ice_session_laws.proofs.Settling.{settlement_shown, settlement_earned, settlement_may_be_written}
use Rattle.ice_session_laws.proofs.Violations.{provisional_is, violation_may_be_written, certificate_may_be_written}

module _ (s : SessionAt) (lawful : IsExchange s.exchange) (are : AreBoundsOf (trees_of s.exchange) s.bounds) (r : RoundAt) (o : Opening) (is : IsOpening s r o) where
  abbrev weights : List Weights
  weights = weighted_weights s.exchange.settings.weight s.bounds

  weighted_are : AreWeightsOf (trees_of s.exchange) (weighted_weights s.exchange.settings.weight s.bounds)
  weighted_are = weighted_modest s.exchange.settings.weight (trees_of s.exchange) s.bounds lawful.settings.weight are

  provisional_shown : IsShown (trees_of s.exchange) (exact_of s.exchange) (weighted_weights s.exchange.settings.weight s.bounds) Provisional (proved_found o.provisional)
  provisional_shown = found_shown s.exchange lawful weights weighted_are (empty_sets (trees_of s.exchange)) Provisional (proved_found o.provisional) is.provisional.found is.provisional.written tt

  goods_same : length s.exchange.goods ≡ length (exact_of s.exchange)
  goods_same = sym (length-map s.exchange.goods (λ (g : Good). g.exact))

  prices_are : ArePrices (length (exact_of s.exchange)) s.exchange.settings.cap o.pricing.prices
  prices_are = subst (λ (n : ℕ). ArePrices n s.exchange.settings.cap o.pricing.prices) goods_same is.pricing.passes.within

  pricing_shown : (judged : List Judged) → IsShownPricing (trees_of s.exchange) (weighted_weights s.exchange.settings.weight s.bounds) (length (exact_of s.exchange)) s.exchange.settings.cap (going_of o judged)
  pricing_shown judged = record {
    prices = record { count = prices_are.same_length; high = prices_are.high; lowest = is.pricing.passes.lowest };
    violation = is.pricing.passes.violates;
    accuracy = subst (λ (n : ℕ). PassesAccuracy (trees_of s.exchange) weights o.provisional.best n s.exchange.settings.cap o.pricing.prices o.pricing.delta o.pricing.accuracy) goods_same is.pricing.passes.accurate;
    accuracy_few = is.pricing.accuracy_limited.few;
    balance = subst (λ (n : ℕ). PassesBalance (trees_of s.exchange) weights o.provisional.best n o.pricing.prices o.pricing.delta o.pricing.balance) goods_same is.pricing.passes.balanced;
    balance_few = is.pricing.balance_limited.few;
  }

  pub opening_shown : (judged : List Judged) → AreShownVerdicts o.pricing.prices s.exchange.settings.improve (standings s.exchange s.bounds o.provisional.best) [] judged → IsShownGoing s.exchange s.bounds (going_of o judged)
  opening_shown judged verdicts = record {
    settlement = settlement_shown s lawful are o.best o.regret is.settlement;
    provisional = provisional_shown;
    pricing = pricing_shown judged;
    verdicts = verdicts;
  }

  pub opening_earned : (judged : List Judged) → EarnsGoing EarnsStep s.exchange s.bounds (going_of o judged)
  opening_earned judged = record {
    settlement = settlement_earned s lawful are o.best o.regret is.settlement;
    provisional = found_earned s.exchange lawful weights weighted_are (empty_sets (trees_of s.exchange)) Provisional (proved_found o.provisional) is.provisional.found is.provisional.written;
  }

  -- ---- ranges

  provisional_may_be_written : IsWritable (length (exact_of s.exchange)) (proved_found o.provisional)
  provisional_may_be_written = record {
    value = worth_is_total o.provisional.value (found_worth s.exchange lawful weights weighted_are (empty_sets (trees_of s.exchange)) Provisional (proved_found o.provisional) is.provisional.found is.provisional.written);
    group = found_writable s.exchange lawful weights weighted_are (empty_sets (trees_of s.exchange)) Provisional (proved_found o.provisional) is.provisional.found is.provisional.written;
  }

  -- where the prices have a denominator of at most 2^32
  pub opening_may_be_written : s.number ≤ 20 → ArePriceTerms o.pricing.prices → IsWritableOpening (length (exact_of s.exchange)) o
  opening_may_be_written few terms =
      let trade = priced_trade s o in
      let proper : IsProvisional (priced_trade s o) = provisional_is s.exchange s.bounds o.provisional.best lawful are is.provisional.found.attained.feasible in
      record {
        number = omega (arith, few, is.number);
        settlement = settlement_may_be_written s lawful are o.best o.regret is.settlement;
        provisional = provisional_may_be_written;
        pricing = record {
          violation = violation_may_be_written trade proper o.pricing.prices o.pricing.delta o.pricing.accuracy terms.den.1 is.pricing.passes.violates is.pricing.passes.accurate;
          accuracy = certificate_may_be_written s.exchange lawful trade refl o.pricing.accuracy is.pricing.passes.accurate.rows is.pricing.accuracy_limited;
          balance = certificate_may_be_written s.exchange lawful trade refl o.pricing.balance is.pricing.passes.balanced.rows is.pricing.balance_limited;
        };
      }
