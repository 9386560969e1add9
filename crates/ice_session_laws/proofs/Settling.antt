-- Final sets with their regret are shown and earned, and may be written.
use Rattle.std.proofs.Common.{◌∙◌, ap, length, ℤ, pos, ◌-ℤ◌, ◌≤ℤ◌, arith}
use Rattle.std.proofs.lemmas.Int.{ints}
use Rattle.ice_defs.specs.Weighing.{lower_weights, perturbed_weights}
use Rattle.ice_defs.specs.Sweep.{EarnsStep}
use Rattle.ice_defs.specs.declared.Group.TheVariants.{Final, Rival}
use Rattle.ice_defs.specs.Group.{empty_sets}
use Rattle.ice_defs.specs.Exchange.{trees_of, exact_of, IsBetween}
use Rattle.ice_defs.specs.Lawful.{IsExchange}
use Rattle.ice_defs.specs.Conditions.{AreBoundsOf, AreWeightsOf}
use Rattle.ice_bound.proofs.Modest.{lower_modest, perturbed_modest}
use Rattle.ice_search.specs.Results.{proved_found}
use Rattle.ice_search.specs.declared.results.Found.{Found}
use Rattle.ice_regret.specs.Regretted.{proved_rival}
use Rattle.ice_regret.specs.declared.lead.Regret.{Regret}
use Rattle.ice_journal_laws.specs.Showing.{IsShownSettlement}
use Rattle.ice_journal_laws.specs.Earning.{EarnsSettlement}
use Rattle.ice_round.specs.SessionAt.{SessionAt}
use Rattle.ice_settled.specs.Shown.{settlement_of}
use Rattle.ice_round.specs.Searches.{IsSettlementOf}
use Rattle.ice_write_session.specs.Writable.{IsWritable, IsWritableRegret, IsWritableSettlement}
use Rattle.ice_session_laws.proofs.Worth.{IsWorth, worth_is_total}
use Rattle.ice_session_laws.proofs.Found.{found_shown, found_earned, found_worth, found_writable}

module _ (s : SessionAt) (lawful : IsExchange s.exchange) (are : AreBoundsOf (trees_of s.exchange) s.bounds) where
  lower_are : AreWeightsOf (trees_of s.exchange) (lower_weights s.bounds)
  lower_are = lower_modest (trees_of s.exchange) s.bounds are

  module _ (best : Found) (r : Regret) (is : IsSettlementOf s best r) where
    rival_are : AreWeightsOf (trees_of s.exchange) (perturbed_weights best.best s.bounds)
    rival_are = perturbed_modest best.best (trees_of s.exchange) s.bounds are

    pub settlement_shown : IsShownSettlement s.exchange s.bounds (settlement_of best r)
    settlement_shown = record {
      final = found_shown s.exchange lawful (lower_weights s.bounds) lower_are (empty_sets (trees_of s.exchange)) Final (proved_found best) is.final.found is.final.written tt;
      rival = found_shown s.exchange lawful (perturbed_weights best.best s.bounds) rival_are best.best Rival (proved_rival r) is.regret.found is.regret.written tt;
      regret = is.regret.difference ∙ ap (λ (v : ℤ). r.value -ℤ v) is.final.found.attained.has;
    }

    pub settlement_earned : EarnsSettlement EarnsStep s.exchange s.bounds (settlement_of best r)
    settlement_earned = record {
      final = found_earned s.exchange lawful (lower_weights s.bounds) lower_are (empty_sets (trees_of s.exchange)) Final (proved_found best) is.final.found is.final.written;
      rival = found_earned s.exchange lawful (perturbed_weights best.best s.bounds) rival_are best.best Rival (proved_rival r) is.regret.found is.regret.written;
    }

    -- ---- ranges

    final_worth : IsWorth best.value
    final_worth = found_worth s.exchange lawful (lower_weights s.bounds) lower_are (empty_sets (trees_of s.exchange)) Final (proved_found best) is.final.found is.final.written

    rival_worth : IsWorth r.value
    rival_worth = found_worth s.exchange lawful (perturbed_weights best.best s.bounds) rival_are best.best Rival (proved_rival r) is.regret.found is.regret.written

    -- the regret is no less than 0, by which the sets lead themselves, and the difference of the
    -- two values
    regret_is : IsBetween (pos 0) (pos 400000000000000) r.amount
    regret_is =
        let final_is = final_worth in
        let rival_is = rival_worth in
        let own = is.regret.regret.bound 1 (perturbed_weights best.best s.bounds) best.best is.regret.inside is.final.found.attained.feasible in
        let none : pos 0 ≤ℤ r.amount = omega (arith, ints, own) in
        (none, omega (arith, ints, is.regret.difference, is.final.found.attained.has, final_is.0, rival_is.1))

    pub final_may_be_written : IsWritable (length (exact_of s.exchange)) (proved_found best)
    final_may_be_written = record {
      value = worth_is_total best.value final_worth;
      group = found_writable s.exchange lawful (lower_weights s.bounds) lower_are (empty_sets (trees_of s.exchange)) Final (proved_found best) is.final.found is.final.written;
    }

    pub regret_may_be_written : IsWritableRegret (length (exact_of s.exchange)) r
    regret_may_be_written = record {
      rival = record {
        value = worth_is_total r.value rival_worth;
        group = found_writable s.exchange lawful (perturbed_weights best.best s.bounds) rival_are best.best Rival (proved_rival r) is.regret.found is.regret.written;
      };
      amount = regret_is;
    }

    pub settlement_may_be_written : IsWritableSettlement (length (exact_of s.exchange)) (settlement_of best r)
    settlement_may_be_written = record { final = final_may_be_written; rival = regret_may_be_written.rival; regret = regret_is }
