-- A settlement that goes on is one of a session, before any submission of its round.
use Rattle.std.proofs.Common.{ℕ, ◌≡◌, ◌<◌, ◌≤◌, Bool, true, false, [], ℤ, sym, subst, ◌∙◌, arith, ◌⊎◌, inl, inr, eq-eqb}
use Rattle.std.specs.Prelude.{◌||◌, ◌==◌, int_le}
use Rattle.std.proofs.lemmas.Bool.{cases_eq, true≢false}
use Rattle.std.proofs.lemmas.List.{length-map}
use Rattle.ice_defs.specs.Weighing.{weighted_weights}
use Rattle.ice_defs.specs.Group.{empty_sets}
use Rattle.ice_defs.specs.Pricing.{IsBalanced}
use Rattle.ice_defs.specs.Exchange.{Settings, Good, trees_of}
use Rattle.ice_defs.specs.Session.{closes, standings}
use Rattle.ice_headline_laws.specs.Right.{IsGoing}
use Rattle.ice_round_laws.proofs.Taking.{rounds_begin}
use Rattle.ice_search.specs.Results.{proved_found, IsFoundBy}
use Rattle.ice_price.specs.Ends.{IsPriced}
use Rattle.ice_round.specs.SessionAt.{SessionAt}
use Rattle.ice_round.specs.Searches.{provisional_search, IsSettlementOf}
use Rattle.ice_settled.specs.Shown.{going_of}
use Rattle.ice_round.specs.Shown.{priced_trade}
use Rattle.ice_settled.specs.declared.settled.Opening.{Opening}
use Rattle.ice_round.proofs.Settlements.{best_found}

pub going_is : (s : SessionAt) (o : Opening) → IsSettlementOf s o.best o.regret → IsFoundBy (provisional_search s) o.provisional → IsPriced (priced_trade s o) o.pricing
    → IsGoing s.exchange s.bounds (going_of o [])
going_is s o settlement provisional priced =
    let ws = weighted_weights s.exchange.settings.weight s.bounds in
    record {
      settled = settlement.settled;
      provisional = best_found s.exchange s.bounds ws (empty_sets (trees_of s.exchange)) (proved_found o.provisional) provisional.written.counts provisional.found;
      violation = priced.passes.violates;
      balanced = subst (λ goods. IsBalanced (trees_of s.exchange) ws o.provisional.best goods s.exchange.settings.cap o.pricing.prices) (sym (length-map s.exchange.goods (λ (g : Good). g.exact))) priced.balanced;
      round = rounds_begin o.pricing.prices s.exchange.settings.improve (standings s.exchange s.bounds o.provisional.best);
    }

no_round_left : (a b : Bool) → (a || b) ≡ false → b ≡ false
no_round_left true b e = absurd (true≢false e)
no_round_left false b e = e

-- where the close test fails, a round is left
pub more_rounds : (settings : Settings) (number : ℕ) (regret : ℤ) → closes settings number regret ≡ false → number ≤ settings.rounds → number < settings.rounds
more_rounds settings number regret e few = by (cases_eq number settings.rounds)
  where
    other : (number == settings.rounds) ≡ false
    other = no_round_left (int_le regret settings.close_regret) (number == settings.rounds) e

    by : (number ≡ settings.rounds) ⊎ (number ≡ settings.rounds → ⊥) → number < settings.rounds
    by (inl same) = absurd (true≢false (sym (eq-eqb number settings.rounds same) ∙ other))
    by (inr ne) = omega (arith, ne, few)
