-- How a trial ends.
use Rattle.std.proofs.Common.{◌≡◌, ◌∙◌, ℕ, Bool, true, false, cond, List, [], ℤ, pos, refl, sym, ap, subst, arith, IsTrue, Option, Some, None}
use Rattle.std.specs.Prelude.{int_le, ◌||◌, ◌==◌}
use Rattle.std.proofs.lemmas.Int.{ints}
use Rattle.ice_defs.specs.Trade.{IsBestOfAll}
use Rattle.ice_defs.specs.Bounds.{Bounds}
use Rattle.ice_defs.specs.Weighing.{lower_weights}
use Rattle.ice_defs.specs.Exchange.{Settings, trees_of, exact_of, opening_bounds, market_of}
use Rattle.ice_defs.specs.Session.{closes}
use Rattle.ice_search.specs.declared.results.Found.{Found}
use Rattle.ice_regret.specs.declared.lead.Regret.{Regret}
use Rattle.ice_price.specs.declared.ends.PriceLimit.{PriceLimit}
use Rattle.ice_vickrey.specs.declared.marginal.Marginal.{Marginal}
use Rattle.ice_round.specs.SessionAt.{SessionAt, RoundAt}
use Rattle.ice_settled.specs.Shown.{settlement_of}
use Rattle.ice_round.specs.Searches.{IsSettlementOf}
use Rattle.ice_round.specs.Shown.{IsClosing, IsOpening}
use Rattle.ice_round.specs.Ends.{IsLimitAt, at_pricing}
use Rattle.ice_settled.specs.declared.settled.Closing.{Closing}
use Rattle.ice_settled.specs.declared.settled.Opening.{Opening}
use Rattle.ice_session_laws.specs.Running.{IsRunning}
use Rattle.ice_trial.proofs.Exact.{exact_bounds_have_no_regret}
use Rattle.ice_trial.specs.declared.summary.Summary.{Summary}
use Rattle.ice_trial.specs.declared.trial.TruthRound.{TruthRound}
use Rattle.ice_trial.specs.Summaries.{AreFinal, IsLeft, bounds_at, IsSummary}
use Rattle.ice_trial.specs.Rounds.{IsTold}
use Rattle.ice_trial.specs.Ends.{IsTrial}
use Rattle.ice_trial.proofs.Summing.{final_of, left_of}

-- ---- settlement 0

module _ (s : SessionAt) (truths : List Bounds) (run : IsRunning [] s) where
  pub closes_at_once : (c : Closing) → IsClosing s c → (x : Summary)
      → x ≡ record { opened = c.best.value; opened_regret = c.regret.amount; settled = c.number; total = c.best.value; regret = c.regret.amount; surplus = c.payments.surplus } → IsSummary s.exchange truths x
  closes_at_once c is x same = subst (IsSummary s.exchange truths) (sym same) (record {
    opening = opening;
    settled = first ∙ sym (ap (λ (b : Bool). cond b 0 1) test);
    closing = subst (λ (k : ℕ). AreFinal s.exchange (bounds_at s.exchange truths k) c.best.value c.regret.amount) (sym first) opening;
    closes = subst (λ (k : ℕ). IsTrue (closes s.exchange.settings k c.regret.amount)) (sym first) test;
    surplus = subst (λ (k : ℕ). IsLeft s.exchange (bounds_at s.exchange truths k) c.best.value c.payments.surplus) (sym first)
        (subst (λ (bs : List Bounds). IsLeft s.exchange bs c.best.value c.payments.surplus) (sym run.bounds) (left_of s c is));
  })
    where
      number : s.number ≡ 0
      number = sym run.number

      first : c.number ≡ 0
      first = is.number ∙ number

      test : closes s.exchange.settings 0 c.regret.amount ≡ true
      test = subst (λ (k : ℕ). closes s.exchange.settings k c.regret.amount ≡ true) number is.closes

      opening : AreFinal s.exchange (opening_bounds s.exchange) c.best.value c.regret.amount
      opening = subst (λ (bs : List Bounds). AreFinal s.exchange bs c.best.value c.regret.amount) (sym run.bounds) (final_of s.exchange s.bounds (settlement_of c.best c.regret) is.settlement.settled)

  pub trial_begins : IsTrial s.exchange truths None s
  trial_begins = record { exchange = refl; running = run; round = tt }

-- ---- behind the round

module _ (s : SessionAt) (first : TruthRound) (told : IsTold s first) where
  -- no regret is left, so the close test holds
  no_regret : (best : Found) (r : Regret) → IsSettlementOf s best r → r.amount ≡ pos 0
  no_regret best r is =
      let final = is.settled.final in
      exact_bounds_have_no_regret (market_of s.exchange) s.bounds best.best r.amount told.running.lawful.same_length told.running.lawful.each told.exact final.feasible
      (subst (IsBestOfAll (trees_of s.exchange) (exact_of s.exchange) (lower_weights s.bounds)) (sym final.value) final.best) is.settled.regret

  closes_at_zero : (settings : Settings) (number : ℕ) (regret : ℤ) → regret ≡ pos 0 → int_le (pos 0) settings.close_regret ≡ true → closes settings number regret ≡ true
  closes_at_zero settings number regret none small = ap (λ (z : ℤ). int_le z settings.close_regret || (number == settings.rounds)) none ∙ ap (λ (b : Bool). b || (number == settings.rounds)) small

  test_holds : (best : Found) (r : Regret) → IsSettlementOf s best r → closes s.exchange.settings s.number r.amount ≡ true
  test_holds best r is =
      let low = told.running.exchange.settings.close_regret.0 in
      let small : int_le (pos 0) s.exchange.settings.close_regret ≡ true = grind (arith, ints, low) in
      closes_at_zero s.exchange.settings s.number r.amount (no_regret best r is) small

  pub never_goes_on : (r : RoundAt) (o : Opening) → IsOpening s r o → ⊥
  never_goes_on r o is = absurd (by (test_holds o.best o.regret is.settlement) is.goes_on)
    where
      by : closes s.exchange.settings s.number o.regret.amount ≡ true → closes s.exchange.settings s.number o.regret.amount ≡ false → ⊥
      by holds fails = cc

  pub never_limited : (best : Option Found) (regret : Option Regret) (provisional : Option Found) (ms : List Marginal) (limit : PriceLimit) → IsLimitAt s best regret provisional ms limit → ⊥
  never_limited _ _ _ _ _ (at_pricing {best = best} {regret = regret} left fails settled offered branches end) = by (test_holds best regret settled) fails
    where
      by : closes s.exchange.settings s.number regret.amount ≡ true → closes s.exchange.settings s.number regret.amount ≡ false → ⊥
      by holds fails = cc

  pub closes_behind : (c : Closing) → IsClosing s c → (x : Summary)
      → x ≡ record { opened = first.opening.best.value; opened_regret = first.opening.regret.amount; settled = c.number; total = c.best.value; regret = c.regret.amount; surplus = c.payments.surplus }
      → IsSummary s.exchange s.bounds x
  closes_behind c is x same = subst (IsSummary s.exchange s.bounds) (sym same) (record {
    opening = final_of s.exchange (opening_bounds s.exchange) (settlement_of first.opening.best first.opening.regret) told.running.right.1.settled;
    settled = second ∙ sym (ap (λ (b : Bool). cond b 0 1) told.running.right.0);
    closing = subst (λ (k : ℕ). AreFinal s.exchange (bounds_at s.exchange s.bounds k) c.best.value c.regret.amount) (sym second) (final_of s.exchange s.bounds (settlement_of c.best c.regret) is.settlement.settled);
    closes = subst (λ (k : ℕ). IsTrue (closes s.exchange.settings k c.regret.amount)) (sym is.number) is.closes;
    surplus = subst (λ (k : ℕ). IsLeft s.exchange (bounds_at s.exchange s.bounds k) c.best.value c.payments.surplus) (sym second) (left_of s c is);
  })
    where
      second : c.number ≡ 1
      second = is.number ∙ sym told.running.number

  pub trial_goes_on : IsTrial s.exchange s.bounds (Some first) s
  trial_goes_on = record { exchange = refl; running = told.running; round = told.round }
