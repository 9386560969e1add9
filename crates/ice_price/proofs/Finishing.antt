-- What the ends of both stages give.
use Rattle.std.proofs.Common.{ℕ, ◌≤◌, ◌≡◌, ◌^◌, List, ℤ, ap, sym, subst}
use Rattle.ice_defs.specs.Fraction.{Equals}
use Rattle.ice_defs.specs.Prices.{Prices}
use Rattle.ice_defs.specs.Rows.{Certificate, HasCommonDivisor}
use Rattle.ice_defs.specs.PricingRun.{Member, first_stage, solution_prices, allowance, IsAccurateStage, turns}
use Rattle.ice_pricing_laws.specs.Laws.{balance_at}
use Rattle.ice_pricing_laws.specs.Ends.{certificate_at}
use Rattle.ice_pricing_laws.proofs.Ends.{accuracy_stage_ends, balance_stage_ends}
use Rattle.ice_pricing_laws.proofs.Lowered.{accuracy_moves}
use Rattle.ice_pricing_laws.proofs.Scans.{stage_is_unlimited}
use Rattle.ice_pricing.specs.Provisional.{ProvisionalTrade, IsProvisional}
use Rattle.ice_pricing.specs.Priced.{HasViolation, PassesTests, AreBalanced}
use Rattle.ice_pricing.proofs.Violations.{violation-same}
use Rattle.ice_pricing.specs.declared.certificate.Pricing.{Pricing}
use Rattle.ice_price.specs.Ends.{IsPriced, IsRunPriced}
use Rattle.ice_price.specs.Runs.{IsState, IsStageEnd}
use Rattle.ice_price.proofs.Turning.{market-of}

module _ (t : ProvisionalTrade) (is : IsProvisional t) where
  -- the accuracy stage's end leads to the balance stage
  pub turned : (pool : List Member) (p : Prices) (v : ℤ) (c : Certificate) → IsState t first_stage pool → IsStageEnd t first_stage pool p v c → IsState t (balance_at v p.den) pool
  turned pool p v c state end =
      let (x, solved, none, same) = end.point in
      let own : Prices = solution_prices t.trees t.weights t.sets t.goods t.cap x in
      let den : p.den ≡ own.den = ap (λ q. q.den) same in
      let (w, equals, certified) = accuracy_stage_ends t.trees t.weights t.sets t.goods t.cap pool x (market-of t is) state solved none in
      let one : w ≡ v = violation-same t own w v certified.violation (subst (λ q. HasViolation t q v) same end.violates) in
      let stage : IsAccurateStage t.trees t.weights t.sets t.goods t.cap pool v p.den = record {
        solved = (
          x,
          solved,
          none,
          den,
          (let P : ℤ → Type 0 = λ z. Equals (record { num = z; den = p.den }) (allowance t.trees t.weights t.sets t.goods t.cap first_stage x) in
              let Q : ℕ → Type 0 = λ d. Equals (record { num = w; den = d }) (allowance t.trees t.weights t.sets t.goods t.cap first_stage x) in
              subst P one (subst Q (sym den) equals)),
        );
        unlimited = stage_is_unlimited t.trees t.weights t.sets t.goods t.cap first_stage pool x solved none (subst (λ d. d ≤ 2 ^ 32) den end.den_fits) end.fits;
      } in
      turns state stage

  -- and the balance stage's end to prices that pass all tests and are balanced
  pub record AreFound (p : Prices) (v : ℤ) (accuracy balance : Certificate) : Type 0 where
    pub passes : PassesTests t p v accuracy balance
    pub balanced : AreBalanced t p

  pub found : (pool later : List Member) (p q : Prices) (v w : ℤ) (accuracy balance : Certificate) → IsState t first_stage pool → IsStageEnd t first_stage pool p v accuracy
      → IsState t (balance_at v p.den) later → IsStageEnd t (balance_at v p.den) later q w balance → AreFound q w accuracy balance
  found pool later p q v w accuracy balance first end state last =
      let (x, solved, none, same) = end.point in
      let own : Prices = solution_prices t.trees t.weights t.sets t.goods t.cap x in
      let (u, _, certified) = accuracy_stage_ends t.trees t.weights t.sets t.goods t.cap pool x (market-of t is) first solved none in
      let one : u ≡ v = violation-same t own u v certified.violation (subst (λ r. HasViolation t r v) same end.violates) in
      let (y, solved_later, none_later, same_later) = last.point in
      let later_prices : Prices = solution_prices t.trees t.weights t.sets t.goods t.cap y in
      let violates : HasViolation t later_prices w = subst (λ r. HasViolation t r w) same_later last.violates in
      let (balanced, equals, passes, _) = balance_stage_ends t.trees t.weights t.sets t.goods t.cap later v p.den y w (market-of t is) state solved_later none_later violates in
      let den : p.den ≡ own.den = ap (λ r. r.den) same in
      let c : Certificate = certificate_at t.trees t.weights t.sets t.goods t.cap first_stage pool in
      let b : Certificate = certificate_at t.trees t.weights t.sets t.goods t.cap (balance_at v p.den) later in
      let E : ℤ → ℕ → Type 0 = λ z d. Equals (record { num = z; den = d }) (record { num = w; den = later_prices.den }) in
      let here : E u own.den = subst (λ d. E u d) den (subst (λ z. E z p.den) (sym one) (sym equals)) in
      let moved = accuracy_moves t.trees t.weights t.sets t.goods t.cap own later_prices u w c certified.accurate.within.positive here certified.passes in
      let P : Prices → Certificate → Certificate → Type 0 = λ r a d. AreFound r w a d in
      let lowest = last.lowest in
      let made : P later_prices c b = record {
        passes = record { within = balanced.accurate.within; lowest = subst (λ (r : Prices). ¬ HasCommonDivisor r) same_later lowest; violates = violates; accurate = moved; balanced = passes };
        balanced = balanced;
      } in
      subst (λ r. P r accuracy balance) (sym same_later) (subst (λ a. P later_prices a balance) (sym end.certificate_is) (subst (λ d. P later_prices c d) (sym last.certificate_is) made))

  -- so do the prices that the run ends with
  pub priced : (p : Pricing) → IsRunPriced t p → IsPriced t p
  priced p run =
      let are = found run.pool run.later run.prices p.prices run.violation p.delta p.accuracy p.balance run.state run.accurate run.later_state run.balanced in
      record { passes = are.passes; balanced = are.balanced; accuracy_limited = run.accurate.limited; balance_limited = run.balanced.limited }
