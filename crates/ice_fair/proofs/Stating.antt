-- What the stated run of the fairness stage is given, and what it ends with.
use Rattle.std.proofs.Common.{ℕ, ◌<◌, ◌≤◌, ◌^◌, ◌≡◌, List, length, ℤ, pos, ◌≤ℤ◌, arith, ap, sym, subst, ◌∙◌}
use Rattle.std.specs.List.{AllByRecursion}
use Rattle.std.proofs.lemmas.Int.{ints}
use Rattle.ice_defs.specs.Fraction.{Fraction, Equals}
use Rattle.ice_defs.specs.Rows.{Row, Certificate, IsRow, worth_above, PassesAccuracy}
use Rattle.ice_defs.specs.Set.{value}
use Rattle.ice_defs.specs.Trade.{tree_of, set_of, weights_of}
use Rattle.ice_defs.specs.PricingLimit.{limit_of}
use Rattle.ice_certificate.proofs.Worths.{value-within}
use Rattle.ice_row_laws.specs.Sizes.{IsSizedWithin}
use Rattle.ice_row_laws.proofs.Priced.{violation-ge}
use Rattle.ice_pricing_laws.proofs.Lists.{all-each}
use Rattle.ice_pricing_laws.proofs.Lowered.{accuracy_moves}
use Rattle.ice_pricing.specs.Provisional.{ProvisionalTrade, IsProvisional}
use Rattle.ice_pricing.specs.Priced.{IsLimited, HasViolation}
use Rattle.ice_pricing.specs.declared.certificate.Pricing.{Pricing}
use Rattle.ice_price.specs.Ends.{IsPriced}
use Rattle.ice_turns.specs.Stages.{IsSizedStage}
use Rattle.ice_terms.specs.Terms.{ArePriceTerms}
use Rattle.ice_fair_laws.specs.Fair.{PaidTrade, AreFair, HasViolationOf, IsDistance, PassesFairness}
use Rattle.ice_fair_laws.specs.FairRun.{fairness_at, EndsAtFairLimit}
use Rattle.ice_fair_laws.specs.Laws.{IsPaidTrade, violation_of}
use Rattle.ice_fair_laws.specs.Run.{IsCutDen}
use Rattle.ice_fair_laws.proofs.Small.{certified_is_small}
use Rattle.ice_fair_stage.specs.Paid.{paid_with, ArePayments}
use Rattle.ice_fair_stage.specs.Certified.{IsFairLimited}
use Rattle.ice_fair_stage.specs.Ends.{IsFairEnd, IsFairStop}
use Rattle.ice_fair_stage.specs.declared.ends.FairStageEnd.{FairStageEnd}
use Rattle.ice_fair_stage.specs.declared.ends.FairStop.{FairStop}
use Rattle.ice_fair_stage.specs.declared.ends.FairStop.TheVariants.{Limit, NoMemory}
use Rattle.ice_fair.specs.Ends.{IsStageStop}
use Rattle.ice_fair.specs.Found.{IsFairFound, fair_at}
use Rattle.ice_fair.specs.Lasts.{LastTrade, IsLast, IsShortPayment, trade_of}

-- ---- sizes

module _ (t : ProvisionalTrade) (is : IsProvisional t) where
  row-small : (row : Row) → IsRow t.trees t.weights t.sets row → worth_above t.trees t.weights t.sets row ≤ℤ pos (2 ^ 49)
  row-small row own =
      let b = row.bidder in
      let w = weights_of t.weights b in
      let nodes = is.nodes.nodes b own.0 in
      let few : length (tree_of t.trees b) ≤ 200 = is.limited b own.0 in
      let mine = is.satisfied b own.0 in
      let there : b < length t.weights = omega (arith, own.0, is.nodes.count) in
      let one : IsSizedWithin (2 ^ 48) (value row.set w) = value-within row.set w (omega (arith, few, own.2.same_length)) (omega (arith, nodes, own.2.same_length)) (is.modest b there) in
      let other : IsSizedWithin (2 ^ 48) (value (set_of t.sets b) w) = value-within (set_of t.sets b) w (omega (arith, few, mine.same_length)) (omega (arith, nodes, mine.same_length)) (is.modest b there) in
      let a = one.high in let c = other.low in omega (arith, ints, a, c)

  -- the violation of priced prices is at most 2^49 over their denominator
  pub priced-sized : (p : Pricing) → IsPriced t p → ArePriceTerms p.prices → IsSizedStage (fairness_at p.delta p.prices.den)
  priced-sized p priced terms =
      let accurate = priced.passes.accurate in
      let small : AllByRecursion (λ row. worth_above t.trees t.weights t.sets row ≤ℤ pos (2 ^ 49)) p.accuracy.rows =
      all-each (IsRow t.trees t.weights t.sets) (λ row. worth_above t.trees t.weights t.sets row ≤ℤ pos (2 ^ 49)) p.accuracy.rows row-small accurate.rows in
      let high = certified_is_small t.trees t.weights t.sets t.goods t.cap p.prices p.delta p.accuracy (2 ^ 49) is.cap_low accurate small in
      record {
        positive = omega (arith, terms.den.0);
        den_fits = terms.den.1;
        low = violation-ge t.trees t.weights t.sets p.prices p.delta priced.passes.violates is.satisfied;
        high = omega (arith, ints, high);
      }

-- ---- what is given and what comes

module _ (l : LastTrade) (is : IsLast l) (t : ProvisionalTrade) (trades : t ≡ trade_of l.paid) (payments : List Fraction) (same : payments ≡ l.paid.payments) where
  paid-is : paid_with t payments ≡ l.paid
  paid-is = ap (λ (z : ProvisionalTrade). paid_with z payments) trades ∙ ap (λ (ps : List Fraction). paid_with (trade_of l.paid) ps) same

  pub payments-are : (cut : ℕ) → cut ≡ l.cut → ArePayments t cut payments
  payments-are cut cuts = record {
    paid = subst IsPaidTrade (sym paid-is) is.paid;
    cut_den = subst (λ (z : PaidTrade). IsCutDen z cut) (sym paid-is) (subst (IsCutDen l.paid) (sym cuts) is.cut);
    few = omega (arith, cuts, is.few);
    short = subst (AllByRecursion IsShortPayment) (sym same) is.short;
  }

  module _ (cut : ℕ) (cuts : cut ≡ l.cut) (delta delta1 : ℤ) (den den1 : ℕ) (deltas : delta1 ≡ delta) (dens : den1 ≡ den) (p : Pricing) (priced : IsPriced (trade_of l.paid) p) (own-delta : p.delta ≡ delta) (own : p.prices.den ≡ den) where
    pub stage-stop : (stop : FairStop) → IsFairStop t payments cut delta1 den1 stop → IsStageStop l stop
    stage-stop (Limit limit) (at, over, ends) =
        let limits : limit.delta ≡ delta = at ∙ deltas in
        let limit_dens : limit.den ≡ den = over ∙ dens in
        record {
          priced = (p, priced, own-delta ∙ sym limits, own ∙ sym limit_dens);
          ends =
              subst (λ (z : PaidTrade). EndsAtFairLimit z l.cut limit.delta limit.den (limit_of limit.kind) limit.pool.items) paid-is
              (subst (λ (n : ℕ). EndsAtFairLimit (paid_with t payments) n limit.delta limit.den (limit_of limit.kind) limit.pool.items) cuts
              (subst (λ (d : ℕ). EndsAtFairLimit (paid_with t payments) cut limit.delta d (limit_of limit.kind) limit.pool.items) (sym over)
              (subst (λ (z : ℤ). EndsAtFairLimit (paid_with t payments) cut z den1 (limit_of limit.kind) limit.pool.items) (sym at) ends)));
        }
    stage-stop NoMemory ended = tt

-- what the stage ends with passes all tests
module _ (l : LastTrade) (is : IsLast l) (t : ProvisionalTrade) (trades : t ≡ trade_of l.paid) (payments : List Fraction) (same : payments ≡ l.paid.payments) where
  pub stage-found : (cut : ℕ) (delta : ℤ) (den : ℕ) (pricing : Pricing) (accuracy : Certificate) (end : FairStageEnd) → IsPriced (trade_of l.paid) pricing → ArePriceTerms pricing.prices
      → accuracy ≡ pricing.accuracy → delta ≡ pricing.delta → den ≡ pricing.prices.den → IsFairEnd t payments cut delta den end → IsFairFound l (fair_at end accuracy)
  stage-found cut delta den pricing accuracy end priced terms copied deltas dens ended =
      let whole : paid_with t payments ≡ l.paid = paid-is l is t trades payments same in
      let fair : AreFair l.paid end.prices = subst (λ (z : PaidTrade). AreFair z end.prices) whole ended.fair in
      let within = fair.accurate.within in
      let violates : HasViolationOf l.paid end.prices end.violation = subst (λ (z : ProvisionalTrade). HasViolation z end.prices end.violation) trades ended.violates in
      let equal : Equals (violation_of end.prices end.violation) (violation_of pricing.prices pricing.delta) =
      subst (λ (n : ℕ). Equals (violation_of end.prices end.violation) (record { num = pricing.delta; den = n })) dens
      (subst (λ (z : ℤ). Equals (violation_of end.prices end.violation) (record { num = z; den = den })) deltas ended.same) in
      let accurate : PassesAccuracy l.paid.trees l.paid.weights l.paid.sets l.paid.goods l.paid.cap end.prices end.violation accuracy =
      subst (PassesAccuracy l.paid.trees l.paid.weights l.paid.sets l.paid.goods l.paid.cap end.prices end.violation) (sym copied)
      (accuracy_moves l.paid.trees l.paid.weights l.paid.sets l.paid.goods l.paid.cap pricing.prices end.prices pricing.delta end.violation pricing.accuracy (omega (arith, terms.den.0)) (sym equal) priced.passes.accurate) in
      record {
        passes = record {
          within = within;
          lowest = ended.lowest;
          violates = violates;
          accurate = accurate;
          distance_is = subst (λ (z : PaidTrade). IsDistance z end.prices end.distance) whole ended.distance_is;
          fairness = subst (λ (z : PaidTrade). PassesFairness z end.certificate (violation_of end.prices end.violation) end.distance) whole ended.passes;
        };
        fair = fair;
        goods = within.same_length;
        accuracy_limited = subst IsLimited (sym copied) priced.accuracy_limited;
        certificate_limited = subst (λ (z : ProvisionalTrade). IsFairLimited (length z.trees) end.certificate) trades ended.limited;
      }
