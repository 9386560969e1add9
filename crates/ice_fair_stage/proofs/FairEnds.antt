-- What the end of the fairness stage says.
use Rattle.std.proofs.Common.{ℕ, ◌+◌, ◌*◌, ◌<◌, ◌≤◌, ◌≡◌, ◌⊎◌, inl, inr, ◌^◌, List, length, take, drop, Some, ℤ, pos, ◌≤ℤ◌, ◌<ℤ◌, arith, sym, subst, ◌∙◌}
use Rattle.std.specs.Prelude.{Any}
use Rattle.std.proofs.lemmas.Int.{ints}
use Rattle.std.proofs.lemmas.List.{length-map, length-take-le, length-drop}
use Rattle.std.proofs.lemmas.List.Elements.{All-from_recursion}
use Rattle.ice_defs.specs.Fraction.{Fraction, Equals, fraction_at}
use Rattle.ice_defs.specs.Prices.{Prices}
use Rattle.ice_defs.specs.Program.{AreNonNegative, IsLeast, AreDuals}
use Rattle.ice_defs.specs.PricingRun.{Member, common_den, num_over}
use Rattle.ice_defs.specs.Rows.{HasCommonDivisor}
use Rattle.ice_pricing_laws.specs.Weights.{AreWeights, weights_of_duals, nums_over}
use Rattle.ice_pricing.specs.Provisional.{ProvisionalTrade, IsProvisional}
use Rattle.ice_pricing.specs.Priced.{HasViolation}
use Rattle.ice_turns.proofs.Points.{low-drop, low-front}
use Rattle.ice_fair_laws.specs.Fair.{PaidTrade, FairCertificate, AreFair, IsDistance, PassesFairness}
use Rattle.ice_fair_laws.specs.FairRun.{fairness_program, fair_solution, fair_duals, fair_weights, HasNoneForFair}
use Rattle.ice_fair_laws.specs.Laws.{violation_of}
use Rattle.ice_fair_laws.specs.Run.{prices_at}
use Rattle.ice_fair_laws.proofs.Fairs.{fair_traces_solve, least_is_fair}
use Rattle.ice_fair_laws.proofs.FairCertified.{duals_pass_fairness}
use Rattle.ice_fair_laws.proofs.Turns.{fair_is_shaped, lowered_together}
use Rattle.ice_fair_stage.specs.Certified.{IsCertificate, certificate_of}
use Rattle.ice_fair_stage.specs.Stages.{FairStage, paid, IsState}
use Rattle.ice_fair_stage.specs.Turns.{IsFound, IsEndWith, IsTurn}
use Rattle.ice_fair_stage.specs.declared.turn.Found.{Found}
use Rattle.ice_fair_stage.specs.declared.turn.Turn.{Turn}
use Rattle.ice_fair_stage.specs.declared.turn.Turn.TheVariants.{Adds, Ends}
use Rattle.ice_fair_stage.proofs.Certifying.{nums-front, nums-back}
use Rattle.ice_fair_stage.proofs.FairTurns.{HasMarket, market-of, proper-pool}

-- where the certificate fits, its weights aren't too large
pub isnt-large : (bidders : ℕ) (pool : List Member) (ws : List Fraction) (c : FairCertificate) → IsCertificate bidders pool ws c
    → ¬ ((2 ^ 24 < common_den ws) ⊎ Any (λ w. pos (2 ^ 24) <ℤ num_over (common_den ws) w) ws)
isnt-large bidders pool ws c is (inl big) = let few = is.den_fits in absurd (omega (arith, big, few))
isnt-large bidders pool ws c is (inr (i, w, h, e, big)) =
    let Fits : Fraction → Type 0 = λ f. num_over (common_den ws) f ≤ℤ pos (2 ^ 24) in
    let few : Fits w = subst Fits e (All-from_recursion Fits ws is.nums_fit i w h) in
    absurd (omega (arith, ints, big, few))

-- an end with the solution's numbers is the turn's
pub ended : (t : ProvisionalTrade) (at : FairStage) (pool : List Member) (x : List Fraction) (ws : List Fraction) → fair_solution (paid t at) at.cut at.delta at.den pool ≡ Some x
    → HasNoneForFair (paid t at) at.cut at.delta at.den x → ws ≡ fair_weights (paid t at) at.cut at.delta at.den pool → (p : Prices) (v : ℤ) (made : Turn) → p ≡ prices_at (paid t at) x
    → p.den ≤ 2 ^ 32 → ¬ HasCommonDivisor p → HasViolation t p v → IsEndWith (length t.trees) pool ws p v (fraction_at x t.goods) made → IsTurn t at pool made
ended t at pool x ws solved none weights p v (Adds m) same few lowest violates end = absurd end
ended t at pool x ws solved none weights p v (Ends found) same few lowest violates end = record {
  point = (x, solved, none, end.prices_are ∙ same, end.distance_is);
  den_fits = subst (λ (q : Prices). q.den ≤ 2 ^ 32) (sym end.prices_are) few;
  lowest = subst (λ (q : Prices). ¬ HasCommonDivisor q) (sym end.prices_are) lowest;
  violates = subst (λ q. HasViolation t q found.violation) (sym end.prices_are) (subst (HasViolation t p) (sym end.violation_is) violates);
  certificate = subst (λ ws. IsCertificate (length t.trees) pool ws found.certificate) weights end.certificate;
}

-- ---- the end's prices and certificate

module _ (t : ProvisionalTrade) (at : FairStage) (provisional : IsProvisional t) (pool : List Member) (state : IsState t at pool) (x : List Fraction)
    (solved : fair_solution (paid t at) at.cut at.delta at.den pool ≡ Some x) (none : HasNoneForFair (paid t at) at.cut at.delta at.den x) (v : ℤ)
    (violates : HasViolation t (prices_at (paid t at) x) v) where
  abbrev trade : PaidTrade
  trade = paid t at

  abbrev duals : List Fraction
  duals = fair_duals trade at.cut at.delta at.den pool

  abbrev n : ℕ
  n = 2 * length t.trees

  abbrev weights : List Fraction
  weights = fair_weights trade at.cut at.delta at.den pool

  has : HasMarket t at
  has = market-of t at provisional state.stage

  least : IsLeast (fairness_program trade at.cut at.delta at.den pool) x
  least = (fair_traces_solve trade at.cut at.delta at.den pool x solved).0

  are : AreDuals (fairness_program trade at.cut at.delta at.den pool) x duals
  are = (fair_traces_solve trade at.cut at.delta at.den pool x solved).1

  -- said of the denominator of the accurate prices
  at_prices : (P : ℕ → Type 0) → P at.den → P has.prices.den
  at_prices P h = subst P (sym has.den) h

  pub fair-end : AreFair trade (prices_at trade x) × IsDistance trade (prices_at trade x) (fraction_at x t.goods)
      × Equals (violation_of (prices_at trade x) v) (record { num = at.delta; den = at.den })
  fair-end =
      let (fair, distance, equal) = least_is_fair trade at.cut has.prices at.delta pool x v has.market (proper-pool t at pool state).0
      (at_prices (λ d. IsLeast (fairness_program trade at.cut at.delta d pool) x) least) (at_prices (λ d. HasNoneForFair trade at.cut at.delta d x) none) violates in
      (fair, distance, subst (λ d. Equals (violation_of (prices_at trade x) v) (record { num = at.delta; den = d })) has.den equal)

  long : length duals ≡ t.goods + (n + length pool)
  long = are.same_length ∙ (fair_is_shaped trade at.cut at.delta at.den pool).1

  own-low : AreNonNegative (take n (drop t.goods duals))
  own-low = low-front n (drop t.goods duals) (low-drop t.goods duals are.non_negative)

  members-low : AreNonNegative (drop n (drop t.goods duals))
  members-low = low-drop n (drop t.goods duals) (low-drop t.goods duals are.non_negative)

  own-long : length (weights_of_duals at.cut (take n (drop t.goods duals))) ≡ n
  own-long =
      length-map (take n (drop t.goods duals)) _
      ∙ length-take-le n (drop t.goods duals) (omega (arith, length-drop t.goods duals, long))

  pub passing : PassesFairness trade (certificate_of (length t.trees) pool weights) (violation_of (prices_at trade x) v) (fraction_at x t.goods)
  passing =
      let (one, other) = lowered_together at.cut at.den (take n (drop t.goods duals)) (drop n (drop t.goods duals)) own-low members-low in
      let d : ℕ = common_den weights in
      let ks : List ℕ = take n (nums_over d weights) in
      let ns : List ℕ = drop n (nums_over d weights) in
      let front = nums-front n d (weights_of_duals at.cut (take n (drop t.goods duals))) (weights_of_duals at.den (drop n (drop t.goods duals))) own-long in
      let back = nums-back n d (weights_of_duals at.cut (take n (drop t.goods duals))) (weights_of_duals at.den (drop n (drop t.goods duals))) own-long in
      let own : AreWeights at.cut (take n (drop t.goods duals)) d ks = subst (AreWeights at.cut (take n (drop t.goods duals)) d) (sym front) one in
      let rest : AreWeights at.den (drop n (drop t.goods duals)) d ns = subst (AreWeights at.den (drop n (drop t.goods duals)) d) (sym back) other in
      duals_pass_fairness trade at.cut has.prices at.delta pool x duals v d ks ns has.market (proper-pool t at pool state).0
      (at_prices (λ e. IsLeast (fairness_program trade at.cut at.delta e pool) x) least)
      (at_prices (λ e. AreDuals (fairness_program trade at.cut at.delta e pool) x duals) are)
      (at_prices (λ e. HasNoneForFair trade at.cut at.delta e x) none) violates own
      (at_prices (λ e. AreWeights e (drop n (drop t.goods duals)) d ns) rest)

-- what is found is fair, and its certificate shows it
pub fair-parts : (t : ProvisionalTrade) (at : FairStage) → IsProvisional t → (pool : List Member) → IsState t at pool → (found : Found) → IsFound t at pool found
    → AreFair (paid t at) found.prices × IsDistance (paid t at) found.prices found.distance × Equals (violation_of found.prices found.violation) (record { num = at.delta; den = at.den })
    × PassesFairness (paid t at) found.certificate (violation_of found.prices found.violation) found.distance
fair-parts t at is pool state found end =
    let (x, solved, none, same, distance) = end.point in
    let v : ℤ = found.violation in
    let violates : HasViolation t (prices_at (paid t at) x) v = subst (λ p. HasViolation t p v) same end.violates in
    let (fair, near, equal) = fair-end t at is pool state x solved none v violates in
    let passes = passing t at is pool state x solved none v violates in
    let P : Prices → Fraction → FairCertificate → Type 0 = λ p d c. AreFair (paid t at) p × IsDistance (paid t at) p d × Equals (violation_of p v) (record { num = at.delta; den = at.den })
    × PassesFairness (paid t at) c (violation_of p v) d in
    let cert = certificate_of (length t.trees) pool (fair_weights (paid t at) at.cut at.delta at.den pool) in
    let base : P (prices_at (paid t at) x) (fraction_at x t.goods) cert = (fair, near, equal, passes) in
    let one : P found.prices (fraction_at x t.goods) cert = subst (λ p. P p (fraction_at x t.goods) cert) (sym same) base in
    let two : P found.prices found.distance cert = subst (λ d. P found.prices d cert) (sym distance) one in
    subst (λ c. P found.prices found.distance c) (sym end.certificate.value) two
