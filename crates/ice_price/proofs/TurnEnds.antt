-- How a turn of a stage ends.
use Rattle.std.proofs.Common.{◌<◌, ◌≤◌, ◌≡◌, ◌^◌, inl, inr, List, length, drop, ℤ, pos, ◌≤ℤ◌, ap, sym, subst, ◌∙◌}
use Rattle.std.specs.List.{AllByRecursion}
use Rattle.ice_defs.specs.Fraction.{Fraction, IsFraction, Equals, fraction_at}
use Rattle.ice_defs.specs.Prices.{Prices}
use Rattle.ice_defs.specs.PricingLimit.{rows_limit, den_limit}
use Rattle.ice_defs.specs.PricingRun.{Member, StageAt, solution_prices, allowance, weights_at, common_den, num_over, HasNoneToAdd, MayFollow, IsAtLimit}
use Rattle.ice_defs.specs.Rows.{Certificate, HasCommonDivisor}
use Rattle.ice_pricing_laws.specs.Weights.{certificate_with, weights_of_duals, nums_of}
use Rattle.ice_pricing_laws.proofs.Scans.{certificate_fits}
use Rattle.ice_pricing.specs.Provisional.{ProvisionalTrade}
use Rattle.ice_pricing.specs.Priced.{HasViolation}
use Rattle.ice_defs.specs.declared.LimitKind.TheVariants as kind
use Rattle.ice_turns.specs.declared.ends.Stop.{Stop}
use Rattle.ice_turns.specs.declared.ends.Stop.TheVariants.{AtLimit, WithoutMemory}
use Rattle.ice_turns.specs.Large.{AreLarge, IsStoppedBy}
use Rattle.ice_turns.specs.Scans.{AreAllowed, IsFirstAbove}
use Rattle.ice_turns.specs.Steps.{IsStepStop}
use Rattle.ice_turns.proofs.Scanning.{first-violates, none-to-add}
use Rattle.ice_price.specs.Certified.{IsCertificate}
use Rattle.ice_price.specs.Ends.{IsStopped}
use Rattle.ice_price.specs.Programs.{dual_factor, allowed_excess}
use Rattle.ice_price.specs.Runs.{IsSolved, IsTurn, IsEndWith, IsStageEnd}
use Rattle.ice_price.specs.declared.turn.Turn.{Turn}
use Rattle.ice_price.specs.declared.turn.Turn.TheVariants.{Adds, Ends}
use Rattle.ice_price.proofs.Scanning.{allowed-is, may-follow}
use Rattle.ice_price.proofs.Turning.{weights-are}

module _ (t : ProvisionalTrade) (at : StageAt) (pool : List Member) (x y : List Fraction) (is : IsSolved t at pool x y) where
  abbrev weights : List Fraction
  weights = weights_of_duals (dual_factor at.stage at.den) (drop t.goods y)

  abbrev prices : Prices
  prices = solution_prices t.trees t.weights t.sets t.goods t.cap x

  same-weights : weights_at t.trees t.weights t.sets t.goods t.cap at pool ≡ weights
  same-weights = weights-are t at pool y is.duals_are

  pub stage-end : (p : Prices) (v : ℤ) (c : Certificate) → p ≡ prices → p.den ≤ 2 ^ 32 → ¬ HasCommonDivisor p → HasNoneToAdd t.trees t.weights t.sets t.goods t.cap at x
      → HasViolation t p v → IsCertificate pool weights c → IsStageEnd t at pool p v c
  stage-end p v c same few lowest none violates cert = record {
    point = (x, is.solved, none, same);
    den_fits = few;
    lowest = lowest;
    violates = violates;
    certificate_is = cert.value ∙ ap (λ ws. certificate_with (common_den ws) pool (nums_of ws)) (sym same-weights);
    fits = certificate_fits t.trees t.weights t.sets t.goods t.cap at pool
        (subst (λ ws. common_den ws ≤ 2 ^ 32) (sym same-weights) cert.den_fits)
        (subst (λ ws. AllByRecursion (λ w. num_over (common_den ws) w ≤ℤ pos (2 ^ 32)) ws) (sym same-weights) cert.nums_fit);
    limited = cert.limited;
  }

  pub too-large : HasNoneToAdd t.trees t.weights t.sets t.goods t.cap at x → AreLarge (2 ^ 32) weights → IsAtLimit t.trees t.weights t.sets t.goods t.cap den_limit at pool
  too-large none large = (x, is.solved, inr (none, subst (AreLarge (2 ^ 32)) (sym same-weights) large))

  pub long-den : 2 ^ 32 < prices.den → IsAtLimit t.trees t.weights t.sets t.goods t.cap den_limit at pool
  long-den big = (x, is.solved, inl big)

-- what a scan with the stage's allowed excess leads to
module _ (t : ProvisionalTrade) (at : StageAt) (pool : List Member) (x y : List Fraction) (is : IsSolved t at pool x y) (p : Prices) (same : p ≡ solution_prices t.trees t.weights t.sets t.goods t.cap x)
    (most last : Fraction) (read : last ≡ fraction_at x t.goods) (proper : IsFraction most) (own : IsFraction (allowed_excess at.stage (record { num = at.delta; den = at.den }) last))
    (equal : Equals most (allowed_excess at.stage (record { num = at.delta; den = at.den }) last)) where
  own-is : allowed_excess at.stage (record { num = at.delta; den = at.den }) last ≡ allowance t.trees t.weights t.sets t.goods t.cap at x
  own-is = ap (allowed_excess at.stage (record { num = at.delta; den = at.den })) read ∙ sym (allowed-is t at x)

  there : Equals most (allowance t.trees t.weights t.sets t.goods t.cap at x)
  there = subst (λ (a : Fraction). Equals most a) own-is equal

  allowed-proper : IsFraction (allowance t.trees t.weights t.sets t.goods t.cap at x)
  allowed-proper = subst IsFraction own-is own

  adds-full : (m : Member) → 200 ≤ length pool → IsFirstAbove t p most m → IsAtLimit t.trees t.weights t.sets t.goods t.cap rows_limit at pool
  adds-full m full first = (full, x, m, is.solved, first-violates t at x most proper allowed-proper there m (subst (λ q. IsFirstAbove t q most m) same first))

  pub adds : (m : Member) → length pool < 200 → p.den ≤ 2 ^ 32 → IsFirstAbove t p most m → MayFollow t.trees t.weights t.sets t.goods t.cap at pool m
  adds m room few first =
      may-follow t at x most proper allowed-proper there pool m room is.solved (subst (λ (q : Prices). q.den ≤ 2 ^ 32) same few) (subst (λ q. IsFirstAbove t q most m) same first)

  pub none-left : AreAllowed t p most (length t.trees) → HasNoneToAdd t.trees t.weights t.sets t.goods t.cap at x
  none-left are = none-to-add t at x most proper allowed-proper there (subst (λ q. AreAllowed t q most (length t.trees)) same are)

  -- a stop of the step is the turn's
  pub step-stops : (stop : Stop) → IsStepStop t (length pool) p most stop → IsStopped t at pool stop
  step-stops (AtLimit kind.Wide) h = absurd h
  step-stops (AtLimit kind.Pivots) h = absurd h
  step-stops (AtLimit kind.Rows) (full, m, first) = adds-full m full first
  step-stops (AtLimit kind.Den) big = long-den t at pool x y is (subst (λ (q : Prices). 2 ^ 32 < q.den) same big)
  step-stops WithoutMemory h = absurd h

  pub stops : AreAllowed t p most (length t.trees) → (stop : Stop) → IsStoppedBy (AreLarge (2 ^ 32) (weights_of_duals (dual_factor at.stage at.den) (drop t.goods y))) stop → IsStopped t at pool stop
  stops are (AtLimit kind) (e, large) = subst (λ k. IsStopped t at pool (AtLimit k)) (sym e) (too-large t at pool x y is (none-left are) large)
  stops are WithoutMemory h = tt

-- an end with the stage's certificate is the stage's
pub end-turn : (t : ProvisionalTrade) (at : StageAt) (pool : List Member) (x y : List Fraction) → IsSolved t at pool x y → (p : Prices) (v : ℤ) (made : Turn)
    → p ≡ solution_prices t.trees t.weights t.sets t.goods t.cap x → p.den ≤ 2 ^ 32 → ¬ HasCommonDivisor p → HasNoneToAdd t.trees t.weights t.sets t.goods t.cap at x → HasViolation t p v
    → IsEndWith pool (weights_of_duals (dual_factor at.stage at.den) (drop t.goods y)) p v made → IsTurn t at pool made
end-turn t at pool x y is p v (Adds m) same few lowest none violates h = absurd h
end-turn t at pool x y is p v (Ends end) same few lowest none violates (prices, violation, cert) =
    let P : Prices → Type 0 = λ q. IsStageEnd t at pool q end.violation end.certificate in
    let Q : ℤ → Type 0 = λ z. IsStageEnd t at pool p z end.certificate in
    subst P (sym prices) (subst Q (sym violation) (stage-end t at pool x y is p v end.certificate same few lowest none violates cert))
