-- What a scan with a stage's allowed excess leads to.
use Rattle.std.proofs.Common.{◌<◌, ◌≤◌, ◌≡◌, ◌^◌, length, List, Some, ℕ, ℤ, refl}
use Rattle.ice_defs.specs.Fraction.{Fraction, IsFraction, Equals, fraction_at}
use Rattle.ice_defs.specs.PricingLimit.{Stage, accuracy_stage, balance_stage, fairness_stage}
use Rattle.ice_defs.specs.PricingRun.{Member, StageAt, solution, solution_prices, allowance, MayFollow}
use Rattle.ice_pricing.specs.Provisional.{ProvisionalTrade}
use Rattle.ice_price.specs.Programs.{allowed_excess}
use Rattle.ice_turns.specs.Scans.{IsFirstAbove}
use Rattle.ice_turns.proofs.Scanning.{first-violates, first-best, none-before}

pub allowed-is : (t : ProvisionalTrade) (at : StageAt) (x : List Fraction) → allowance t.trees t.weights t.sets t.goods t.cap at x ≡ allowed_excess at.stage (record { num = at.delta; den = at.den }) (fraction_at x t.goods)
allowed-is t at x = by at.stage at.delta at.den
  where
    by : (s : Stage) (delta : ℤ) (den : ℕ) → allowance t.trees t.weights t.sets t.goods t.cap (record { stage = s; delta = delta; den = den }) x ≡ allowed_excess s (record { num = delta; den = den }) (fraction_at x t.goods)
    by accuracy_stage delta den = refl
    by balance_stage delta den = refl
    by fairness_stage delta den = refl

-- a best set of the first bidder that has one above may follow
pub may-follow : (t : ProvisionalTrade) (at : StageAt) (x : List Fraction) (most : Fraction) → IsFraction most → IsFraction (allowance t.trees t.weights t.sets t.goods t.cap at x)
    → Equals most (allowance t.trees t.weights t.sets t.goods t.cap at x) → (pool : List Member) (m : Member) → length pool < 200
    → solution t.trees t.weights t.sets t.goods t.cap at pool ≡ Some x → (solution_prices t.trees t.weights t.sets t.goods t.cap x).den ≤ 2 ^ 32
    → IsFirstAbove t (solution_prices t.trees t.weights t.sets t.goods t.cap x) most m → MayFollow t.trees t.weights t.sets t.goods t.cap at pool m
may-follow t at x most proper own equal pool m room solved few is = record {
  room = room;
  solved = (
    x,
    solved,
    few,
    first-violates t at x most proper own equal m is,
    first-best t at x most proper own equal m is,
    none-before t at x most proper own equal m is,
  );
}
