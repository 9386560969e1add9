-- Laws of the fairness stage, as statements.
use Rattle.std.specs.Prelude.{ℕ, ◌+◌, ◌*◌, ◌<◌, ◌≤◌, ◌≡◌, ◌^◌, List, ◌++◌, length, map, take, drop, slice_index_or, ℤ, pos}
use Rattle.std.specs.Prelude.{◌≤ℤ◌, Some}
use Rattle.std.specs.List.{AllByRecursion}
use Rattle.std.specs.Int.{◌∣◌}
use Rattle.ice_defs.specs.Sum.{numbers_below}
use Rattle.ice_defs.specs.Prices.{Prices, ArePrices}
use Rattle.ice_defs.specs.Fraction.{Fraction, Equals, fraction_at}
use Rattle.ice_defs.specs.Program.{IsPoint, IsLeast, AreDuals, IsInfeasible, AreNonNegative}
use Rattle.ice_defs.specs.PricingRun.{Member, solution_prices, common_den, IsBestSet}
use Rattle.ice_pricing_laws.specs.Laws.{AreMembers}
use Rattle.ice_pricing_laws.specs.Weights.{AreWeights, rows_with, weights_of_duals, nums_over}
use Rattle.ice_pricing_laws.specs.Scans.{AreBest}
use Rattle.ice_fair_laws.specs.Fair.{PaidTrade, FairCertificate, IsDistance, HasViolationOf, AreAccurate, AreFair, PassesFairness}
use Rattle.ice_fair_laws.specs.Laws.{IsPaidTrade, violation_of}
use Rattle.ice_fair_laws.specs.FairRun.{fairness_program, fair_solution, fair_duals, fair_prices_den, ViolatesFair, HasNoneForFair}
use Rattle.ice_fair_laws.specs.FairRun.{MayFollowFair, IsFairPool}

-- each payment's denominator divides this one
pub record IsCutDen (t : PaidTrade) (n : ℕ) : Type 0 where
  pub positive : 0 < n
  pub divides : (b : ℕ) → b < length t.trees → (fraction_at t.payments b).den ∣ n

-- a trade of the stage: a cap that isn't below 0, payments over the
-- cut's denominator, and accurate prices with their violation
pub record IsFairMarket (t : PaidTrade) (cut_den : ℕ) (p : Prices) (delta : ℤ) : Type 0 where
  pub paid : IsPaidTrade t
  pub cut : IsCutDen t cut_den
  pub not_negative : pos 0 ≤ℤ t.cap
  pub accurate : AreAccurate t p
  pub violation : HasViolationOf t p delta

abbrev pub prices_at : PaidTrade → List Fraction → Prices
prices_at t x = solution_prices t.trees t.weights t.sets t.goods t.cap x

abbrev pub AreMembersOf : PaidTrade → List Member → Type 0
AreMembersOf t pool = AreMembers t.trees t.weights t.sets pool

-- the solution over a pool is a least point of the program, with its duals
abbrev pub FairTracesSolve : Type 0
FairTracesSolve = (t : PaidTrade) (cut_den : ℕ) (delta : ℤ) (den : ℕ) (pool : List Member) (x : List Fraction)
    → fair_solution t cut_den delta den pool ≡ Some x
    → IsLeast (fairness_program t cut_den delta den pool) x
    × AreDuals (fairness_program t cut_den delta den pool) x (fair_duals t cut_den delta den pool)

-- the program is never infeasible
abbrev pub FairIsFeasible : Type 0
FairIsFeasible = (t : PaidTrade) (cut_den : ℕ) (p : Prices) (delta : ℤ) (pool : List Member)
    → IsFairMarket t cut_den p delta → AreMembersOf t pool → ¬ IsInfeasible (fairness_program t cut_den delta p.den pool)

-- the prices of a point are within the cap
abbrev pub FairIsWithin : Type 0
FairIsWithin = (t : PaidTrade) (cut_den : ℕ) (delta : ℤ) (den : ℕ) (pool : List Member) (x : List Fraction)
    → IsPoint (fairness_program t cut_den delta den pool) x → ArePrices t.goods t.cap (prices_at t x)

-- the members of a pool are choices, and there are at most 200
abbrev pub FairPoolIsProper : Type 0
FairPoolIsProper = (t : PaidTrade) (cut_den : ℕ) (delta : ℤ) (den : ℕ) (pool : List Member) → IsFairPool t cut_den delta den pool
    → AreMembersOf t pool × (length pool ≤ 200)

-- where no set is to be added, the prices of the least point are fair, have the
-- violation of the accurate ones, and the point's last number is their distance
abbrev pub LeastIsFair : Type 0
LeastIsFair = (t : PaidTrade) (cut_den : ℕ) (p : Prices) (delta : ℤ) (pool : List Member) (x : List Fraction) (v : ℤ)
    → IsFairMarket t cut_den p delta → AreMembersOf t pool → IsLeast (fairness_program t cut_den delta p.den pool) x
    → HasNoneForFair t cut_den delta p.den x → HasViolationOf t (prices_at t x) v
    → AreFair t (prices_at t x) × IsDistance t (prices_at t x) (fraction_at x t.goods)
    × Equals (violation_of (prices_at t x) v) (violation_of p delta)

-- ---- the certificate

-- numbers of the bidders' rows, two a bidder, and of the members' rows, over one denominator
abbrev pub fair_certificate : PaidTrade → ℕ → List ℕ → List Member → List ℕ → FairCertificate
fair_certificate t den ks pool ns = record {
  den = den;
  low = map (λ b. slice_index_or ks (2 * b) 0) (numbers_below (length t.trees));
  high = map (λ b. slice_index_or ks (2 * b + 1) 0) (numbers_below (length t.trees));
  rows = rows_with pool ns;
}

-- the duals of such a least point, the bidders' times the cut's denominator and
-- the members' times the violation's, give a certificate that passes
abbrev pub DualsPassFairness : Type 0
DualsPassFairness =
    (t : PaidTrade) (cut_den : ℕ) (p : Prices) (delta : ℤ) (pool : List Member) (x y : List Fraction) (v : ℤ) (den : ℕ) (ks ns : List ℕ)
    → IsFairMarket t cut_den p delta → AreMembersOf t pool
    → IsLeast (fairness_program t cut_den delta p.den pool) x → AreDuals (fairness_program t cut_den delta p.den pool) x y
    → HasNoneForFair t cut_den delta p.den x → HasViolationOf t (prices_at t x) v
    → AreWeights cut_den (take (2 * length t.trees) (drop t.goods y)) den ks
    → AreWeights p.den (drop (2 * length t.trees) (drop t.goods y)) den ns
    → PassesFairness t (fair_certificate t den ks pool ns) (violation_of (prices_at t x) v) (fraction_at x t.goods)

-- ---- weights in lowest terms

-- two lists of duals, each times a factor, in lowest
-- terms and over the least common denominator of all
abbrev pub LoweredTogether : Type 0
LoweredTogether = (k l : ℕ) (fs gs : List Fraction) → AreNonNegative fs → AreNonNegative gs
    → AreWeights k fs (common_den (weights_of_duals k fs ++ weights_of_duals l gs))
    (nums_over (common_den (weights_of_duals k fs ++ weights_of_duals l gs)) (weights_of_duals k fs))
    × AreWeights l gs (common_den (weights_of_duals k fs ++ weights_of_duals l gs))
    (nums_over (common_den (weights_of_duals k fs ++ weights_of_duals l gs)) (weights_of_duals l gs))

-- ---- turns

-- a best set that violates, where those of the bidders before it don't, may follow the pool
abbrev pub FirstMayFollowFair : Type 0
FirstMayFollowFair =
    (t : PaidTrade) (cut_den : ℕ) (delta : ℤ) (den : ℕ) (pool : List Member) (x : List Fraction) (best : ℕ → Member) (m : Member)
    → length pool < 200 → fair_solution t cut_den delta den pool ≡ Some x → fair_prices_den t cut_den delta den x ≤ 2 ^ 32
    → AreBest t.trees t.weights t.sets t.goods t.cap x best m.bidder
    → ((b : ℕ) → b < m.bidder → ¬ ViolatesFair t cut_den delta den x (best b))
    → IsBestSet t.trees t.weights t.sets t.goods t.cap x m → ViolatesFair t cut_den delta den x m → MayFollowFair t cut_den delta den pool m

-- each row of the program has as many coefficients as there are costs, one per good and one more
abbrev pub FairIsShaped : Type 0
FairIsShaped = (t : PaidTrade) (cut_den : ℕ) (delta : ℤ) (den : ℕ) (pool : List Member)
    → (length (fairness_program t cut_den delta den pool).costs ≡ t.goods + 1)
    × (length (fairness_program t cut_den delta den pool).rows ≡ t.goods + (2 * length t.trees + length pool))
    × AllByRecursion (λ row. length row.coeffs ≡ t.goods + 1) (fairness_program t cut_den delta den pool).rows
