-- Certificates of the fairness stage.
use Rattle.std.specs.Prelude.{ℕ, ◌<◌, ◌≤◌, ◌≡◌, ◌+◌, ◌*◌, ◌++◌, ◌^◌, List, length, take, drop, map, slice_index_or, pos, ◌≤ℤ◌}
use Rattle.std.specs.List.{AllByRecursion}
use Rattle.ice_defs.specs.Sum.{numbers_below}
use Rattle.ice_defs.specs.Fraction.{Fraction}
use Rattle.ice_defs.specs.PricingRun.{Member, common_den, num_over}
use Rattle.ice_pricing_laws.specs.Weights.{rows_with, weights_of_duals, nums_over}
use Rattle.ice_pricing.specs.Provisional.{ProvisionalTrade}
use Rattle.ice_fair_laws.specs.Fair.{FairCertificate}
use Rattle.ice_fair_stage.specs.Stages.{FairStage}

-- a denominator from 1 to 2^24, two numbers a bidder and
-- at most 200 rows of weights, all at most 2^24
pub record IsFairLimited (bidders : ℕ) (c : FairCertificate) : Type 0 where
  pub positive : 0 < c.den
  pub den_fits : c.den ≤ 2 ^ 24
  pub low_count : length c.low ≡ bidders
  pub high_count : length c.high ≡ bidders
  pub low_fits : AllByRecursion (λ n. n ≤ 2 ^ 24) c.low
  pub high_fits : AllByRecursion (λ n. n ≤ 2 ^ 24) c.high
  pub few : length c.rows ≤ 200
  pub weights_fit : AllByRecursion (λ row. row.weight ≤ 2 ^ 24) c.rows

-- the numbers at even and at odd places
abbrev pub lows_of : ℕ → List ℕ → List ℕ
lows_of bidders ns = map (λ b. slice_index_or ns (2 * b) 0) (numbers_below bidders)

abbrev pub highs_of : ℕ → List ℕ → List ℕ
highs_of bidders ns = map (λ b. slice_index_or ns (2 * b + 1) 0) (numbers_below bidders)

-- numbers over a denominator: two a bidder, and then one a member of the pool
abbrev pub certificate_with : ℕ → List Member → ℕ → List ℕ → FairCertificate
certificate_with bidders pool den ns = record {
  den = den;
  low = lows_of bidders (take (2 * bidders) ns);
  high = highs_of bidders (take (2 * bidders) ns);
  rows = rows_with pool (drop (2 * bidders) ns);
}

-- weights over their least common denominator
abbrev pub certificate_of : ℕ → List Member → List Fraction → FairCertificate
certificate_of bidders pool ws = certificate_with bidders pool (common_den ws) (nums_over (common_den ws) ws)

-- the certificate of these weights, where they fit
pub record IsCertificate (bidders : ℕ) (pool : List Member) (ws : List Fraction) (c : FairCertificate) : Type 0 where
  pub value : c ≡ certificate_of bidders pool ws
  pub limited : IsFairLimited bidders c
  pub den_fits : common_den ws ≤ 2 ^ 24
  pub nums_fit : AllByRecursion (λ w. num_over (common_den ws) w ≤ℤ pos (2 ^ 24)) ws

-- the weights that duals make: those of the bidders' rows times the
-- cut's denominator, and those of the members' times that of prices
abbrev pub weights_at : ProvisionalTrade → FairStage → List Fraction → List Fraction
weights_at t at duals = weights_of_duals at.cut (take (2 * length t.trees) (drop t.goods duals))
    ++ weights_of_duals at.den (drop (2 * length t.trees) (drop t.goods duals))
