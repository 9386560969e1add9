-- The fairness stage: its program over a pool, its states, and the limits at which it may end.
use Rattle.std.specs.Prelude.{ℕ, suc, ◌*◌, ◌<◌, ◌≤◌, ◌≡◌, ◌⊎◌, ◌^◌, List, [], ◌∷◌, ◌++◌, length, map, drop, take, Any, ℤ, pos, neg_ℤ, ◌-ℤ◌}
use Rattle.std.specs.Prelude.{◌*ℤ◌, ◌<ℤ◌, Option, Some}
use Rattle.std.specs.List.{flat_map}
use Rattle.ice_defs.specs.Sum.{numbers_below}
use Rattle.ice_defs.specs.Fraction.{Fraction, fraction_at}
use Rattle.ice_defs.specs.Program.{Constraint, Program}
use Rattle.ice_defs.specs.Trace.{wide_end, pivots_end, trace_end}
use Rattle.ice_defs.specs.PricingLimit.{fairness_stage, LimitKind, wide_limit, pivots_limit, rows_limit, den_limit}
use Rattle.ice_defs.specs.PricingRun.{Member, StageAt, only_at, common_den, num_over, worth_above, units_above, point_at, duals_at}
use Rattle.ice_defs.specs.PricingRun.{solution_prices, Violates, IsBestSet, HasNoneToAdd}
use Rattle.ice_pricing_laws.specs.Weights.{weights_of_duals}
use Rattle.ice_fair_laws.specs.Fair.{PaidTrade, own_units}

-- the stage, with the violation of accurate prices over their denominator
abbrev pub fairness_at : ℤ → ℕ → StageAt
fairness_at delta den = record { stage = fairness_stage; delta = delta; den = den }

module _ (t : PaidTrade) (cut_den : ℕ) (delta : ℤ) (den : ℕ) where
  -- a payment over the cut's denominator
  abbrev pub payment_num : ℕ → ℤ
  payment_num b = num_over cut_den (fraction_at t.payments b)

  -- the units of a bidder's own set, good by good, times a factor
  abbrev pub set_units : ℤ → ℕ → List ℤ
  set_units factor b = map (λ g. factor *ℤ own_units t b g) (numbers_below t.goods)

  -- the distance covers the payment less the cost
  abbrev pub over_row : ℕ → Constraint
  over_row b = record { coeffs = set_units (pos cut_den) b ++ pos cut_den ∷ []; least = payment_num b }

  -- and the cost less the payment
  abbrev pub under_row : ℕ → Constraint
  under_row b = record { coeffs = set_units (neg_ℤ (pos cut_den)) b ++ pos cut_den ∷ []; least = neg_ℤ (payment_num b) }

  -- two rows a bidder
  abbrev pub bidder_rows : ℕ → List Constraint
  bidder_rows b = over_row b ∷ under_row b ∷ []

  abbrev pub cap_row : ℕ → Constraint
  cap_row g = record { coeffs = only_at (suc t.goods) g (neg_ℤ (pos 1)); least = neg_ℤ t.cap }

  abbrev pub member_row : Member → Constraint
  member_row m = record {
    coeffs = units_above t.trees t.weights t.sets t.goods t.cap (pos (100 * den)) m ++ pos 0 ∷ [];
    least = (pos den *ℤ worth_above t.trees t.weights t.sets t.goods t.cap m) -ℤ delta;
  }

  -- no price is above the cap, and no member's excess
  -- above delta over den; the distance is made least
  abbrev pub fairness_program : List Member → Program
  fairness_program pool = record {
    costs = only_at (suc t.goods) t.goods (pos 1);
    rows = map cap_row (numbers_below t.goods) ++ (flat_map bidder_rows (numbers_below (length t.trees)) ++ map member_row pool);
  }

  -- the least point at which the trace of the program ends, and the duals there
  abbrev pub fair_solution : List Member → Option (List Fraction)
  fair_solution pool = point_at t.trees t.weights t.sets t.goods t.cap (fairness_program pool) (trace_end (fairness_program pool))

  abbrev pub fair_duals : List Member → List Fraction
  fair_duals pool = duals_at t.trees t.weights t.sets t.goods t.cap (fairness_program pool) (trace_end (fairness_program pool))

  -- a satisfied set whose excess at the prices of a solution is above delta over den
  abbrev pub ViolatesFair : List Fraction → Member → Type 0
  ViolatesFair x m = Violates t.trees t.weights t.sets t.goods t.cap (fairness_at delta den) x m

  abbrev pub HasNoneForFair : List Fraction → Type 0
  HasNoneForFair x = HasNoneToAdd t.trees t.weights t.sets t.goods t.cap (fairness_at delta den) x

  abbrev pub fair_prices_den : List Fraction → ℕ
  fair_prices_den x = (solution_prices t.trees t.weights t.sets t.goods t.cap x).den

  -- a member may follow a pool: its bidder is the first with a
  -- set to add, and it is a best set of that bidder
  pub record MayFollowFair (pool : List Member) (m : Member) : Type 0 where
    pub room : length pool < 200
    pub solved : (x : List Fraction) × (fair_solution pool ≡ Some x) × (fair_prices_den x ≤ 2 ^ 32)
        × ViolatesFair x m × IsBestSet t.trees t.weights t.sets t.goods t.cap x m
        × ((other : Member) → other.bidder < m.bidder → ¬ ViolatesFair x other)

  -- the pools at the start of a turn
  pub data IsFairPool : List Member → Type 0 where
    starts : IsFairPool []
    follows : {pool : List Member} {m : Member} → IsFairPool pool → MayFollowFair pool m → IsFairPool (pool ++ m ∷ [])

  -- ---- the certificate

  -- the duals behind those of the goods: two a bidder, and one a member
  abbrev pub bidder_duals : List Member → List Fraction
  bidder_duals pool = take (2 * length t.trees) (drop t.goods (fair_duals pool))

  abbrev pub member_duals : List Member → List Fraction
  member_duals pool = drop (2 * length t.trees) (drop t.goods (fair_duals pool))

  -- the bidders' duals times the cut's denominator, and the members' times den, in lowest terms
  abbrev pub fair_weights : List Member → List Fraction
  fair_weights pool = weights_of_duals cut_den (bidder_duals pool) ++ weights_of_duals den (member_duals pool)

  -- the certificate's denominator or one of its numbers is above 2^24
  abbrev pub IsFairTooLarge : List Member → Type 0
  IsFairTooLarge pool = (2 ^ 24 < common_den (fair_weights pool))
      ⊎ Any (λ w. pos (2 ^ 24) <ℤ num_over (common_den (fair_weights pool)) w) (fair_weights pool)

  -- ---- limits

  -- the stage may end at this limit with this pool
  abbrev pub IsAtFairLimit : LimitKind → List Member → Type 0
  IsAtFairLimit wide_limit pool = trace_end (fairness_program pool) ≡ wide_end
  IsAtFairLimit pivots_limit pool = trace_end (fairness_program pool) ≡ pivots_end
  IsAtFairLimit rows_limit pool = (200 ≤ length pool) × (x : List Fraction) × (m : Member) × (fair_solution pool ≡ Some x)
      × ViolatesFair x m
  IsAtFairLimit den_limit pool = (x : List Fraction) × (fair_solution pool ≡ Some x)
      × ((2 ^ 32 < fair_prices_den x) ⊎ (HasNoneForFair x × IsFairTooLarge pool))

  pub record EndsAtFairLimit (kind : LimitKind) (pool : List Member) : Type 0 where
    pub turn : IsFairPool pool
    pub limit : IsAtFairLimit kind pool
