-- Assignments trade, and the best trade is no better than the best assignment.
use Rattle.std.proofs.Common.{ℕ, ◌<◌, ◌≡◌, List, [], length, get_or, ℤ, pos, ◌≤ℤ◌, refl, arith, ap}
use Rattle.std.proofs.lemmas.Int.{ints}
use Rattle.ice_defs.specs.Sum.{sum_below}
use Rattle.ice_defs.specs.Set.{NodeSet, Weights, value, units}
use Rattle.ice_defs.specs.Trade.{Assignment, tree_of, set_of, weights_of, is_exact, IsFeasible, total_value}
use Rattle.ice_defs.specs.Market.{Market, Trades, Serves, IsWorth, IsTotalWorth, IsFeasibleTrade, trades_of}
use Rattle.ice_defs.proofs.Sums.{sum_below-same, sum_below-le}
use Rattle.ice_regret_laws.specs.Laws.{AssignmentsTrade, RegretBoundsTrades}
use Rattle.ice_regret_laws.proofs.Covered.{covered_same, covered_along, covered_sums}
use Rattle.ice_regret_laws.proofs.Greatest.{worth_there}
use Rattle.ice_regret_laws.proofs.Chosen.{chosen}

module _ (market : Market) where
  -- a bidder's set serves its part of the trade
  pub own_serves : (a : Assignment) → IsFeasible market.trees market.exact a → (b : ℕ) → b < length market.trees
      → Serves market.exact (tree_of market.trees b) (trades_of market a b) (set_of a b)
  own_serves a feasible b h = (feasible.satisfied b h, λ g i. covered_same _ _)

  -- ---- the trade of an assignment is worth at least the assignment

  abbrev IsWorthAt : List Weights → Trades → ℕ → ℤ → Type 0
  IsWorthAt v trades b worth = IsWorth market.exact (tree_of market.trees b) (weights_of v b) (trades b) worth

  pub own_worth : (v : List Weights) (a : Assignment) → IsFeasible market.trees market.exact a
      → (worth : ℤ) × IsTotalWorth market v (trades_of market a) worth × (total_value a v ≤ℤ worth)
  own_worth v a feasible =
      let (worths, size, are) = chosen (IsWorthAt v (trades_of market a)) (pos 0) (length market.trees)
      (λ b h. worth_there market.exact (tree_of market.trees b) (weights_of v b) (trades_of market a b) (set_of a b) (own_serves a feasible b h)) in
      let worth : ℕ → ℤ = λ b. get_or worths b (pos 0) in
      let values : ℕ → ℤ = λ b. value (set_of a b) (weights_of v b) in
      let most = sum_below-le values worth (length market.trees) (λ b h. (are b h).bound (set_of a b) (own_serves a feasible b h)) in
      (sum_below worth (length market.trees), (worth, are, refl), omega (arith, ints, most, ap (sum_below values) feasible.same_length))

  -- ---- some assignment is worth as much as a trade

  abbrev Attains : List Weights → Trades → (ℕ → ℤ) → ℕ → NodeSet → Type 0
  Attains v trades worth b s = Serves market.exact (tree_of market.trees b) (trades b) s × (value s (weights_of v b) ≡ worth b)

  pub as_good : (v : List Weights) (trades : Trades) (worth : ℤ) → IsFeasibleTrade market trades → IsTotalWorth market v trades worth
      → (a : Assignment) × IsFeasible market.trees market.exact a × (total_value a v ≡ worth)
  as_good v trades worth feasible (worths, are, sum) =
      by (chosen (Attains v trades worths) [] (length market.trees) (λ b h. let (s, serves, has) = (are b h).attained in (s, (serves, has))))
    where
      by : (a : Assignment) × (length a ≡ length market.trees) × ((b : ℕ) → b < length market.trees → Attains v trades worths b (set_of a b))
          → (a : Assignment) × IsFeasible market.trees market.exact a × (total_value a v ≡ worth)
      by (a, size, attain) = (
        a,
        record {
          same_length = size;
          satisfied = λ b h. ((attain b h).0).0;
          balanced = λ g h.
              covered_along (is_exact market.exact g) _ _ _
              (covered_sums (is_exact market.exact g) (λ b. units (tree_of market.trees b) (set_of a b) g) (λ b. trades b g) (length market.trees) (λ b i. ((attain b i).0).1 g h))
              (feasible.balanced g h);
        },
        total,
      )
        where
          total : total_value a v ≡ worth
          total =
              let values : ℕ → ℤ = λ b. value (set_of a b) (weights_of v b) in
              omega (arith, ints, ap (sum_below values) size, sum_below-same values worths (length market.trees) (λ b h. (attain b h).1), sum)

pub assignments_trade : AssignmentsTrade
assignments_trade market a owned feasible = record {
  served = λ b h. (set_of a b, own_serves market a feasible b h);
  balanced = λ g h. feasible.balanced g h;
  owned = λ b g h i. owned b g (set_of a b) h i (feasible.satisfied b h);
}

pub regret_bounds_trades : RegretBoundsTrades
regret_bounds_trades market bounds final regret feasible is k v trades worth profile feasible_trade total =
    let (a, ok, has) = as_good market v trades worth feasible_trade total in
    let (final_worth, final_total, least) = own_worth market v final feasible in
    let most = is.bound k v a profile ok in
    (final_worth, final_total, omega (arith, ints, has, least, most))
