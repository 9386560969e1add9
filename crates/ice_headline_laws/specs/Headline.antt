-- What a closed session promises to whoever takes part in it: the headline. It speaks of what the
-- session states (its final sets, regret, discounts, payments, surplus) and of the final bounds,
-- between which each bidder says that its true values lie.
--
-- True values need not be whole. So a profile (of true values inside the bounds) is a whole number
-- k above 0, and at each node a whole number between k times the lower and k times the upper value:
-- the true value there is that number divided by k. Where k stands before an amount of money below,
-- the other side of the comparison is k times too large as well.
use Rattle.std.specs.Prelude.{ℕ, ◌≡◌, ◌<◌, List, length, map, slice_index_or, ℤ, pos, ◌≤ℤ◌}
use Rattle.std.specs.List.{AllByRecursion}
use Rattle.ice_defs.specs.Sum.{sum_over}
use Rattle.ice_defs.specs.Set.{Weights}
use Rattle.ice_defs.specs.Trade.{Assignment, tree_of, weights_of, IsFeasible, total_value, IsBestOfAll}
use Rattle.ice_defs.specs.Bounds.{Bounds, IsProfile}
use Rattle.ice_defs.specs.Market.{Market, IsWorth, IsFeasibleTrade, trades_of}
use Rattle.ice_defs.specs.Regret.{IsRegret, NoTradeBeatsBy}
use Rattle.ice_defs.specs.Fraction.{Fraction, whole_number, IsFraction, Equals, AtMost, times, sum_of, fraction_at}
use Rattle.ice_defs.specs.Vickrey.{IsVickrey}
use Rattle.ice_defs.specs.Threshold.{IsThreshold, ArePayments}
use Rattle.ice_defs.specs.Weighing.{lower_weights}
use Rattle.ice_defs.specs.Exchange.{market_of, trees_of, exact_of, names_of}
use Rattle.ice_defs.specs.Session.{Session}
use Rattle.ice_headline_laws.specs.Right.{IsRight, own_values, final_bounds, vickreys_of, discounts_of, payments_of}

-- the final assignment: the set of each bidder's tree that is traded
abbrev pub final_sets : Session → Assignment
final_sets s = s.closed.settlement.final.sets

-- the stated total value, which `total` shows to be what the final sets are worth at lower values
abbrev pub final_total : Session → ℤ
final_total s = s.closed.settlement.final.value

-- the stated number of each bidder is its Vickrey discount at these weights
abbrev pub AreVickreys : Session → List Weights → List ℤ → Type 0
AreVickreys s weights vickreys = (b : ℕ) → b < length (trees_of s.exchange)
    → IsVickrey (trees_of s.exchange) (exact_of s.exchange) weights b (slice_index_or vickreys b (pos 0))

-- under every profile, no bidder pays more than its final trade is worth to it
abbrev pub NobodyOverpays : Market → List Bounds → Assignment → List Fraction → Type 0
NobodyOverpays market bounds final payments =
    (k : ℕ) (v : List Weights) (b : ℕ) (worth : ℤ)
    → IsProfile bounds k v → b < length market.trees
    → IsWorth market.exact (tree_of market.trees b) (weights_of v b) (trades_of market final b) worth
    → AtMost (times (whole_number (pos k)) (fraction_at payments b)) (whole_number worth)

-- the headline of a session
pub record Headline (s : Session) : Type 0 where
  -- Feasible: each bidder's final set is a satisfied set of its tree, no good is bought that isn't
  -- sold, and nobody gives what it doesn't own.
  pub feasible : IsFeasible (trees_of s.exchange) (exact_of s.exchange) (final_sets s)
  pub final_trade : IsFeasibleTrade (market_of s.exchange) (trades_of (market_of s.exchange) (final_sets s))
  -- Efficient to within the regret: whatever the true values inside the final bounds are, no
  -- feasible trade is worth more than the final one by more than the regret, all bidders together.
  pub no_trade_beats : NoTradeBeatsBy (market_of s.exchange) (final_bounds s) (final_sets s) s.closed.settlement.regret
  -- The regret is exact: under some true values inside the final bounds, some feasible assignment
  -- is worth just that much more than the final one.
  pub regret : IsRegret (market_of s.exchange) (final_bounds s) (final_sets s) s.closed.settlement.regret
  -- Efficient at lower values: no feasible assignment is worth more than the total value, which is
  -- what the final sets are worth there.
  pub total : total_value (final_sets s) (lower_weights (final_bounds s)) ≡ final_total s
  pub best : IsBestOfAll (trees_of s.exchange) (exact_of s.exchange) (lower_weights (final_bounds s)) (final_total s)
  -- Vickrey discounts: each is the total value less the best that the others reach without that
  -- bidder, at lower values.
  pub vickreys : AreVickreys s (lower_weights (final_bounds s)) (vickreys_of s.closed)
  -- The Threshold rule of Parkes, Kalagnanam and Eso (2001): discounts from 0 to the Vickrey
  -- discounts. Where these sum to less than the total value, each is granted in full. Else the
  -- discounts sum to the total value, and no others that it can pay have a smaller largest
  -- shortfall from the Vickrey discounts. That fixes them: with that shortfall E, each is at least
  -- its Vickrey discount less E, and at least 0; and these least amounts sum to the total value
  -- already, or a smaller E would do.
  pub discounts : IsThreshold (vickreys_of s.closed) (final_total s) (discounts_of s.closed)
  -- Payments: each bidder, under its own name, pays the lower value of its final set less its
  -- discount; below 0, it is paid that much. Each is a fraction with a denominator above 0.
  pub names : map (λ p. p.name) s.closed.payments ≡ names_of s.exchange
  pub payments : ArePayments (own_values (final_bounds s) (final_sets s)) (discounts_of s.closed) (payments_of s.closed)
  pub proper : IsFraction s.closed.surplus × AllByRecursion IsFraction (payments_of s.closed)
  -- Individually rational: whatever its true values inside its final bounds are, nobody pays more
  -- than its final trade is worth to it.
  pub nobody_overpays : NobodyOverpays (market_of s.exchange) (final_bounds s) (final_sets s) (payments_of s.closed)
  -- Budget balance: the payments sum to the surplus, which is never below 0, so no money comes from
  -- outside (weak balance). It is 0 where the Vickrey discounts sum to the total value or more
  -- (strong balance).
  pub sum : Equals (sum_of (payments_of s.closed)) s.closed.surplus
  pub no_deficit : AtMost (whole_number (pos 0)) s.closed.surplus
  pub no_surplus : final_total s ≤ℤ sum_over (λ v. v) (vickreys_of s.closed) → Equals s.closed.surplus (whole_number (pos 0))

-- every right session has the headline
abbrev pub RightGivesHeadline : Type 0
RightGivesHeadline = (s : Session) → IsRight s → Headline s
