-- Rows at prices of a violation: their worth is at most what
-- their units cost, and the violation for each weight.
use Rattle.std.proofs.Common.{ℕ, List, [], ◌∷◌, ℤ, pos, ◌+ℤ◌, ◌*ℤ◌, ◌≤ℤ◌, arith}
use Rattle.std.specs.List.{AllByRecursion}
use Rattle.std.proofs.lemmas.Int.{ints}
use Rattle.std.proofs.Math.IntN.{*ℤ-zero}
use Rattle.ice_defs.specs.Tree.{Tree}
use Rattle.ice_defs.specs.Set.{Weights, value, units}
use Rattle.ice_defs.specs.Trade.{Assignment, tree_of, set_of, weights_of}
use Rattle.ice_defs.specs.Prices.{Prices, cost_of}
use Rattle.ice_defs.specs.Pricing.{IsViolation}
use Rattle.ice_defs.specs.Rows.{Row, weighted_sum, IsRow, worth_above, units_above}
use Rattle.ice_defs.proofs.Products.{times_add, times-le}
use Rattle.ice_row_laws.specs.Laws.{AreSatisfied}
use Rattle.ice_defs.proofs.Multiples.{times_less, times_swap}
use Rattle.ice_row_laws.proofs.Weighted.{total_weight, times_weight-cons}
use Rattle.ice_row_laws.proofs.Costs.{cost_of-zero, cost_of-add, cost_of-less, cost_of-times}

module _ (ts : List Tree) (ws : List Weights) (sets : Assignment) (q : Prices) (y : ℤ) (is : IsViolation ts ws sets q y) where
  -- a bidder's own set has no excess
  pub violation-ge : AreSatisfied ts sets → pos 0 ≤ℤ y
  violation-ge satisfied =
      let ((b, s), (there, _), _) = is.attained in
      let none = is.bound (b, set_of sets b) (there, satisfied b there) in
      omega (arith, ints, none)

  row-le : (row : Row) → IsRow ts ws sets row → (pos q.den *ℤ worth_above ts ws sets row) ≤ℤ (y +ℤ (pos 100 *ℤ cost_of q (λ g. units_above ts ws sets g row)))
  row-le row (there, _, satisfied) =
      let most = is.bound (row.bidder, row.set) (there, satisfied) in
      let own = set_of sets row.bidder in
      omega (
        arith,
        ints,
        most,
        times_less (pos q.den) (value row.set (weights_of ws row.bidder)) (value own (weights_of ws row.bidder)),
        cost_of-less q (units (tree_of ts row.bidder) row.set) (units (tree_of ts row.bidder) own),
      )

  pub rows-le : (rows : List Row) → AllByRecursion (IsRow ts ws sets) rows
      → (pos q.den *ℤ weighted_sum (worth_above ts ws sets) rows)
      ≤ℤ ((y *ℤ pos (total_weight rows)) +ℤ (pos 100 *ℤ cost_of q (λ g. weighted_sum (units_above ts ws sets g) rows)))
  rows-le [] are = omega (arith, ints, *ℤ-zero (pos q.den), *ℤ-zero y, cost_of-zero q)
  rows-le (row ∷ rows) (one, others) =
      let w = row.weight in
      let worth = worth_above ts ws sets row in
      let worths = weighted_sum (worth_above ts ws sets) rows in
      let asked : ℕ → ℤ = λ g. units_above ts ws sets g row in
      let all : ℕ → ℤ = λ g. weighted_sum (units_above ts ws sets g) rows in
      let first = times-le w (pos q.den *ℤ worth) (y +ℤ (pos 100 *ℤ cost_of q asked)) (row-le row one) in
      omega (
        arith,
        ints,
        first,
        rows-le rows others,
        times_weight-cons y row rows,
        times_add (pos q.den) (pos w *ℤ worth) worths,
        times_swap w (pos q.den) worth,
        times_add (pos w) y (pos 100 *ℤ cost_of q asked),
        times_swap 100 (pos w) (cost_of q asked),
        cost_of-add q (λ g. pos w *ℤ asked g) all,
        cost_of-times q w asked,
      )
