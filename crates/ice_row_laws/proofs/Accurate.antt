-- Prices whose rows pass the accuracy test are accurate.
use Rattle.std.proofs.Common.{ℕ, ◌<◌, ◌≤◌, ◌≡◌, List, length, ℤ, pos, ◌-ℤ◌, ◌*ℤ◌, ◌≤ℤ◌, arith, ap, ◌∙◌}
use Rattle.std.specs.List.{AllByRecursion}
use Rattle.std.specs.Int.{int_max}
use Rattle.std.proofs.lemmas.Int.{ints}
use Rattle.std.proofs.Math.IntN.{*ℤ_comm}
use Rattle.ice_defs.specs.Sum.{sum_below}
use Rattle.ice_defs.specs.Tree.{Tree}
use Rattle.ice_defs.specs.Set.{Weights}
use Rattle.ice_defs.specs.Trade.{Assignment}
use Rattle.ice_defs.specs.Prices.{Prices, price_of, cost_of, ArePrices}
use Rattle.ice_defs.specs.Pricing.{IsViolation}
use Rattle.ice_defs.specs.Rows.{Row, weighted_sum, IsRow, worth_above, units_above, demand}
use Rattle.ice_defs.proofs.Products.{times-le}
use Rattle.ice_row_laws.specs.Laws.{AreSatisfied, TestsGiveAccurate}
use Rattle.ice_defs.proofs.Multiples.{times_less, times_swap, times_turn, times_keep, times_cancel}
use Rattle.ice_row_laws.proofs.Costs.{cost_of-le}
use Rattle.ice_row_laws.proofs.Weighted.{total_weight}
use Rattle.ice_row_laws.proofs.Priced.{violation-ge, rows-le}

module _ (ts : List Tree) (ws : List Weights) (sets : Assignment) (goods : ℕ) where
  -- at prices from 0 to t the rows' units cost at most t times what they want
  pub wanted-le : (q : Prices) (t : ℤ) (rows : List Row) → length q.nums ≡ goods → ((g : ℕ) → g < goods → pos 0 ≤ℤ price_of q g) → ((g : ℕ) → g < goods → price_of q g ≤ℤ t)
      → cost_of q (λ g. weighted_sum (units_above ts ws sets g) rows) ≤ℤ (t *ℤ demand ts ws sets goods rows)
  wanted-le q t rows size low high =
      let asked : ℕ → ℤ = λ g. weighted_sum (units_above ts ws sets g) rows in
      let most = cost_of-le q t asked (λ g h. low g (omega (arith, size, h))) (λ g h. high g (omega (arith, size, h))) in
      omega (arith, ints, most, ap (λ n. t *ℤ sum_below (λ g. int_max (asked g) (pos 0)) n) size)

  -- the rows' worth above what they want at the cap is at
  -- most the violation at any prices within the cap
  worth-le : (cap : ℤ) (q : Prices) (y : ℤ) (rows : List Row) (den : ℕ) → AreSatisfied ts sets → ArePrices goods cap q → IsViolation ts ws sets q y
      → AllByRecursion (IsRow ts ws sets) rows → total_weight rows ≤ den
      → (pos q.den *ℤ (weighted_sum (worth_above ts ws sets) rows -ℤ (pos 100 *ℤ (cap *ℤ demand ts ws sets goods rows)))) ≤ℤ (y *ℤ pos den)
  worth-le cap q y rows den satisfied within is are weights =
      let worths = weighted_sum (worth_above ts ws sets) rows in
      let all = demand ts ws sets goods rows in
      let top = cap *ℤ pos q.den in
      let turned : top *ℤ all ≡ pos q.den *ℤ (cap *ℤ all) =
      *ℤ_comm top all ∙ ap (λ z. all *ℤ z) (*ℤ_comm cap (pos q.den)) ∙ times_swap q.den all cap ∙ ap (λ z. pos q.den *ℤ z) (*ℤ_comm all cap) in
      omega (
        arith,
        ints,
        rows-le ts ws sets q y is rows are,
        wanted-le q top rows within.same_length within.low within.high,
        turned,
        times_less (pos q.den) worths (pos 100 *ℤ (cap *ℤ all)),
        times_swap 100 (pos q.den) (cap *ℤ all),
        times_keep y (pos (total_weight rows)) (pos den) (violation-ge ts ws sets q y is satisfied) (omega (arith, ints, weights)),
      )

-- two bounds over one denominator are compared without it
compared : (m n den : ℕ) (x y z : ℤ) → 0 < den → pos m *ℤ z ≡ x *ℤ pos den → (pos n *ℤ z) ≤ℤ (y *ℤ pos den) → (x *ℤ pos n) ≤ℤ (y *ℤ pos m)
compared m n den x y z proper equal most =
    let own : pos n *ℤ (pos m *ℤ z) ≡ pos den *ℤ (x *ℤ pos n) = ap (λ a. pos n *ℤ a) equal ∙ times_turn n den x in
    let scaled = times-le m (pos n *ℤ z) (y *ℤ pos den) most in
    times_cancel den (x *ℤ pos n) (y *ℤ pos m) (omega (arith, proper)) (omega (arith, ints, own, times_turn m den y, scaled, times_swap m (pos n) z))

pub tests_give_accurate : TestsGiveAccurate
tests_give_accurate ts ws sets goods cap p x accuracy satisfied within is passes = record {
  within = within;
  least = (
    x,
    is,
    λ q y prices violation.
        compared p.den q.den accuracy.den x y (weighted_sum (worth_above ts ws sets) accuracy.rows -ℤ (pos 100 *ℤ (cap *ℤ demand ts ws sets goods accuracy.rows)))
        passes.proper passes.equal (worth-le ts ws sets goods cap q y accuracy.rows accuracy.den satisfied prices violation passes.rows passes.weights),
  );
}
