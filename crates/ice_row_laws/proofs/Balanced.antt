-- Prices whose rows pass both tests are balanced.
use Rattle.std.proofs.Common.{ℕ, ◌<◌, ◌≡◌, List, length, ℤ, pos, ◌+ℤ◌, ◌-ℤ◌, ◌*ℤ◌, ◌≤ℤ◌, refl, arith, ap, sym, ◌∙◌}
use Rattle.std.proofs.lemmas.Int.{ints, fold-int_max_bounds}
use Rattle.std.proofs.lemmas.List.Elements.{All-get_or}
use Rattle.std.proofs.Math.IntN.{*ℤ_comm}
use Rattle.ice_defs.specs.Tree.{Tree}
use Rattle.ice_defs.specs.Set.{Weights}
use Rattle.ice_defs.specs.Trade.{Assignment}
use Rattle.ice_defs.specs.Prices.{Prices, price_of}
use Rattle.ice_defs.specs.Pricing.{top_of, IsViolation}
use Rattle.ice_defs.specs.Rows.{Certificate, weighted_sum, worth_above, demand, PassesBalance}
use Rattle.ice_defs.proofs.Products.{times_add, times-le}
use Rattle.ice_row_laws.specs.Laws.{TestsGiveBalanced}
use Rattle.ice_defs.proofs.Multiples.{times_less, times_swap, times_turn, times_keep, times_cancel}
use Rattle.ice_row_laws.proofs.Weighted.{total_weight, weighted_sum-less}
use Rattle.ice_row_laws.proofs.Priced.{rows-le}
use Rattle.ice_row_laws.proofs.Accurate.{wanted-le, tests_give_accurate}

-- ---- the greatest price

pub top-low : (q : Prices) → pos 0 ≤ℤ top_of q
top-low q = (fold-int_max_bounds (pos 0) q.nums (top_of q) refl).0

pub top-high : (q : Prices) (g : ℕ) → g < length q.nums → price_of q g ≤ℤ top_of q
top-high q g h = All-get_or (λ z. z ≤ℤ top_of q) q.nums g (pos 0) h (fold-int_max_bounds (pos 0) q.nums (top_of q) refl).1

-- ---- the tests

module _ (ts : List Tree) (ws : List Weights) (sets : Assignment) (goods : ℕ) where
  -- no prices whose violation is as small have a smaller greatest price
  top-le : (p q : Prices) (x y : ℤ) (c : Certificate) → length q.nums ≡ goods → ((g : ℕ) → g < goods → pos 0 ≤ℤ price_of q g) → IsViolation ts ws sets q y
      → (y *ℤ pos p.den) ≤ℤ (x *ℤ pos q.den) → PassesBalance ts ws sets goods p x c → (top_of p *ℤ pos q.den) ≤ℤ (top_of q *ℤ pos p.den)
  top-le p q x y c size low is small passes =
      let m = p.den in
      let n = q.den in
      let weight = total_weight c.rows in
      let worths = weighted_sum (worth_above ts ws sets) c.rows in
      let all = demand ts ws sets goods c.rows in
      let sold = top_of q *ℤ pos c.den in
      let most = rows-le ts ws sets q y is c.rows passes.rows in
      let costs = wanted-le ts ws sets goods q (top_of q) c.rows size low (λ g h. top-high q g (omega (arith, size, h))) in
      let few = times_keep (top_of q) all (pos c.den) (top-low q) passes.weights in
      let high : (pos n *ℤ worths) ≤ℤ ((y *ℤ pos weight) +ℤ (pos 100 *ℤ sold)) = omega (arith, ints, most, costs, few) in
      let scaled = times-le m (pos n *ℤ worths) ((y *ℤ pos weight) +ℤ (pos 100 *ℤ sold)) high in
      let lesser = times-le weight (y *ℤ pos m) (x *ℤ pos n) small in
      let spread = weighted_sum-less (worth_above ts ws sets) m x c.rows in
      let equal : pos n *ℤ ((pos m *ℤ worths) -ℤ (x *ℤ pos weight)) ≡ pos n *ℤ (pos 100 *ℤ (pos c.den *ℤ top_of p)) = ap (λ z. pos n *ℤ z) (sym spread ∙ passes.equal) in
      let own : pos n *ℤ (pos c.den *ℤ top_of p) ≡ pos c.den *ℤ (top_of p *ℤ pos n) = times_swap c.den (pos n) (top_of p) ∙ ap (λ z. pos c.den *ℤ z) (*ℤ_comm (pos n) (top_of p)) in
      let over : (pos c.den *ℤ (top_of p *ℤ pos n)) ≤ℤ (pos c.den *ℤ (top_of q *ℤ pos m)) =
      omega (
        arith,
        ints,
        scaled,
        lesser,
        equal,
        own,
        times_add (pos m) (y *ℤ pos weight) (pos 100 *ℤ sold),
        times_turn m weight y,
        times_turn n weight x,
        times_swap 100 (pos m) sold,
        times_turn m c.den (top_of q),
        times_less (pos n) (pos m *ℤ worths) (x *ℤ pos weight),
        times_swap m (pos n) worths,
        times_swap 100 (pos n) (pos c.den *ℤ top_of p),
      ) in
      times_cancel c.den (top_of p *ℤ pos n) (top_of q *ℤ pos m) (omega (arith, passes.proper)) over

pub tests_give_balanced : TestsGiveBalanced
tests_give_balanced ts ws sets goods cap p x accuracy balance satisfied within is accurate balanced = record {
  accurate = tests_give_accurate ts ws sets goods cap p x accuracy satisfied within is accurate;
  least = λ q other.
      let (y, violation, most) = other.least in
      top-le ts ws sets goods p q x y balance other.within.same_length other.within.low violation (most p x within is) balanced;
}
