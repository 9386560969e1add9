-- How large the violation of the accuracy stage is.
use Rattle.std.proofs.Common.{ℕ, ◌*◌, ◌<◌, ◌≤◌, ◌≡◌, ◌^◌, List, length, ℤ, pos, ◌*ℤ◌, ◌≤ℤ◌, arith, ap, sym, subst, ◌∙◌}
use Rattle.std.proofs.lemmas.Int.{ints}
use Rattle.std.proofs.lemmas.List.{get_or-replicate, length-replicate}
use Rattle.std.proofs.Math.IntN.{zero-*ℤ, pos-*ℤ-pos}
use Rattle.ice_defs.specs.Fraction.{Fraction, IsFraction, AtMost, fraction_at}
use Rattle.ice_defs.specs.Prices.{Prices, cost_of, price_of}
use Rattle.ice_defs.specs.Pricing.{IsChoice, excess_net}
use Rattle.ice_defs.specs.PricingRun.{Member, first_stage, solution_prices}
use Rattle.ice_defs.specs.Rows.{Certificate}
use Rattle.ice_defs.specs.Set.{NodeSet, value, units}
use Rattle.ice_defs.specs.Trade.{tree_of, set_of, weights_of}
use Rattle.ice_defs.proofs.Sums.{sum_below-zero}
use Rattle.ice_frac.proofs.Ring.{cancel_le, scale_le}
use Rattle.ice_certificate.proofs.Worths.{value-within}
use Rattle.ice_row_laws.specs.Sizes.{IsSizedWithin}
use Rattle.ice_pricing_laws.specs.Laws.{balance_at}
use Rattle.ice_pricing_laws.proofs.Accuracy.{bound_is_point, point-size, least-at, least_is_accurate}
use Rattle.ice_pricing_laws.proofs.Solved.{are_over-own}
use Rattle.ice_row_laws.proofs.Priced.{violation-ge}
use Rattle.ice_pricing_laws.proofs.Excess.{excess}
use Rattle.ice_pricing_laws.proofs.Feasible.{free, free-within}
use Rattle.ice_pricing_laws.proofs.Lists.{all-each}
use Rattle.ice_pricing_laws.proofs.Pools.{run_pool_is_proper}
use Rattle.ice_pricing_laws.proofs.Traces.{traces_solve}
use Rattle.ice_pricing.specs.Provisional.{ProvisionalTrade, IsProvisional}
use Rattle.ice_pricing.specs.Priced.{HasViolation}
use Rattle.ice_price.specs.Runs.{IsState, IsStageEnd}
use Rattle.ice_turns.specs.Stages.{IsSizedStage}

module _ (t : ProvisionalTrade) (is : IsProvisional t) where
  -- at prices of 0 units cost nothing
  free-cost : (u : ℕ → ℤ) → cost_of (free t.goods) u ≡ pos 0
  unfolding free
  free-cost u = sum_below-zero (λ g. price_of (free t.goods) g *ℤ u g) (length (free t.goods).nums) (λ g h.
      let there : g < t.goods = omega (arith, h, length-replicate t.goods (pos 0)) in
      ap (λ z. z *ℤ u g) (get_or-replicate t.goods g (pos 0) (pos 0) there) ∙ zero-*ℤ (u g))

  -- so no excess is larger than what a set is worth
  free-excess : (b : ℕ) (s : NodeSet) → IsChoice t.trees t.weights t.sets (b, s) → excess_net t.trees t.weights t.sets (free t.goods) (b, s) ≤ℤ pos (2 ^ 49)
  unfolding free
  free-excess b s offer =
      let own = set_of t.sets b in
      let w = weights_of t.weights b in
      let tree = tree_of t.trees b in
      let nodes = is.nodes.nodes b offer.0 in
      let few : length tree ≤ 200 = is.limited b offer.0 in
      let mine = is.satisfied b offer.0 in
      let there : b < length t.weights = omega (arith, offer.0, is.nodes.count) in
      let one : IsSizedWithin (2 ^ 48) (value s w) = value-within s w (omega (arith, few, offer.1.same_length)) (omega (arith, nodes, offer.1.same_length)) (is.modest b there) in
      let other : IsSizedWithin (2 ^ 48) (value own w) = value-within own w (omega (arith, few, mine.same_length)) (omega (arith, nodes, mine.same_length)) (is.modest b there) in
      let cost = free-cost (units tree s) in
      let own_cost = free-cost (units tree own) in
      omega (arith, ints, one.high, other.low, cost, own_cost)

  -- the violation of the accuracy stage is no larger, over its denominator
  pub violation-sized : (pool : List Member) (prices : Prices) (v : ℤ) (c : Certificate) → IsState t first_stage pool → IsStageEnd t first_stage pool prices v c
      → IsSizedStage (balance_at v prices.den)
  unfolding free
  violation-sized pool prices v c state end =
      let (x, solved, none, same) = end.point in
      let (least, duals) = traces_solve t.trees t.weights t.sets t.goods t.cap first_stage pool x solved in
      let (members, few, distinct) = run_pool_is_proper t.trees t.weights t.sets t.goods t.cap first_stage pool state in
      let q : Prices = free t.goods in
      let own : Prices = solution_prices t.trees t.weights t.sets t.goods t.cap x in
      let within = free-within t.goods t.cap is.cap_low in
      let point = bound_is_point t.trees t.weights t.sets t.goods t.cap pool q (pos (2 ^ 49)) within (omega (arith, ints))
      (all-each (λ m. IsChoice t.trees t.weights t.sets (m.bidder, m.set)) (λ m. excess t.trees t.weights t.sets t.goods t.cap q m ≤ℤ pos (2 ^ 49)) pool (λ m h. free-excess m.bidder m.set h) members) in
      let most : AtMost (fraction_at x t.goods) (record { num = pos (2 ^ 49); den = q.den }) = least-at t.trees t.weights t.sets t.goods t.cap pool x q (pos (2 ^ 49)) least within point in
      let violates : HasViolation t own v = subst (λ p. HasViolation t p v) same end.violates in
      let (accurate, equals) = least_is_accurate t.trees t.weights t.sets t.goods t.cap pool x v is.satisfied members least none violates in
      let positive : 0 < own.den = accurate.within.positive in
      let den : prices.den ≡ own.den = ap (λ p. p.den) same in
      let last : Fraction = fraction_at x t.goods in
      let size = point-size t.trees t.weights t.sets t.goods t.cap pool x least.point in
      let proper : IsFraction last = (are_over-own t.goods x least.point.non_negative size t.goods (omega (arith, size))).proper in
      let few_hundredths : last.num ≤ℤ pos (2 ^ 49 * last.den) = omega (arith, ints, most, pos-*ℤ-pos (2 ^ 49) last.den) in
      let lifted = scale_le own.den last.num (pos (2 ^ 49 * last.den)) few_hundredths in
      let products : (2 ^ 49 * last.den) * own.den ≡ (2 ^ 49 * own.den) * last.den = omega arith in
      let turned : pos (2 ^ 49 * last.den) *ℤ pos own.den ≡ pos (2 ^ 49 * own.den) *ℤ pos last.den =
      pos-*ℤ-pos (2 ^ 49 * last.den) own.den ∙ ap pos products ∙ sym (pos-*ℤ-pos (2 ^ 49 * own.den) last.den) in
      let high : v ≤ℤ pos (2 ^ 49 * own.den) = cancel_le last.den v (pos (2 ^ 49 * own.den)) proper (omega (arith, ints, equals, lifted, turned)) in
      record {
        positive = omega (arith, positive, den);
        den_fits = end.den_fits;
        low = violation-ge t.trees t.weights t.sets prices v end.violates is.satisfied;
        high = omega (arith, ints, high, den);
      }
