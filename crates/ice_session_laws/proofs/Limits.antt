-- What a limit of the pricing may be written with.
use Rattle.std.proofs.Common.{ℕ, ◌*◌, ◌<◌, ◌≤◌, ◌≡◌, ◌^◌, List, [], ◌∷◌, length, ℤ, pos, ◌*ℤ◌, ◌≤ℤ◌, arith, ap, sym, subst, ◌∙◌, ◌⊎◌, inl, inr}
use Rattle.std.specs.List.{AllByRecursion}
use Rattle.std.proofs.lemmas.Bool.{cases_lt}
use Rattle.std.proofs.lemmas.Int.{ints}
use Rattle.std.proofs.lemmas.List.{get_or-replicate, length-replicate}
use Rattle.std.proofs.Math.IntN.{zero-*ℤ, pos-*ℤ-pos}
use Rattle.ice_defs.specs.Fraction.{Fraction, IsFraction, AtMost, whole_number, fraction_at}
use Rattle.ice_defs.specs.Prices.{Prices, cost_of, price_of}
use Rattle.ice_defs.specs.Pricing.{IsChoice, excess_net}
use Rattle.ice_defs.specs.PricingLimit.{den_limit}
use Rattle.ice_defs.specs.PricingRun.{Member, StageAt, first_stage, solution_prices, IsRunState, starts, follows, turns, IsAccurateStage, EndsAtLimit}
use Rattle.ice_defs.specs.Set.{NodeSet, value, units}
use Rattle.ice_defs.specs.Trade.{tree_of, set_of, weights_of}
use Rattle.ice_defs.specs.Exchange.{Exchange, trees_of}
use Rattle.ice_defs.specs.Lawful.{IsExchange}
use Rattle.ice_defs.proofs.Sums.{sum_below-zero}
use Rattle.ice_frac.proofs.Ring.{cancel_le, scale_le}
use Rattle.ice_certificate.proofs.Worths.{value-within}
use Rattle.ice_row_laws.specs.Sizes.{IsSizedWithin}
use Rattle.ice_pricing_laws.proofs.Accuracy.{bound_is_point, point-size, least-at}
use Rattle.ice_pricing_laws.proofs.Solved.{prices-pos}
use Rattle.ice_pricing_laws.proofs.Excess.{excess}
use Rattle.ice_pricing_laws.proofs.Feasible.{free, free-within}
use Rattle.ice_pricing_laws.proofs.Lists.{all-each, all-at}
use Rattle.ice_pricing_laws.proofs.Pools.{run_pool_is_proper}
use Rattle.ice_pricing_laws.proofs.Traces.{traces_solve}
use Rattle.ice_pricing.specs.Provisional.{ProvisionalTrade, IsProvisional}
use Rattle.ice_defs.specs.PricingLimit.{limit_of}
use Rattle.ice_price.specs.Stages.{IsSizedStage}
use Rattle.ice_price.specs.Ends.{stage_at}
use Rattle.ice_price.specs.declared.ends.PriceLimit.{PriceLimit}
use Rattle.ice_write_session.specs.Writable.{IsWritableMember, IsWritableLimit}
use Rattle.ice_session_laws.proofs.Violations.{bits_of, bidder_number}

module _ (t : ProvisionalTrade) (is : IsProvisional t) where
  -- at prices of 0 no set beats a bidder's own by more than what it is worth
  free_cost : (u : ℕ → ℤ) → cost_of (free t.goods) u ≡ pos 0
  unfolding free
  free_cost u = sum_below-zero (λ g. price_of (free t.goods) g *ℤ u g) (length (free t.goods).nums) (λ g h.
      let there : g < t.goods = omega (arith, h, length-replicate t.goods (pos 0)) in
      ap (λ z. z *ℤ u g) (get_or-replicate t.goods g (pos 0) (pos 0) there) ∙ zero-*ℤ (u g))

  free_excess : (b : ℕ) (s : NodeSet) → IsChoice t.trees t.weights t.sets (b, s) → excess_net t.trees t.weights t.sets (free t.goods) (b, s) ≤ℤ pos (2 ^ 49)
  unfolding free
  free_excess b s offer =
      let own = set_of t.sets b in
      let w = weights_of t.weights b in
      let tree = tree_of t.trees b in
      let nodes = is.nodes.nodes b offer.0 in
      let few : length tree ≤ 200 = is.limited b offer.0 in
      let mine = is.satisfied b offer.0 in
      let there : b < length t.weights = omega (arith, offer.0, is.nodes.count) in
      let one : IsSizedWithin (2 ^ 48) (value s w) = value-within s w (omega (arith, few, offer.1.same_length)) (omega (arith, nodes, offer.1.same_length)) (is.modest b there) in
      let other : IsSizedWithin (2 ^ 48) (value own w) = value-within own w (omega (arith, few, mine.same_length)) (omega (arith, nodes, mine.same_length)) (is.modest b there) in
      let cost = free_cost (units tree s) in
      let own_cost = free_cost (units tree own) in
      omega (arith, ints, one.high, other.low, cost, own_cost)

  -- so the violation of the accuracy stage is no larger
  accurate_sized : (pool : List Member) (delta : ℤ) (den : ℕ) → IsRunState t.trees t.weights t.sets t.goods t.cap first_stage pool → IsAccurateStage t.trees t.weights t.sets t.goods t.cap pool delta den
      → (0 < den) × (den ≤ 2 ^ 32) × (pos 0 ≤ℤ delta) × (delta ≤ℤ pos (2 ^ 49 * den))
  unfolding free
  accurate_sized pool delta den state over =
      let (x, solved, none, same, equals) = over.solved in
      let (least, duals) = traces_solve t.trees t.weights t.sets t.goods t.cap first_stage pool x solved in
      let (members, few, distinct) = run_pool_is_proper t.trees t.weights t.sets t.goods t.cap first_stage pool state in
      let q : Prices = free t.goods in
      let own : Prices = solution_prices t.trees t.weights t.sets t.goods t.cap x in
      let within = free-within t.goods t.cap is.cap_low in
      let point = bound_is_point t.trees t.weights t.sets t.goods t.cap pool q (pos (2 ^ 49)) within (omega (arith, ints))
      (all-each (λ m. IsChoice t.trees t.weights t.sets (m.bidder, m.set)) (λ m. excess t.trees t.weights t.sets t.goods t.cap q m ≤ℤ pos (2 ^ 49)) pool (λ m h. free_excess m.bidder m.set h) members) in
      let most : AtMost (fraction_at x t.goods) (record { num = pos (2 ^ 49); den = q.den }) = least-at t.trees t.weights t.sets t.goods t.cap pool x q (pos (2 ^ 49)) least within point in
      let size = point-size t.trees t.weights t.sets t.goods t.cap pool x least.point in
      let positive : 0 < own.den = prices-pos t.goods x least.point.non_negative size in
      let last : Fraction = fraction_at x t.goods in
      let proper : IsFraction last × AtMost (whole_number (pos 0)) last = all-at (λ f. IsFraction f × AtMost (whole_number (pos 0)) f) x t.goods (whole_number (pos 0)) least.point.non_negative (omega (arith, size)) in
      let low : AtMost (whole_number (pos 0)) last = proper.1 in
      let few_hundredths : last.num ≤ℤ pos (2 ^ 49 * last.den) = omega (arith, ints, most, pos-*ℤ-pos (2 ^ 49) last.den) in
      let lifted = scale_le den last.num (pos (2 ^ 49 * last.den)) few_hundredths in
      let some : pos 0 ≤ℤ last.num = omega (arith, ints, low, zero-*ℤ (pos last.den)) in
      let raised = scale_le den (pos 0) last.num some in
      let products : (2 ^ 49 * last.den) * den ≡ (2 ^ 49 * den) * last.den = omega arith in
      let turned : pos (2 ^ 49 * last.den) *ℤ pos den ≡ pos (2 ^ 49 * den) *ℤ pos last.den =
      pos-*ℤ-pos (2 ^ 49 * last.den) den ∙ ap pos products ∙ sym (pos-*ℤ-pos (2 ^ 49 * den) last.den) in (
        omega (arith, positive, same),
        by (cases_lt (2 ^ 32) den) (λ large. over.unlimited den_limit (x, solved, inl (subst (λ (d : ℕ). 2 ^ 32 < d) same large))),
        cancel_le last.den (pos 0) delta proper.0 (omega (arith, ints, equals, raised, zero-*ℤ (pos den), zero-*ℤ (pos last.den))),
        cancel_le last.den delta (pos (2 ^ 49 * den)) proper.0 (omega (arith, ints, equals, lifted, turned)),
      )
    where
      by : (2 ^ 32 < den) ⊎ (den ≤ 2 ^ 32) → (2 ^ 32 < den → ⊥) → den ≤ 2 ^ 32
      by (inl large) none = absurd (none large)
      by (inr few) none = few

  sized_run : (at : StageAt) (pool : List Member) → IsRunState t.trees t.weights t.sets t.goods t.cap at pool → IsSizedStage at
  sized_run _ _ starts = record { positive = omega arith; den_fits = omega arith; low = omega (arith, ints); high = omega (arith, ints) }
  sized_run _ _ (follows {at = at} {pool = pool} state may) = sized_run at pool state
  sized_run _ _ (turns {pool = pool} {delta = delta} {den = den} state over) =
      let (positive, few, low, high) = accurate_sized pool delta den state over in
      record { positive = positive; den_fits = few; low = low; high = high }

  module _ (ex : Exchange) (lawful : IsExchange ex) (same : t.trees ≡ trees_of ex) where
    members_are : (pool : List Member) → AllByRecursion (λ m. IsChoice t.trees t.weights t.sets (m.bidder, m.set)) pool → AllByRecursion IsWritableMember pool
    members_are [] are = tt
    members_are (m ∷ pool) (one, others) =
        let here = subst (λ ts. IsChoice ts t.weights t.sets (m.bidder, m.set)) same one in
        ((bidder_number ex lawful m.bidder here.0, bits_of ex lawful m.bidder m.set here.0 here.1.same_length), members_are pool others)

    pub limit_may_be_written : (limit : PriceLimit) → EndsAtLimit t.trees t.weights t.sets t.goods t.cap (limit_of limit.kind) (stage_at limit) limit.pool.items → IsWritableLimit limit
    limit_may_be_written limit ends =
        let sized = sized_run (stage_at limit) limit.pool.items ends.state in
        let (members, few, distinct) = run_pool_is_proper t.trees t.weights t.sets t.goods t.cap (stage_at limit) limit.pool.items ends.state in
        let few_dens = sized.den_fits in
        record {
          violation = (sized.low, omega (arith, ints, sized.high, few_dens));
          den = (sized.positive, few_dens);
          pool = members_are limit.pool.items members;
        }
