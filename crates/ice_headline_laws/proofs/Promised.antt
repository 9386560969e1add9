-- Every right session has the headline.
use Rattle.std.proofs.Common.{ℕ, ◌<◌, ◌≡◌, List, length, slice_index_or, sym, subst, ◌∙◌, arith, ap, Bool, true, false, refl, ℤ, pos, ◌≤ℤ◌, int_le}
use Rattle.std.specs.List.{AllByRecursion}
use Rattle.std.proofs.lemmas.Int.{ints}
use Rattle.std.proofs.lemmas.List.{length-map}
use Rattle.ice_defs.specs.Sum.{sum_over}
use Rattle.ice_defs.specs.Set.{value}
use Rattle.ice_defs.specs.Trade.{set_of, weights_of}
use Rattle.ice_defs.specs.Bounds.{Bounds}
use Rattle.ice_defs.specs.Weighing.{lower_weights}
use Rattle.ice_defs.specs.Fraction.{whole_number, IsFraction, Equals, AtMost, sum_of, fraction_at}
use Rattle.ice_defs.specs.Exchange.{Exchange, trees_of, market_of, opening_bounds}
use Rattle.ice_defs.specs.Session.{Closed}
use Rattle.ice_headline_laws.specs.Right.{IsClosed, own_values, vickreys_of, discounts_of, payments_of, final_bounds}
use Rattle.ice_headline_laws.specs.Headline.{NobodyOverpays, RightGivesHeadline}
use Rattle.ice_regret_laws.proofs.Trades.{assignments_trade, regret_bounds_trades}
use Rattle.ice_regret_laws.proofs.Worths.{worth_covers_lower}
use Rattle.ice_headline_laws.proofs.Last.{last_is_closed}
use Rattle.ice_headline_laws.proofs.OwnValues.{own_count, own_at, own_sum}
use Rattle.ice_headline_laws.proofs.Sums.{all_proper, sum_is_surplus, nothing_left, surplus_left}
use Rattle.ice_headline_laws.proofs.Vickreys.{stated_vickreys}
use Rattle.ice_headline_laws.proofs.Charged.{payment_high, charge_high}
use Rattle.ice_defs.proofs.Integers.{int_le-true, int_le-false}
use Rattle.ice_frac.proofs.Fractions.{proper_sum, AtMost_from_Equals}

-- what is so of the last settlement
module _ (ex : Exchange) (bounds : List Bounds) (c : Closed) (is : IsClosed ex bounds c) where
  -- ---- how many bidders there are

  values_count : length (own_values bounds c.settlement.final.sets) ≡ length c.payments
  values_count = sym is.payments.same_length ∙ length-map c.payments _

  bounds_count : length bounds ≡ length (trees_of ex)
  bounds_count =
      sym (own_count bounds c.settlement.final.sets) ∙ values_count ∙ sym (length-map c.payments _) ∙ ap length is.names ∙ length-map ex.bidders _ ∙ sym (length-map ex.bidders _)

  discounts_count : length (discounts_of c) ≡ length (own_values bounds c.settlement.final.sets)
  discounts_count = length-map c.payments _ ∙ sym values_count

  vickreys_count : length (vickreys_of c) ≡ length (own_values bounds c.settlement.final.sets)
  vickreys_count = length-map c.payments _ ∙ sym values_count

  -- ---- the discounts and the payments

  proper_discount : (i : ℕ) → i < length (own_values bounds c.settlement.final.sets) → IsFraction (fraction_at (discounts_of c) i)
  proper_discount i h = is.discounts.within.proper i (omega (arith, h, vickreys_count))

  proper_discounts : IsFraction (sum_of (discounts_of c))
  proper_discounts = proper_sum (discounts_of c) (λ i h. proper_discount i (omega (arith, h, discounts_count)))

  pub proper_payments : AllByRecursion IsFraction (payments_of c)
  proper_payments = all_proper (payments_of c) (λ i h. is.payments.proper i (omega (arith, h, is.payments.same_length)))

  values_sum : sum_over (λ v. v) (own_values bounds c.settlement.final.sets) ≡ c.settlement.final.value
  values_sum = own_sum bounds c.settlement.final.sets (is.settled.final.feasible.same_length ∙ sym bounds_count) ∙ is.settled.final.value

  pub payments_are_surplus : Equals (sum_of (payments_of c)) c.surplus
  payments_are_surplus =
      sum_is_surplus (own_values bounds c.settlement.final.sets) c.settlement.final.value (discounts_of c) (payments_of c) c.surplus discounts_count proper_discount is.payments is.surplus values_sum

  pub no_surplus : c.settlement.final.value ≤ℤ sum_over (λ v. v) (vickreys_of c) → Equals c.surplus (whole_number (pos 0))
  no_surplus enough = nothing_left c.settlement.final.value (discounts_of c) c.surplus proper_discounts is.surplus (is.discounts.spent enough)

  pub no_deficit : AtMost (whole_number (pos 0)) c.surplus
  no_deficit = by (int_le c.settlement.final.value (sum_over (λ v. v) (vickreys_of c))) refl
    where
      by : (b : Bool) → int_le c.settlement.final.value (sum_over (λ v. v) (vickreys_of c)) ≡ b → AtMost (whole_number (pos 0)) c.surplus
      by true e =
          AtMost_from_Equals (whole_number (pos 0)) c.surplus (sym (no_surplus (int_le-true c.settlement.final.value (sum_over (λ v. v) (vickreys_of c)) e)))
      by false e =
          let above = int_le-false c.settlement.final.value (sum_over (λ v. v) (vickreys_of c)) e in
          surplus_left c.settlement.final.value (vickreys_of c) (discounts_of c) c.surplus is.discounts.within proper_discounts is.surplus (omega (arith, ints, above))

  -- ---- nobody pays too much

  payment-high : (b : ℕ) → b < length bounds → AtMost (fraction_at (payments_of c) b) (whole_number (value (set_of c.settlement.final.sets b) (weights_of (lower_weights bounds) b)))
  payment-high b h =
      let there : b < length (own_values bounds c.settlement.final.sets) = omega (arith, h, own_count bounds c.settlement.final.sets) in
      subst (λ (z : ℤ). AtMost (fraction_at (payments_of c) b) (whole_number z)) (own_at bounds c.settlement.final.sets b h)
      (payment_high (slice_index_or (own_values bounds c.settlement.final.sets) b (pos 0)) (fraction_at (discounts_of c) b) (fraction_at (payments_of c) b) (proper_discount b there)
      (is.discounts.within.low b (omega (arith, there, vickreys_count))) (is.payments.each b there))

  pub nobody_overpays : NobodyOverpays (market_of ex) bounds c.settlement.final.sets (payments_of c)
  nobody_overpays k v b worth profile there is_worth =
      let l : b < length bounds = omega (arith, there, bounds_count) in
      charge_high k (value (set_of c.settlement.final.sets b) (weights_of (lower_weights bounds) b)) worth (fraction_at (payments_of c) b)
      (worth_covers_lower (market_of ex) bounds c.settlement.final.sets k v b worth is.settled.final.feasible profile there is_worth) (payment-high b l)

pub right_gives_headline : RightGivesHeadline
right_gives_headline s right =
    let ex : Exchange = s.exchange in
    let bounds : List Bounds = final_bounds s in
    let c : Closed = s.closed in
    let is : IsClosed ex bounds c = last_is_closed ex 0 (opening_bounds ex) s.going c right.settlements in
    record {
      feasible = is.settled.final.feasible;
      final_trade = assignments_trade (market_of ex) c.settlement.final.sets right.exchange.owned is.settled.final.feasible;
      no_trade_beats = regret_bounds_trades (market_of ex) bounds c.settlement.final.sets c.settlement.regret is.settled.final.feasible is.settled.regret;
      regret = is.settled.regret;
      total = is.settled.final.value;
      best = is.settled.final.best;
      vickreys = stated_vickreys s right;
      discounts = is.discounts;
      names = is.names;
      payments = is.payments;
      proper = (is.surplus.0, proper_payments ex bounds c is);
      nobody_overpays = nobody_overpays ex bounds c is;
      sum = payments_are_surplus ex bounds c is;
      no_deficit = no_deficit ex bounds c is;
      no_surplus = no_surplus ex bounds c is;
    }
