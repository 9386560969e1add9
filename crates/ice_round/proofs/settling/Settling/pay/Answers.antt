use Rattle.std.proofs.Common.{◌≡◌, ◌∙◌, ℤ, List, All, true, length, sym, subst, refl}
use Rattle.ice_defs.specs.Bounds.{Bounds}
use Rattle.ice_defs.specs.Trade.{total_value}
use Rattle.ice_defs.specs.Session.{closes}
use Rattle.ice_defs.specs.Weighing.{lower_weights}
use Rattle.ice_defs.specs.Exchange.{trees_of}
use Rattle.ice_defs.specs.Conditions.{AreBoundsOf}
use Rattle.ice_threshold.specs.Limits.{IsVickreyLimit}
use Rattle.ice_round.specs.Held.{Held, IsChargeOf}
use Rattle.ice_round.specs.Kept.{session_at}
use Rattle.ice_round.specs.Searches.{economy_of}
use Rattle.ice_round.specs.Paying.{ArePaymentsOf}
use Rattle.ice_round.specs.KeptSettling.{held_at}
use Rattle.ice_settled.specs.Shown.{closing_with}
use Rattle.ice_settled.specs.declared.settled.Charged.{Charged}
use Rattle.ice_round.proofs.Limiting.{vickrey_limits}
use Rattle.ice_round.proofs.Settlements.{final_rich, all_found}
use Rattle.ice_round.proofs.Closings.{closing_is}
use Rattle.ice_round.proofs.settling.Settling.pay.Goals as goal

pub pay-requires-clause-bounds : goal.pay-requires-clause-bounds
pay-requires-clause-bounds c = subst (AreBoundsOf (trees_of c.self.inside.session.exchange)) (sym c.bounds.ensures) c.self.invariant.found.found.session.bounds

pub pay-requires-clause-feasible : goal.pay-requires-clause-feasible
pay-requires-clause-feasible c = c.self.invariant.found.found.settlement.settled.final.feasible

pub pay-requires-clause-value : goal.pay-requires-clause-value
pay-requires-clause-value c =
    subst (λ (bs : List Bounds). total_value c.self.inside.best.best (lower_weights bs) ≡ c.self.inside.best.value) (sym c.bounds.ensures) c.self.invariant.found.found.settlement.settled.final.value

pub pay-requires-clause-rich : goal.pay-requires-clause-rich
pay-requires-clause-rich c = final_rich (session_at c.self.inside.session) c.self.inside.best c.self.invariant.found.found.settlement.final

pub pay-requires-clause-count : goal.pay-requires-clause-count
pay-requires-clause-count c =
    subst (λ (vs : List ℤ). length vs ≡ length (trees_of c.self.inside.session.exchange)) (sym c.deref.ensures.value)
    (subst (λ (z : Held). length z.discounts ≡ length (trees_of z.session.exchange)) (sym c.self.view_is) c.requires.all)

pub pay-requires-clause-limited : goal.pay-requires-clause-limited
pay-requires-clause-limited c =
    let found = c.self.invariant.found in
    subst (All IsVickreyLimit) (sym (c.deref.ensures.value ∙ found.discounts)) (vickrey_limits (economy_of (session_at c.self.inside.session) c.self.inside.best) 0 c.self.invariant.done found.found.each)

pub returns : goal.returns
returns c =
    let y = c.self.inside in
    let charged : Charged = record {
      exchange = y.session.exchange;
      bounds = c.into_bounds.result;
      number = y.session.number;
      best = y.best;
      regret = y.regret;
      vickreys = y.discounts;
      payments = c.in_ok-payments.payments;
    } in
    let h : Held = held_at y.session y.best y.regret y.discounts.items y.left in
    subst (λ (z : Held). IsChargeOf z charged) c.self.view_is (record {
      vickreys = refl;
      closing = λ done held.
          let whole = all_found h done.items held (subst (λ (z : Held). length z.discounts ≡ length (trees_of z.session.exchange)) (sym c.self.view_is) c.requires.all) in
          let paid = subst (λ (vs : List ℤ). ArePaymentsOf y.session.judge.bounds y.best vs c.in_ok-payments.payments) (c.deref.ensures.value ∙ held.discounts)
          (subst (λ (bs : List Bounds). ArePaymentsOf bs y.best c.deref.result.now c.in_ok-payments.payments) c.bounds.ensures c.in_ok-payments.ensures) in
          closing_is (session_at y.session) (closing_with charged done) y.left held.found.session refl c.into_bounds.ensures refl
          (subst (λ (z : Held). closes z.session.exchange.settings z.session.number z.regret.amount ≡ true) (sym c.self.view_is) c.requires.closes)
          held.found.settlement whole paid held.branches;
      made = λ done held. record { best = refl; regret = refl; marginals = refl };
    })
