-- The parts of a line, tested one by one: it passes where all hold, and only there.
use Rattle.std.proofs.Common.{◌≡◌, List, ℤ, pos, ◌-ℤ◌, ◌*ℤ◌, ◌≤ℤ◌, ◌<ℤ◌, [], refl, sym, ◌∙◌, subst}
use Rattle.ice_defs.specs.Sum.{sum_over}
use Rattle.ice_defs.specs.Fraction.{Fraction, whole_number, IsFraction, AtMost, Equals}
use Rattle.ice_defs.specs.Cut.{discount_at_cut}
use Rattle.ice_defs.specs.Session.{Payment}
use Rattle.ice_threshold.specs.CutOff.{cut_num}
use Rattle.ice_journal_laws.specs.Tests.{IsThresholdLine, IsPaymentLine}
use Rattle.ice_journal_laws.proofs.Charged.{line_passes, passing_pays, payment_passes, passing_owes, any_discount, discount_of_any}
use Rattle.ice_journal_laws.proofs.Charged as charged
use Rattle.ice_check_charge.specs.Tests.{vickreys_of, IsSpent, IsReached, IsPaidAt}

-- ---- the cut and the surplus

module _ (withouts : List ℤ) (total : ℤ) (cut surplus : Fraction) (proper : IsFraction cut) where
  abbrev IsLine : Type 0
  IsLine = IsThresholdLine (vickreys_of total withouts) total (record { cut = cut; surplus = surplus })

  -- what the cut leaves, and the total, over the denominator of the cut
  abbrev all_left : ℤ
  all_left = sum_over (cut_num cut.num cut.den) (vickreys_of total withouts)

  abbrev all : ℤ
  all = total *ℤ pos cut.den

  abbrev Reaches : ℤ → Type 0
  Reaches v = AtMost cut (whole_number v)

  abbrev Rests : ℤ → Type 0
  Rests rest = Equals surplus (record { num = rest; den = cut.den })

  module _ (num left available : ℤ) (num_is : num ≡ cut.num) (left_is : left ≡ sum_over (cut_num cut.num cut.den) (vickreys_of total withouts)) (all_is : available ≡ total *ℤ pos cut.den) where
    rest_is : (rest : ℤ) → rest ≡ available -ℤ left → rest ≡ all -ℤ all_left
    rest_is rest e = e ∙ (λ i. all_is i -ℤ left_is i)

    pub parts_pass : (rest : ℤ) → rest ≡ available -ℤ left → IsSpent num left available → IsReached cut total withouts
        → Equals surplus (record { num = rest; den = cut.den }) → IsThresholdLine (vickreys_of total withouts) total (record { cut = cut; surplus = surplus })
    parts_pass rest e spent reached rests =
        line_passes (vickreys_of total withouts) total cut surplus proper (record {
          low = subst (λ (z : ℤ). pos 0 ≤ℤ z) num_is spent.low;
          high = any_discount Reaches total withouts reached;
          paid = subst (λ (z : ℤ). z ≤ℤ all) left_is (subst (λ (z : ℤ). left ≤ℤ z) all_is spent.paid);
          spent = λ positive. sym left_is ∙ spent.spent (subst (λ (z : ℤ). pos 0 <ℤ z) (sym num_is) positive) ∙ all_is;
          rest = subst Rests (rest_is rest e) rests;
        })

    pub not_spent : ¬ IsSpent num left available → ¬ IsThresholdLine (vickreys_of total withouts) total (record { cut = cut; surplus = surplus })
    not_spent other line =
        let pays = passing_pays (vickreys_of total withouts) total cut surplus proper line in
        other (record {
          low = subst (λ (z : ℤ). pos 0 ≤ℤ z) (sym num_is) pays.low;
          paid = subst (λ (z : ℤ). z ≤ℤ available) (sym left_is) (subst (λ (z : ℤ). all_left ≤ℤ z) (sym all_is) pays.paid);
          spent = λ positive. left_is ∙ pays.spent (subst (λ (z : ℤ). pos 0 <ℤ z) num_is positive) ∙ sym all_is;
        })

    pub not_rest : (rest : ℤ) → rest ≡ available -ℤ left → ¬ Equals surplus (record { num = rest; den = cut.den }) → ¬ IsThresholdLine (vickreys_of total withouts) total (record { cut = cut; surplus = surplus })
    not_rest rest e other line = other (subst Rests (sym (rest_is rest e)) (passing_pays (vickreys_of total withouts) total cut surplus proper line).rest)

  pub not_reached : ¬ IsReached cut total withouts → ¬ IsThresholdLine (vickreys_of total withouts) total (record { cut = cut; surplus = surplus })
  not_reached other line = other (discount_of_any Reaches total withouts (passing_pays (vickreys_of total withouts) total cut surplus proper line).high)

-- ---- a payment

module _ (cut : Fraction) (vickrey worth : ℤ) (discount payment : Fraction) (proper : IsFraction cut) where
  -- a payment line of any name with these amounts
  abbrev Stated : Payment
  Stated = record { name = []; vickrey = vickrey; discount = discount; payment = payment }

  abbrev IsDiscount : ℤ → Type 0
  IsDiscount left = Equals discount (record { num = left; den = cut.den })

  abbrev IsOwed : ℤ → Type 0
  IsOwed owed = Equals payment (record { num = owed; den = discount.den })

  owes : IsPaidAt cut vickrey worth discount payment → charged.IsOwed vickrey worth cut Stated
  owes is = passing_owes vickrey worth cut Stated proper (record { vickrey_is = refl; discount = is.discounted; payment = is.paid })

  module _ (left : ℤ) (left_is : left ≡ cut_num cut.num cut.den vickrey) where
    pub not_discount : ¬ Equals discount (record { num = left; den = cut.den }) → ¬ IsPaidAt cut vickrey worth discount payment
    not_discount other is = other (subst IsDiscount (sym left_is) (owes is).discount)

    pub amounts_pass : (owed : ℤ) → owed ≡ worth *ℤ pos discount.den -ℤ discount.num → Equals discount (record { num = left; den = cut.den })
        → Equals payment (record { num = owed; den = discount.den }) → IsPaidAt cut vickrey worth discount payment
    amounts_pass owed owed_is discounted paid =
        let passes : IsPaymentLine vickrey worth cut Stated = payment_passes vickrey worth cut Stated proper (record {
          vickrey_is = refl;
          discount = subst IsDiscount left_is discounted;
          payment = subst IsOwed owed_is paid;
        }) in
        record { discounted = passes.discount; paid = passes.payment }

  pub not_owed : (owed : ℤ) → owed ≡ worth *ℤ pos discount.den -ℤ discount.num → ¬ Equals payment (record { num = owed; den = discount.den }) → ¬ IsPaidAt cut vickrey worth discount payment
  not_owed owed owed_is other is = other (subst IsOwed (sym owed_is) (owes is).payment)

-- the line of a payment
module _ (vickrey worth : ℤ) (cut : Fraction) (p : Payment) where
  pub line_of_paid : p.vickrey ≡ vickrey → IsPaidAt cut p.vickrey worth p.discount p.payment → IsPaymentLine vickrey worth cut p
  line_of_paid same is = record {
    vickrey_is = same;
    discount = subst (λ (z : ℤ). Equals p.discount (discount_at_cut cut z)) same is.discounted;
    payment = is.paid;
  }

  pub paid_of_line : IsPaymentLine vickrey worth cut p → IsPaidAt cut p.vickrey worth p.discount p.payment
  paid_of_line line = record {
    discounted = subst (λ (z : ℤ). Equals p.discount (discount_at_cut cut z)) (sym line.vickrey_is) line.discount;
    paid = line.payment;
  }
