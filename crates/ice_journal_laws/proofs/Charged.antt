-- The cut, the surplus and the payments as whole numbers.
use Rattle.std.proofs.Common.{◌≡◌, ◌<◌, ◌^◌, List, map, length, get_or, Any, ℤ, pos, neg_ℤ, ◌+ℤ◌, ◌-ℤ◌, ◌*ℤ◌, ◌≤ℤ◌, ◌<ℤ◌, sym, ◌∙◌, ap, subst, arith}
use Rattle.std.proofs.lemmas.Int.{ints}
use Rattle.std.proofs.lemmas.List.{length-map, get_or-map, get_or_default}
use Rattle.std.proofs.Math.Nat.{mul-pos, one-mul}
use Rattle.std.proofs.Math.IntN.{zero-*ℤ}
use Rattle.ice_defs.specs.Sum.{sum_over}
use Rattle.ice_defs.specs.Fraction.{Fraction, whole_number, IsFraction, AtMost, Below, Equals, minus}
use Rattle.ice_defs.specs.Cut.{discount_at_cut, cut_sum}
use Rattle.ice_defs.specs.Session.{Payment}
use Rattle.ice_defs.proofs.Products.{times_one}
use Rattle.ice_frac.proofs.Fractions.{Equals-trans, Equals-less, Equals-whole, less-same_den, AtMost-left, proper_less}
use Rattle.ice_threshold.specs.CutOff.{cut_num}
use Rattle.ice_threshold.proofs.CutSum.{cut_down_is, cut_sum_is, proper-cut_down, proper-cut_sum}
use Rattle.std.specs.Prelude.{unsigned_abs}
use Rattle.ice_frac.specs.Lowest.{IsLowest}
use Rattle.ice_frac.proofs.Gcd.{gcd_is}
use Rattle.ice_journal.specs.Ranges.{IsFractionField}
use Rattle.ice_threshold.proofs.Levels.{size_between}
use Rattle.ice_journal_laws.specs.Tests.{IsThresholdLine, IsPaymentLine}

minus_is : (a b : ℤ) → a +ℤ neg_ℤ b ≡ a -ℤ b
minus_is a b = omega (arith, ints)

-- ---- the cut

-- what a threshold line asks for, in whole numbers over the denominator of the cut
pub record IsPaid (vickrey : List ℤ) (total : ℤ) (cut surplus : Fraction) : Type 0 where
  pub low : pos 0 ≤ℤ cut.num
  pub high : Any (λ v. AtMost cut (whole_number v)) vickrey
  pub paid : sum_over (cut_num cut.num cut.den) vickrey ≤ℤ (total *ℤ pos cut.den)
  pub spent : pos 0 <ℤ cut.num → sum_over (cut_num cut.num cut.den) vickrey ≡ total *ℤ pos cut.den
  pub rest : Equals surplus (record { num = total *ℤ pos cut.den -ℤ sum_over (cut_num cut.num cut.den) vickrey; den = cut.den })

module _ (vickrey : List ℤ) (total : ℤ) (cut surplus : Fraction) (proper : IsFraction cut) where
  -- the rest of the total
  rest_is : Equals (minus (whole_number total) (cut_sum cut vickrey)) (record { num = total *ℤ pos cut.den -ℤ sum_over (cut_num cut.num cut.den) vickrey; den = cut.den })
  rest_is =
      let part : Fraction = record { num = sum_over (cut_num cut.num cut.den) vickrey; den = cut.den } in
      let all : Fraction = record { num = total *ℤ pos cut.den; den = cut.den } in
      Equals-trans (minus (whole_number total) (cut_sum cut vickrey)) (minus all part) (record { num = total *ℤ pos cut.den -ℤ sum_over (cut_num cut.num cut.den) vickrey; den = cut.den })
      (mul-pos proper proper)
      (Equals-less (whole_number total) (cut_sum cut vickrey) all part (sym (Equals-whole total cut.den)) (cut_sum_is cut.num cut.den proper vickrey))
      (subst (λ (z : ℤ). Equals (minus all part) (record { num = z; den = cut.den })) (minus_is (total *ℤ pos cut.den) (sum_over (cut_num cut.num cut.den) vickrey))
      (less-same_den (total *ℤ pos cut.den) (sum_over (cut_num cut.num cut.den) vickrey) cut.den))

  below_is : Below (whole_number (pos 0)) cut → pos 0 <ℤ cut.num
  below_is h = omega (arith, ints, h, zero-*ℤ (pos cut.den), times_one cut.num)

  is_below : pos 0 <ℤ cut.num → Below (whole_number (pos 0)) cut
  is_below h = omega (arith, ints, h, zero-*ℤ (pos cut.den), times_one cut.num)

  pub line_passes : IsPaid vickrey total cut surplus → IsThresholdLine vickrey total (record { cut = cut; surplus = surplus })
  line_passes h =
      let part : Fraction = record { num = sum_over (cut_num cut.num cut.den) vickrey; den = cut.den } in
      let others : Fraction = record { num = total *ℤ pos cut.den -ℤ sum_over (cut_num cut.num cut.den) vickrey; den = cut.den } in
      record {
        low = omega (arith, ints, h.low, zero-*ℤ (pos cut.den), times_one cut.num);
        high = h.high;
        paid = AtMost-left part (cut_sum cut vickrey) (whole_number total) proper (sym (cut_sum_is cut.num cut.den proper vickrey)) (omega (arith, ints, h.paid, times_one (sum_over (cut_num cut.num cut.den) vickrey)));
        spent = λ below. Equals-trans (cut_sum cut vickrey) part (whole_number total) proper (cut_sum_is cut.num cut.den proper vickrey) (times_one (sum_over (cut_num cut.num cut.den) vickrey) ∙ h.spent (below_is below));
        rest = Equals-trans surplus others (minus (whole_number total) (cut_sum cut vickrey)) proper h.rest (sym rest_is);
      }

  pub passing_pays : IsThresholdLine vickrey total (record { cut = cut; surplus = surplus }) → IsPaid vickrey total cut surplus
  passing_pays h =
      let part : Fraction = record { num = sum_over (cut_num cut.num cut.den) vickrey; den = cut.den } in
      let others : Fraction = record { num = total *ℤ pos cut.den -ℤ sum_over (cut_num cut.num cut.den) vickrey; den = cut.den } in
      let paid : AtMost part (whole_number total) = AtMost-left (cut_sum cut vickrey) part (whole_number total) (proper-cut_sum cut vickrey proper) (cut_sum_is cut.num cut.den proper vickrey) h.paid in
      record {
        low = omega (arith, ints, h.low, zero-*ℤ (pos cut.den), times_one cut.num);
        high = h.high;
        paid = omega (arith, ints, paid, times_one (sum_over (cut_num cut.num cut.den) vickrey));
        spent = λ positive.
            let equal : Equals part (whole_number total) = Equals-trans part (cut_sum cut vickrey) (whole_number total) (proper-cut_sum cut vickrey proper) (sym (cut_sum_is cut.num cut.den proper vickrey)) (h.spent (is_below positive)) in
            sym (times_one (sum_over (cut_num cut.num cut.den) vickrey)) ∙ equal;
        rest = Equals-trans surplus (minus (whole_number total) (cut_sum cut vickrey)) others (proper_less total (cut_sum cut vickrey) (proper-cut_sum cut vickrey proper)) h.rest rest_is;
      }

-- ---- a payment

-- what a payment line asks for, in whole numbers
pub record IsOwed (vickrey worth : ℤ) (cut : Fraction) (p : Payment) : Type 0 where
  pub vickrey_is : p.vickrey ≡ vickrey
  pub discount : Equals p.discount (record { num = cut_num cut.num cut.den vickrey; den = cut.den })
  pub payment : Equals p.payment (record { num = worth *ℤ pos p.discount.den -ℤ p.discount.num; den = p.discount.den })

module _ (vickrey worth : ℤ) (cut : Fraction) (p : Payment) (proper : IsFraction cut) where
  less_is : minus (whole_number worth) p.discount ≡ record { num = worth *ℤ pos p.discount.den -ℤ p.discount.num; den = p.discount.den }
  less_is = λ i. record { num = num i; den = one-mul p.discount.den i }
    where
      num : worth *ℤ pos p.discount.den +ℤ neg_ℤ p.discount.num *ℤ pos 1 ≡ worth *ℤ pos p.discount.den -ℤ p.discount.num
      num = ap (λ (z : ℤ). worth *ℤ pos p.discount.den +ℤ z) (times_one (neg_ℤ p.discount.num)) ∙ minus_is (worth *ℤ pos p.discount.den) p.discount.num

  pub payment_passes : IsOwed vickrey worth cut p → IsPaymentLine vickrey worth cut p
  payment_passes h = record {
    vickrey_is = h.vickrey_is;
    discount = Equals-trans p.discount (record { num = cut_num cut.num cut.den vickrey; den = cut.den }) (discount_at_cut cut vickrey) proper h.discount (sym (cut_down_is cut.num cut.den vickrey));
    payment = subst (Equals p.payment) (sym less_is) h.payment;
  }

  pub passing_owes : IsPaymentLine vickrey worth cut p → IsOwed vickrey worth cut p
  passing_owes h = record {
    vickrey_is = h.vickrey_is;
    discount = Equals-trans p.discount (discount_at_cut cut vickrey) (record { num = cut_num cut.num cut.den vickrey; den = cut.den }) (proper-cut_down cut vickrey proper) h.discount (cut_down_is cut.num cut.den vickrey);
    payment = subst (Equals p.payment) less_is h.payment;
  }

-- ---- a fraction as it is stated

pub stated_lowest : (f : Fraction) → IsFractionField f → IsLowest f
stated_lowest f h = record {
  num_fits = omega (arith, size_between f.num (10 ^ 18) h.num.1 h.num.0);
  positive = omega (arith, h.den.0);
  den_fits = omega (arith, h.den.1);
  coprime = gcd_is (unsigned_abs f.num) f.den 1 h.lowest;
}

-- ---- some of the discounts

pub any_discount : (P : ℤ → Type 0) (total : ℤ) (withouts : List ℤ) → Any (λ without. P (total -ℤ without)) withouts → Any P (map (λ without. total -ℤ without) withouts)
any_discount P total withouts (k, x, l, e, p) =
    (k, total -ℤ x, omega (arith, l, length-map withouts (λ without. total -ℤ without)), get_or-map (λ without. total -ℤ without) withouts k x (total -ℤ x) l ∙ ap (λ without. total -ℤ without) e, p)

pub discount_of_any : (P : ℤ → Type 0) (total : ℤ) (withouts : List ℤ) → Any P (map (λ without. total -ℤ without) withouts) → Any (λ without. P (total -ℤ without)) withouts
discount_of_any P total withouts (k, y, l, e, p) =
    let there : k < length withouts = omega (arith, l, length-map withouts (λ without. total -ℤ without)) in
    let x : ℤ = get_or withouts k (pos 0) in
    let same : y ≡ total -ℤ x = sym e ∙ get_or-map (λ without. total -ℤ without) withouts k (pos 0) y there in
    (k, x, there, get_or_default withouts k x (pos 0) there, subst P same p)
