-- Payments for final sets, by the Vickrey discounts.
use Rattle.std.specs.Prelude.{List, ℤ}
use Rattle.ice_defs.specs.Bounds.{Bounds}
use Rattle.ice_defs.specs.Cut.{IsCut}
use Rattle.ice_defs.specs.Threshold.{IsThreshold, ArePayments, IsSurplus}
use Rattle.ice_headline_laws.specs.Right.{own_values}
use Rattle.ice_threshold.specs.CutOff.{AreCutDown}
use Rattle.ice_threshold.specs.Limits.{AreShort}
use Rattle.ice_threshold.specs.declared.payments.Payments.{Payments}
use Rattle.ice_search.specs.declared.results.Found.{Found}

-- one cut off the Vickrey discounts, and what it makes of the values of the final sets
pub record ArePaymentsOf (bounds : List Bounds) (best : Found) (vickreys : List ℤ) (p : Payments) : Type 0 where
  pub cut : IsCut vickreys best.value p.cut
  pub cut_down : AreCutDown p.cut p.discounts.items vickreys
  pub discounts : IsThreshold vickreys best.value p.discounts.items
  pub payments : ArePayments (own_values bounds best.best) p.discounts.items p.payments.items
  pub surplus : IsSurplus best.value p.discounts.items p.surplus
  pub short : AreShort p.cut p.surplus p.discounts.items p.payments.items
