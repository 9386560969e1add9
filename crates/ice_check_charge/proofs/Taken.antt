-- What a record makes of the tests in each state that awaits the cut or a payment.
use Rattle.std.proofs.Common.{◌≡◌, ℕ, true, false, List, ℤ, pos, ◌-ℤ◌, sym, ◌∙◌, ap, subst, slice_index_or}
use Rattle.std.specs.Prelude.{None}
use Rattle.std.specs.Str.{bytes_eq}
use Rattle.std.proofs.lemmas.List.{get_or-map}
use Rattle.ice_defs.specs.Fraction.{Fraction}
use Rattle.ice_defs.specs.Session.{Payment}
use Rattle.ice_journal.specs.Records.{Record}
use Rattle.ice_journal.specs.Records as line
use Rattle.ice_journal_laws.specs.declared.rule.Rule.TheVariants as rule
use Rattle.ice_journal_laws.specs.State.{Place, at_threshold, at_payment, State}
use Rattle.ice_journal_laws.specs.Fields.{threshold_in, payment_in}
use Rattle.ice_journal_laws.specs.Next.{go_to}
use Rattle.ice_journal_laws.specs.Tests.{vickreys, IsThresholdLine, final_worth, IsPaymentLine}
use Rattle.ice_journal_laws.specs.Progress.{Progress, TakesOn}
use Rattle.ice_journal_laws.proofs.Settling.{threshold_missing, threshold_wrong, threshold_right, payment_missing, payment_misnamed, payment_wrong, payment_right}
use Rattle.ice_check_charge.specs.declared.due.Due.{Due}
use Rattle.ice_check_charge.specs.Tests.{vickreys_of}
use Rattle.ice_check_charge.specs.Charging.{AwaitsCut, PassesCut, FailsCut, AwaitsPayment, PassesPayment, FailsPayment}

-- ---- the cut and the surplus

-- what is tested
record Values : Type 0 where
  each : List ℤ
  sum : ℤ

module _ (withouts : List ℤ) (total : ℤ) where
  -- in a state that awaits the cut
  here : (s : State) (r : Record) (x : Progress) → AwaitsCut withouts total s → TakesOn (go_to at_threshold s) r x → TakesOn s r x
  here s r x awaits h = subst (λ (p : Place). TakesOn (go_to p s) r x) (sym awaits.place) h

  pub cut_missing : (r : Record) → threshold_in r ≡ None → FailsCut withouts total r rule.Order
  cut_missing r none s awaits = here s r _ awaits (threshold_missing s r none)

  module _ (cut surplus : Fraction) where
    abbrev Passes : Values → Type 0
    Passes v = IsThresholdLine (vickreys_of v.sum v.each) v.sum (record { cut = cut; surplus = surplus })

    same_values : (s : State) → AwaitsCut withouts total s → (let v : Values = record { each = s.withouts; sum = s.final.value } in v) ≡ record { each = withouts; sum = total }
    same_values s awaits = λ i. record { each = awaits.withouts_are i; sum = awaits.total_is i }

    pub cut_fails : ¬ IsThresholdLine (vickreys_of total withouts) total (record { cut = cut; surplus = surplus }) → FailsCut withouts total (line.threshold cut surplus) rule.Threshold
    cut_fails other s awaits = here s (line.threshold cut surplus) _ awaits (threshold_wrong s cut surplus (λ is. other (subst Passes (same_values s awaits) is)))

    pub cut_passes : IsThresholdLine (vickreys_of total withouts) total (record { cut = cut; surplus = surplus })
        → PassesCut withouts total (line.threshold cut surplus) (record { cut = cut; surplus = surplus })
    cut_passes is s awaits = here s (line.threshold cut surplus) _ awaits (threshold_right s cut surplus (subst Passes (sym (same_values s awaits)) is))

-- ---- a payment

-- what is tested
record Amounts : Type 0 where
  vickrey : ℤ
  worth : ℤ
  cut : Fraction

module _ (cut : Fraction) (due : Due) where
  -- in a state that awaits a payment
  there : (b : ℕ) (s : State) (r : Record) (x : Progress) → AwaitsPayment cut due b s → TakesOn (go_to (at_payment b) s) r x → TakesOn s r x
  there b s r x awaits h = subst (λ (p : Place). TakesOn (go_to p s) r x) (sym awaits.place) h

  pub missing : (r : Record) → payment_in r ≡ None → FailsPayment cut due r rule.Order
  missing r none b s awaits = there b s r _ awaits (payment_missing s b r none)

  module _ (p : Payment) where
    pub misnamed : bytes_eq p.name due.name.now ≡ false → FailsPayment cut due (line.payment p.name p.vickrey p.discount p.payment) rule.Order
    misnamed other b s awaits = there b s (line.payment p.name p.vickrey p.discount p.payment) _ awaits (payment_misnamed s b p (ap (bytes_eq p.name) awaits.name_is ∙ other))

    abbrev Owes : Amounts → Type 0
    Owes a = IsPaymentLine a.vickrey a.worth a.cut p

    same_vickrey : (b : ℕ) (s : State) → AwaitsPayment cut due b s → slice_index_or (vickreys s) b (pos 0) ≡ due.total -ℤ due.without
    same_vickrey b s awaits = get_or-map (λ without. s.final.value -ℤ without) s.withouts b (pos 0) (pos 0) awaits.there ∙ (λ i. awaits.total_is i -ℤ awaits.without_is i)

    same_amounts : (b : ℕ) (s : State) → AwaitsPayment cut due b s
        → (let a : Amounts = record { vickrey = slice_index_or (vickreys s) b (pos 0); worth = final_worth s b; cut = s.cut } in a) ≡ record { vickrey = due.total -ℤ due.without; worth = due.worth; cut = cut }
    same_amounts b s awaits = λ i. record { vickrey = same_vickrey b s awaits i; worth = awaits.worth_is i; cut = awaits.cut_is i }

    module _ (named : bytes_eq p.name due.name.now ≡ true) where
      pub fails : ¬ IsPaymentLine (due.total -ℤ due.without) due.worth cut p → FailsPayment cut due (line.payment p.name p.vickrey p.discount p.payment) rule.Payment
      fails other b s awaits =
          there b s (line.payment p.name p.vickrey p.discount p.payment) _ awaits
          (payment_wrong s b p (ap (bytes_eq p.name) awaits.name_is ∙ named) (λ is. other (subst Owes (same_amounts b s awaits) is)))

      pub passes : IsPaymentLine (due.total -ℤ due.without) due.worth cut p → PassesPayment cut due (line.payment p.name p.vickrey p.discount p.payment)
      passes is b s awaits =
          there b s (line.payment p.name p.vickrey p.discount p.payment) _ awaits
          (payment_right s b p (ap (bytes_eq p.name) awaits.name_is ∙ named) (subst Owes (sym (same_amounts b s awaits)) is))
