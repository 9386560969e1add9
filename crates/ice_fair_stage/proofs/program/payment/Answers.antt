use Rattle.std.proofs.Common.{ℕ, ◌≡◌, ◌<◌, ◌≤◌, ◌∙◌, ◌^◌, ap, length, pos, arith, get_or, List}
use Rattle.std.specs.List.{AllByRecursion}
use Rattle.std.proofs.lemmas.Int.{ints}
use Rattle.std.proofs.lemmas.List.{get_or_default}
use Rattle.std.proofs.lemmas.List.Elements.{All-from_recursion}
use Rattle.ice_defs.specs.Fraction.{Fraction, whole_number, fraction_at}
use Rattle.ice_defs.specs.PricingRun.{num_over}
use Rattle.ice_row_laws.specs.Sizes.{IsSizedWithin}
use Rattle.ice_fair_stage.specs.Paid.{IsShortPayment}
use Rattle.ice_fair_stage.specs.Stages.{FairStage}
use Rattle.ice_fair_stage.proofs.Sets.{payment-sized}
use Rattle.ice_fair_stage.proofs.program.payment.Goals as goal

-- a payment, as it is read
read-sized : (cut k i bidder : ℕ) (ps qs : List Fraction) (f : Fraction) → k ≡ cut → i ≡ bidder → ps ≡ qs → bidder < length qs → cut ≤ 1000 → AllByRecursion IsShortPayment qs
    → IsSizedWithin (10 ^ 21) (num_over cut (fraction_at qs bidder)) × (num_over k (get_or ps i f) ≡ num_over cut (fraction_at qs bidder))
read-sized cut k i bidder ps qs f e g h there few short =
    let read : get_or ps i f ≡ fraction_at qs bidder = ap (λ xs. get_or xs i f) h ∙ ap (λ j. get_or qs j f) g ∙ get_or_default qs bidder f (whole_number (pos 0)) there in (
      payment-sized cut (fraction_at qs bidder) few (All-from_recursion IsShortPayment qs short bidder (whole_number (pos 0)) there),
      ap (λ j. num_over j (get_or ps i f)) e ∙ ap (num_over cut) read,
    )

pub num_over-requires-clause-low : goal.num_over-requires-clause-low
num_over-requires-clause-low c =
    let (is, e) = read-sized c.args.at.now.cut c.from-2.result c.from.result c.args.bidder c.at.inside.payments.now c.args.at.now.payments c.index-at-from.result (c.from-2.ensures ∙ ap (λ (s : FairStage). s.cut) c.at.view_is)
    c.from.ensures (ap (λ (s : FairStage). s.payments) c.at.view_is) c.requires.bidder c.requires.few c.requires.short in
    omega (arith, ints, e, is.low)

pub num_over-requires-clause-high : goal.num_over-requires-clause-high
num_over-requires-clause-high c =
    let (is, e) = read-sized c.args.at.now.cut c.from-2.result c.from.result c.args.bidder c.at.inside.payments.now c.args.at.now.payments c.index-at-from.result (c.from-2.ensures ∙ ap (λ (s : FairStage). s.cut) c.at.view_is)
    c.from.ensures (ap (λ (s : FairStage). s.payments) c.at.view_is) c.requires.bidder c.requires.few c.requires.short in
    omega (arith, ints, e, is.high)

pub returns-clause-value : goal.returns-clause-value
returns-clause-value c =
    let (is, e) = read-sized c.args.at.now.cut c.from-2.result c.from.result c.args.bidder c.at.inside.payments.now c.args.at.now.payments c.index-at-from.result (c.from-2.ensures ∙ ap (λ (s : FairStage). s.cut) c.at.view_is)
    c.from.ensures (ap (λ (s : FairStage). s.payments) c.at.view_is) c.requires.bidder c.requires.few c.requires.short in
    omega (arith, ints, c.num_over.ensures, e, is.low, is.high)

pub returns-clause-low : goal.returns-clause-low
returns-clause-low c =
    let (is, e) = read-sized c.args.at.now.cut c.from-2.result c.from.result c.args.bidder c.at.inside.payments.now c.args.at.now.payments c.index-at-from.result (c.from-2.ensures ∙ ap (λ (s : FairStage). s.cut) c.at.view_is)
    c.from.ensures (ap (λ (s : FairStage). s.payments) c.at.view_is) c.requires.bidder c.requires.few c.requires.short in
    let value = returns-clause-value c in
    omega (arith, ints, value, is.low)

pub returns-clause-high : goal.returns-clause-high
returns-clause-high c =
    let (is, e) = read-sized c.args.at.now.cut c.from-2.result c.from.result c.args.bidder c.at.inside.payments.now c.args.at.now.payments c.index-at-from.result (c.from-2.ensures ∙ ap (λ (s : FairStage). s.cut) c.at.view_is)
    c.from.ensures (ap (λ (s : FairStage). s.payments) c.at.view_is) c.requires.bidder c.requires.few c.requires.short in
    let value = returns-clause-value c in
    omega (arith, ints, value, is.high)
