use Rattle.std.proofs.Common.{◌≡◌, ℤ, sym, subst}
use Rattle.std.proofs.lemmas.Int.{to_z-of_z}
use mir.Syntax.{w64}
use Rattle.ice_journal.specs.Lines.{fraction_of}
use Rattle.ice_journal_laws.specs.Fields.{Closing}
use Rattle.ice_journal_laws.specs.Tests.{IsThresholdLine}
use Rattle.ice_check_charge.specs.Tests.{vickreys_of}
use Rattle.ice_check_charge.specs.Stated.{closing_of, cut_record}
use Rattle.ice_check_charge.specs.Charging.{PassesCut}
use Rattle.ice_check_charge.proofs.Taken.{cut_fails, cut_passes}
use Rattle.ice_check_charge.proofs.cut.take_stated.Goals as goal

pub returns-then-passes : goal.returns-then-passes
returns-then-passes c =
    let stated = c.args.stated.now in
    let same : c.new.result ≡ closing_of stated = λ i. record { cut = c.new.ensures.cut i; surplus = c.new.ensures.surplus i } in
    subst (λ (x : Closing). PassesCut c.args.withouts.now c.args.total (cut_record stated) x) (sym same)
    (cut_passes c.args.withouts.now c.args.total (fraction_of stated.cut) (fraction_of stated.surplus)
    (subst (λ (z : ℤ). IsThresholdLine (vickreys_of z c.args.withouts.now) z (closing_of stated)) (to_z-of_z w64 c.args.total c.ranges.total) (c.passes.ensures.yes c.if-passes.true)))

pub returns-else-passes : goal.returns-else-passes
returns-else-passes c =
    let stated = c.args.stated.now in
    cut_fails c.args.withouts.now c.args.total (fraction_of stated.cut) (fraction_of stated.surplus)
    (subst (λ (z : ℤ). ¬ IsThresholdLine (vickreys_of z c.args.withouts.now) z (closing_of stated)) (to_z-of_z w64 c.args.total c.ranges.total) (c.passes.ensures.no c.if-passes.false))
