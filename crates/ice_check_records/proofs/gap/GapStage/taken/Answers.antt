use Rattle.std.proofs.Common.{refl, sym, subst}
use Rattle.ice_journal.specs.Lines.{record_of}
use Rattle.ice_gap_laws.specs.Gap.{GapProgress, out_of_order, IsGapAfter}
use Rattle.ice_check_records.specs.declared.gap.GapStage.{GapStage}
use Rattle.ice_check_records.specs.Gaps.{IsGapProgress, TakesGapFurther}
use Rattle.ice_check_records.proofs.gap.GapStage.taken.Goals as goal

pub returns-in-Ended-clause-leads : goal.returns-in-Ended-clause-leads
returns-in-Ended-clause-leads c = λ p is.
    let n = c.args.number in
    let come = subst (λ (s : GapStage). IsGapProgress n s p) c.in-Ended.is is in
    subst (λ (s : GapStage). TakesGapFurther n s p (record_of c.args.line.now)) (sym c.failed.ensures) (record {
      after = out_of_order n;
      leads = subst (λ (q : GapProgress). IsGapAfter q (record_of c.args.line.now) (out_of_order n)) (sym come) refl;
      stands = refl;
    })
