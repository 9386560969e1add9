use Rattle.std.proofs.Common.{suc, Bool, cond, refl, sym, ◌∙◌, ap, subst}
use Rattle.ice_journal.specs.Lines.{record_of}
use Rattle.ice_gap_laws.specs.Gap.{GapProgress, ended, out_of_order, IsGapAfter}
use Rattle.ice_check_records.specs.declared.gap.GapStage.{GapStage}
use Rattle.ice_check_records.specs.Gaps.{stated_gap, TakesGapFurther}
use Rattle.ice_check_records.proofs.gap.GapStage.close.Goals as goal

pub returns-else-ends_gap-clause-leads : goal.returns-else-ends_gap-clause-leads
returns-else-ends_gap-clause-leads c = λ p is.
    let n = c.args.number in
    subst (λ (s : GapStage). TakesGapFurther n s p (record_of c.args.line.now)) (sym c.failed.ensures) (record {
      after = out_of_order n;
      leads = subst (λ (q : GapProgress). IsGapAfter q (record_of c.args.line.now) (out_of_order n)) (sym is)
          (sym (ap (λ (b : Bool). cond b (ended (stated_gap c.args.spent) (suc n)) (out_of_order n)) (sym c.ends_gap.ensures ∙ c.if-ends_gap.false)));
      stands = refl;
    })
