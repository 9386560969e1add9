use Rattle.std.proofs.Common.{◌≡◌, ◌+◌, ℕ, suc, sym, arith, subst}
use Rattle.ice_check_records.specs.declared.gap.GapStage.{GapStage}
use Rattle.ice_check_records.specs.Gaps.{IsGapProgress}
use Rattle.ice_check_records.specs.GapChecking.{GapChecking, HasGapCome}
use Rattle.ice_check_records.proofs.gap_checker.GapChecker.feed.Goals as goal

pub returns-clause-after : goal.returns-clause-after
returns-clause-after c = λ p is.
    let n = c.self.inside.next_line in
    let come : IsGapProgress n c.self.inside.stage p = subst (λ (v : GapChecking). HasGapCome v p) (sym c.self.view_is) is in
    let there : IsGapProgress n c.replace-stage.result p = subst (λ (s : GapStage). IsGapProgress n s p) (sym c.replace-stage.ensures.value) come in
    let x = c.in_ok-self-inside.ensures.leads p there in
    let more : suc n ≡ n + 1 = omega arith in
    record { after = x.after; leads = x.leads; come = subst (λ (k : ℕ). IsGapProgress k c.in_ok-self-inside.field-0 x.after) more x.stands }
