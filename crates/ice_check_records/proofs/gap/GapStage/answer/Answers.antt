use Rattle.std.proofs.Common.{sym, ◌∙◌, subst}
use Rattle.ice_check_records.specs.declared.gap.GapStage.{GapStage}
use Rattle.ice_check_records.specs.Gaps.{IsGapProgress}
use Rattle.ice_check_records.proofs.Gapping.{before_gives}
use Rattle.ice_check_records.proofs.gap.GapStage.answer.Goals as goal

pub returns-in-Before : goal.returns-in-Before
returns-in-Before c = λ p is.
    let n = c.args.number in
    before_gives n c.in-Before.stage c.answer.result p c.answer.ensures (subst (λ (s : GapStage). IsGapProgress n s p) c.in-Before.is is) ∙ sym c.found.ensures
