use Rattle.std.proofs.Common.{rules, ◌≡◌, sym, subst}
use Rattle.std.specs.Prelude.{Ok}
use Rattle.ice_journal_laws.specs.declared.answer.Answer.{Answer}
use Rattle.ice_check_records.specs.declared.groups.Groups.{Groups}
use Rattle.ice_check_records.specs.Taking.{IsAnswer}
use Rattle.ice_journal_laws.specs.Answers.{EndsWith}
use Rattle.ice_check_records.specs.declared.stage.Stage.{Stage}
use Rattle.ice_check_records.specs.Stages.{IsProgress}
use Rattle.ice_check_records.proofs.Staged.{answers_behind}
use Rattle.ice_check_records.proofs.stage.Stage.answer.Goals as goal

pub returns-in-Behind : goal.returns-in-Behind
returns-in-Behind c = λ p is.
    let g = c.in-Behind.groups.value in
    let n = c.args.number in
    let same : c.deref.result.now ≡ g = search rules in
    let h : IsAnswer g c.answer.result = subst (λ (x : Groups). IsAnswer x c.answer.result) same c.answer.ensures in
    subst (λ (a : Answer). EndsWith p (Ok a)) (sym c.unwrap_or.ensures) (answers_behind g n c.answer.result p h (subst (λ (s : Stage). IsProgress n s p) c.in-Behind.is is))
