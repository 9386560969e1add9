use Rattle.std.proofs.Common.{◌≡◌, ◌∙◌, sym, rules, ◌<ℤ◌, ◌≤ℤ◌}
use Rattle.ice_regret.specs.Ties.{no_smaller, spent}
use Rattle.ice_regret.proofs.ties.smaller_regret.Goals as goal

pub returns-then-other-kept : goal.returns-then-other-kept
returns-then-other-kept c =
    let above : c.close_regret.result <ℤ c.args.kept.now.amount = search rules in
    let same : c.lower_value-lower.result ≡ c.args.best.now.value = search rules in
    let less : c.in-Ok.other.amount <ℤ c.args.kept.now.amount = search rules in
    (record { above = rw (sym c.close_regret.ensures) above; tied = sym c.lower_value-lower.ensures.value ∙ same }, c.in-Ok.ensures.regret, less, c.in-Ok.ensures.branches)

pub returns-in-Ok : goal.returns-in-Ok
returns-in-Ok c =
    let no_less : c.args.kept.now.amount ≤ℤ c.in-Ok.other.amount = search rules in
    no_smaller c.in-Ok.other.amount c.in-Ok.ensures.regret.regret no_less

pub returns-in-Err-Spent : goal.returns-in-Err-Spent
returns-in-Err-Spent c =
    let end = rw c.in-Err-Spent.field-0-is at c.in-Err-Spent.ensures.end in
    spent c.in-Err-Spent.field-0-0 end.0
