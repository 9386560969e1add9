use Rattle.std.proofs.Common.{ℤ, FitsSigned, w64, subst, rules}
use Rattle.std.proofs.lemmas.Int.{to_z-of_z}
use Rattle.ice_replay.specs.Watching.{IsStated}
use Rattle.ice_replay.proofs.Following.{regret_comes, other_regret}
use Rattle.ice_replay.proofs.watch.after_regret.Goals as goal

pub returns-then-due-number : goal.returns-then-due-number
returns-then-due-number c = λ k here. other_regret c.args.number k c.args.due.now c.args.amount here c.if-due-number.true

pub returns : goal.returns
returns c = λ k here.
    let fits : FitsSigned w64 c.args.amount = search rules in
    let stated = subst (λ (z : ℤ). IsStated c.args.due.now z c.in_ok-replay.replay) (to_z-of_z w64 c.args.amount fits) c.in_ok-replay.ensures in
    regret_comes c.args.number k c.args.due.now c.args.amount here c.in_ok-replay.replay c.if-due-number.false stated
