use Rattle.std.proofs.Common.{[], sym, subst}
use Rattle.ice_verdicts.specs.Judges.{IsRoundOf, IsAfter}
use Rattle.ice_verdicts.proofs.Starting.{next_round, next_begins}
use Rattle.ice_verdicts.proofs.judge.Judge.begin_next.Goals as goal

pub returns-clause-round : goal.returns-clause-round
returns-clause-round c = λ ex is. subst (IsRoundOf ex) (sym c.move_on.ensures) (next_round ex c.args.self.now is)

pub returns-clause-begins : goal.returns-clause-begins
returns-clause-begins c = λ ex is. subst (IsAfter ex []) (sym c.move_on.ensures) (next_begins ex c.args.self.now is)
