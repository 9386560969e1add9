use Rattle.std.proofs.Common.{[], length, replicate, pos, refl, sym, subst}
use Rattle.ice_verdicts.specs.Judges.{IsRoundOf, IsAfter}
use Rattle.ice_verdicts.proofs.Starting.{opening_round}
use Rattle.ice_verdicts.proofs.Leading.{round_begins}
use Rattle.ice_verdicts.proofs.judge.Judge.new.Goals as goal

pub returns-clause-round : goal.returns-clause-round
returns-clause-round c = subst (IsRoundOf c.args.exchange.now) (sym c.in_ok-judge.ensures) (opening_round c.args.exchange.now _ c.bidders-bidders.ensures.lawful)

pub returns-clause-begins : goal.returns-clause-begins
returns-clause-begins c =
    subst (IsAfter c.args.exchange.now []) (sym c.in_ok-judge.ensures)
    (round_begins c.args.exchange.now _ (opening_round c.args.exchange.now (record { den = 1; nums = replicate (length c.args.exchange.now.goods) (pos 0) }) c.bidders-bidders.ensures.lawful) refl refl)
