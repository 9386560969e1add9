use Rattle.std.proofs.Common.{List, subst}
use Rattle.ice_defs.specs.Round.{Judged, IsNextVerdict}
use Rattle.ice_verdicts.specs.Judges.{bidders_in, IsVerdictIn, IsAfter}
use Rattle.ice_round.specs.SessionAt.{RoundAt}
use Rattle.ice_round.proofs.in_round.InRound.submit.Goals as goal

pub returns-clause-verdict : goal.returns-clause-verdict
returns-clause-verdict c = subst (λ (r : RoundAt). IsVerdictIn r.exchange r.round c.args.bid.now c.submit.result) c.self.view_is c.submit.ensures.verdict

pub returns-clause-next : goal.returns-clause-next
returns-clause-next c =
    subst (λ (r : RoundAt). (judged : List Judged) → IsAfter r.exchange judged r.round → IsNextVerdict r.round.prices r.exchange.settings.improve (bidders_in r.exchange r.round) judged c.args.bid.now c.submit.result)
    c.self.view_is c.submit.ensures.next
