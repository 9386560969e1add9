use Rattle.ice_session_commands.specs.SessionSteps.{HaveJudged}
use Rattle.ice_session_commands.proofs.session_journal.judge.Given as goal

abbrev pub invariant-loop-bid : goal.invariant-loop-bid
invariant-loop-bid g l = HaveJudged l.initial.round l.round l.bids l.bid-index (g.K.Sink.taken l.initial.out) (g.K.Sink.taken l.out)
