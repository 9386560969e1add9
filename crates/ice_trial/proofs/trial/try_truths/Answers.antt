use Rattle.ice_session_laws.proofs.Rounds.{run_begins}
use Rattle.ice_trial.proofs.trial.try_truths.Goals as goal

pub settle_twice-requires-clause-running : goal.settle_twice-requires-clause-running
settle_twice-requires-clause-running c = run_begins c.args.exchange c.in-Ok.ready c.bidders-bidders.ensures.lawful c.in-Ok.ensures
