use Rattle.ice_trial.specs.Rounds.{HaveSubmitted}
use Rattle.ice_trial.proofs.round.submit_all.Given as goal

abbrev pub invariant-loop-bid : goal.invariant-loop-bid
invariant-loop-bid l = HaveSubmitted l.initial.round l.round l.bids l.bid-index
