use Rattle.std.proofs.Common.{◌∙◌, List, subst}
use Rattle.ice_defs.specs.Bounds.{Bounds}
use Rattle.ice_defs.specs.Exchange.{Exchange}
use Rattle.ice_trial.specs.Ends.{IsTrialEnd}
use Rattle.ice_trial.proofs.Ending.{closes_at_once, trial_begins}
use Rattle.ice_trial.proofs.trial.settle_twice.Goals as goal

pub hold_round-requires : goal.hold_round-requires
hold_round-requires c = (c.args.ready, c.requires.running, c.in-Going.ensures, c.requires.truths)

pub close-requires : goal.close-requires
close-requires c = c.in-Ok.ensures.0

pub returns-in-Closed : goal.returns-in-Closed
returns-in-Closed c = closes_at_once c.args.ready c.args.truths.now c.requires.running c.in-Closed.closing c.in-Closed.ensures c.summary_of.result c.summary_of.ensures

pub returns-in-Ok : goal.returns-in-Ok
returns-in-Ok c =
    subst (λ (bs : List Bounds). IsTrialEnd c.args.ready.exchange bs c.close.result) c.in-Ok.ensures.2
    (subst (λ (x : Exchange). IsTrialEnd x c.in-Ok.next.bounds c.close.result) (c.in-Ok.ensures.1 ∙ c.in-Going.ensures.exchange) c.close.ensures)

pub returns-in-Spent : goal.returns-in-Spent
returns-in-Spent c = (c.args.ready, trial_begins c.args.ready c.args.truths.now c.requires.running, c.in-Spent.ensures.0, c.in-Spent.ensures.1)

pub returns-in-Limit : goal.returns-in-Limit
returns-in-Limit c = (c.args.ready, trial_begins c.args.ready c.args.truths.now c.requires.running, c.in-Limit.ensures.0, c.in-Limit.ensures.1)
