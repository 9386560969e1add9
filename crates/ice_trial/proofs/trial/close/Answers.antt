use Rattle.ice_trial.proofs.Ending.{never_goes_on, never_limited, closes_behind, trial_goes_on}
use Rattle.ice_trial.proofs.trial.close.Goals as goal

pub unreachable-requires : goal.unreachable-requires
unreachable-requires c = never_goes_on c.args.ready c.args.first c.requires c.in-Going.field-0 c.in-Going.field-1 c.in-Going.ensures

pub unreachable-unreachable : goal.unreachable-unreachable
unreachable-unreachable c = never_goes_on c.args.ready c.args.first c.requires c.in-Going.field-0 c.in-Going.field-1 c.in-Going.ensures

pub unreachable-requires-in-Limit : goal.unreachable-requires-in-Limit
unreachable-requires-in-Limit c =
    let h = c.in-Limit.field-0 in
    never_limited c.args.ready c.args.first c.requires h.best h.regret h.provisional h.marginals.items c.in-Limit.field-1 c.in-Limit.ensures.1

pub unreachable-unreachable-in-Limit : goal.unreachable-unreachable-in-Limit
unreachable-unreachable-in-Limit c =
    let h = c.in-Limit.field-0 in
    never_limited c.args.ready c.args.first c.requires h.best h.regret h.provisional h.marginals.items c.in-Limit.field-1 c.in-Limit.ensures.1

pub returns-in-Closed : goal.returns-in-Closed
returns-in-Closed c = closes_behind c.args.ready c.args.first c.requires c.in-Closed.closing c.in-Closed.ensures c.summary_of.result c.summary_of.ensures

pub returns-in-Spent : goal.returns-in-Spent
returns-in-Spent c = (c.args.ready, trial_goes_on c.args.ready c.args.first c.requires, c.in-Spent.ensures.0, c.in-Spent.ensures.1)
