use Rattle.ice_verdicts.proofs.judge.Judge.submit_of.Goals as goal

pub returns-in-Ok-clause-round : goal.returns-in-Ok-clause-round
returns-in-Ok-clause-round c = c.mark.ensures.round c.args.exchange.now c.requires.round c.in-Ok.ensures.bounds
