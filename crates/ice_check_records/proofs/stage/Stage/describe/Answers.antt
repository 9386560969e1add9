use Rattle.ice_check_records.proofs.stage.Stage.describe.Goals as goal

pub returns-in-Ok-clause-within : goal.returns-in-Ok-clause-within
returns-in-Ok-clause-within c = (c.in-Ok.ensures.number c.args.number, c.in-Ok.ensures.kept)
