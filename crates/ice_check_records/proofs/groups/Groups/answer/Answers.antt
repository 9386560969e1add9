use Rattle.ice_check_records.proofs.Ending.{answered, none_yet}
use Rattle.ice_check_records.proofs.groups.Groups.answer.Goals as goal

pub returns-in-Nothing : goal.returns-in-Nothing
returns-in-Nothing c = answered c.args.self.now c.found.result c.in-Nothing.is c.found.ensures

pub returns-in_default : goal.returns-in_default
returns-in_default c = none_yet c.args.self.now c.in_default.not-Nothing
