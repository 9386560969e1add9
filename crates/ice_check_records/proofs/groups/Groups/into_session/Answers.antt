use Rattle.ice_check_records.proofs.Leaving.{not_ended}
use Rattle.ice_check_records.proofs.groups.Groups.into_session.Goals as goal

pub returns-in_default : goal.returns-in_default
returns-in_default c = not_ended c.args.self c.in_default.not-Nothing
