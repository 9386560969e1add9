use Rattle.ice_round_laws.proofs.Others.{own_submissions_tell}
use Rattle.ice_round_laws.proofs.own_submissions_tell.Goals as goal

pub returns : goal.returns
returns c = own_submissions_tell
