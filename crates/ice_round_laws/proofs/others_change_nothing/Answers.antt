use Rattle.ice_round_laws.proofs.Single.{others_change_nothing}
use Rattle.ice_round_laws.proofs.others_change_nothing.Goals as goal

pub returns : goal.returns
returns c = others_change_nothing
