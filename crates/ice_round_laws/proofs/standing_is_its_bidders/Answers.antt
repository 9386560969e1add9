use Rattle.ice_round_laws.proofs.Naming.{standing_is}
use Rattle.ice_round_laws.proofs.standing_is_its_bidders.Goals as goal

pub returns : goal.returns
returns c = standing_is
