use Rattle.ice_round_laws.proofs.Naming.{names_stay}
use Rattle.ice_round_laws.proofs.names_stay.Goals as goal

pub returns : goal.returns
returns c = names_stay
