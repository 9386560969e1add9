use Rattle.ice_round_laws.proofs.Single.{accepted_is_taken}
use Rattle.ice_round_laws.proofs.accepted_is_taken.Goals as goal

pub returns : goal.returns
returns c = accepted_is_taken
