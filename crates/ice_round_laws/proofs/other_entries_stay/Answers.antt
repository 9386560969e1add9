use Rattle.ice_round_laws.proofs.Single.{other_entries_stay}
use Rattle.ice_round_laws.proofs.other_entries_stay.Goals as goal

pub returns : goal.returns
returns c = other_entries_stay
