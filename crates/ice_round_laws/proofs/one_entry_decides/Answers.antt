use Rattle.ice_round_laws.proofs.Single.{one_entry_decides}
use Rattle.ice_round_laws.proofs.one_entry_decides.Goals as goal

pub returns : goal.returns
returns c = one_entry_decides
