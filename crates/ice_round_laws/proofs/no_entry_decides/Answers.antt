use Rattle.ice_round_laws.proofs.Single.{no_entry_decides}
use Rattle.ice_round_laws.proofs.no_entry_decides.Goals as goal

pub returns : goal.returns
returns c = no_entry_decides
