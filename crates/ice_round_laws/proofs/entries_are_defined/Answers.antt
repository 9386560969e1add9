use Rattle.ice_round_laws.proofs.Entering.{entries_are_defined}
use Rattle.ice_round_laws.proofs.entries_are_defined.Goals as goal

pub returns : goal.returns
returns c = entries_are_defined
