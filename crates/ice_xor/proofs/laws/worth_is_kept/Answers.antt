use Rattle.ice_xor.proofs.Worth.{worth_kept}
use Rattle.ice_xor.proofs.laws.worth_is_kept.Goals as goal

pub returns : goal.returns
returns c = worth_kept
