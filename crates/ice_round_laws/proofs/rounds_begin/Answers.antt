use Rattle.ice_round_laws.proofs.Taking.{rounds_begin}
use Rattle.ice_round_laws.proofs.rounds_begin.Goals as goal

pub returns : goal.returns
returns c = rounds_begin
