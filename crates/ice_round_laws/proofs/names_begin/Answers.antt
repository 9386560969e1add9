use Rattle.ice_round_laws.proofs.Naming.{names_begin}
use Rattle.ice_round_laws.proofs.names_begin.Goals as goal

pub returns : goal.returns
returns c = names_begin
