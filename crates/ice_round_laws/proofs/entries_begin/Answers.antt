use Rattle.ice_round_laws.proofs.Entering.{entries_begin}
use Rattle.ice_round_laws.proofs.entries_begin.Goals as goal

pub returns : goal.returns
returns c = entries_begin
