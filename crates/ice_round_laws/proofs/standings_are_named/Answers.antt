use Rattle.ice_round_laws.proofs.Naming.{standings_are_named}
use Rattle.ice_round_laws.proofs.standings_are_named.Goals as goal

pub returns : goal.returns
returns c = standings_are_named
