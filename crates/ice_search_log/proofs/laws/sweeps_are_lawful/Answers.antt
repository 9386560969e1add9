use Rattle.ice_search_log.proofs.Swept.{sweep_is_lawful}
use Rattle.ice_search_log.proofs.laws.sweeps_are_lawful.Goals as goal

pub returns : goal.returns
returns c = sweep_is_lawful
