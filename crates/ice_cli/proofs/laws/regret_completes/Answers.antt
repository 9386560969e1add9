use Rattle.ice_cli.proofs.RegretCompleting.{regret_completes}
use Rattle.ice_cli.proofs.laws.regret_completes.Goals as goal

pub returns : goal.returns
returns c = regret_completes
