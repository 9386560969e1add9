use Rattle.ice_cli.proofs.RunCompleting.{run_completes}
use Rattle.ice_cli.proofs.laws.run_completes.Goals as goal

pub returns : goal.returns
returns c = run_completes
