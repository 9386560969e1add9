use Rattle.ice_cli.proofs.GapCompleting.{spent_has_gap}
use Rattle.ice_cli.proofs.laws.spent_has_gap.Goals as goal

pub returns : goal.returns
returns c = spent_has_gap
