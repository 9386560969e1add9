use Rattle.ice_session_laws.proofs.BranchRegrets.{spent_regret_has_few}
use Rattle.ice_session_laws.proofs.branches.spent_regret_has_few.Goals as goal

pub returns : goal.returns
returns c = spent_regret_has_few
