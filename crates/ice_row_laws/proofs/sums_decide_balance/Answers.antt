use Rattle.ice_row_laws.proofs.Sums.{sums_decide_balance}
use Rattle.ice_row_laws.proofs.sums_decide_balance.Goals as goal

pub returns : goal.returns
returns c = sums_decide_balance
