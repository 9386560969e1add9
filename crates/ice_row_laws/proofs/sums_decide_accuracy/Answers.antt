use Rattle.ice_row_laws.proofs.Sums.{sums_decide_accuracy}
use Rattle.ice_row_laws.proofs.sums_decide_accuracy.Goals as goal

pub returns : goal.returns
returns c = sums_decide_accuracy
