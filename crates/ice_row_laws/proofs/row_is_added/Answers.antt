use Rattle.ice_row_laws.proofs.Sums.{row_is_added}
use Rattle.ice_row_laws.proofs.row_is_added.Goals as goal

pub returns : goal.returns
returns c = row_is_added
