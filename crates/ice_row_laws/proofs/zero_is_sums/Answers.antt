use Rattle.ice_row_laws.proofs.Sums.{zero_is_sums}
use Rattle.ice_row_laws.proofs.zero_is_sums.Goals as goal

pub returns : goal.returns
returns c = zero_is_sums
