use Rattle.ice_program_laws.proofs.Skips.{zero_row_stays}
use Rattle.ice_program_laws.proofs.laws.zero_row_stays.Goals as goal

pub returns : goal.returns
returns c = zero_row_stays
