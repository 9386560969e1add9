use Rattle.ice_row_laws.proofs.Sizes.{sums_are_within}
use Rattle.ice_row_laws.proofs.sums_are_within.Goals as goal

pub returns : goal.returns
returns c = sums_are_within
