use Rattle.ice_fair_laws.proofs.Wholes.{greatest_gap_is_distance}
use Rattle.ice_fair_laws.proofs.greatest_gap_is_distance.Goals as goal

pub returns : goal.returns
returns c = greatest_gap_is_distance
