use Rattle.ice_frac.proofs.FieldLaws.{lowest_is_unique}
use Rattle.ice_frac.proofs.laws.lowest_is_unique.Goals as goal

pub returns : goal.returns
returns c = lowest_is_unique
