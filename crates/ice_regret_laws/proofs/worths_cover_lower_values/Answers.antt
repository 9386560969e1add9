use Rattle.ice_regret_laws.proofs.Worths.{worth_covers_lower}
use Rattle.ice_regret_laws.proofs.worths_cover_lower_values.Goals as goal

pub returns : goal.returns
returns c = worth_covers_lower
