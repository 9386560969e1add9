use Rattle.ice_tolled_log.proofs.Tolled.{tolled_is_part}
use Rattle.ice_tolled_log.proofs.laws.tolled_are_parts.Goals as goal

pub returns : goal.returns
returns c = tolled_is_part
