use Rattle.ice_pricing.proofs.Tallying.{none_tallied}
use Rattle.ice_pricing.proofs.tally.Tally.new.Goals as goal

pub returns : goal.returns
returns c = λ t few. none_tallied t c.new.result c.new.ensures few
