use Rattle.std.proofs.Common.{rules}
use Rattle.ice_gen.specs.Generated.{draws}
use Rattle.ice_gen.specs.Drawing.{state_after}
use Rattle.ice_gen.proofs.seller.sale_value.Goals as goal

pub returns-clause-value : goal.returns-clause-value
unfolding draws
returns-clause-value c = search rules

pub returns-clause-state : goal.returns-clause-state
unfolding state_after
returns-clause-state c = search rules
