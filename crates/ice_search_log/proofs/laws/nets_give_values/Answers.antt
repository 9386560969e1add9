use Rattle.ice_search_log.proofs.Swept.{nets_give_value}
use Rattle.ice_search_log.proofs.laws.nets_give_values.Goals as goal

pub returns : goal.returns
returns c = nets_give_value
