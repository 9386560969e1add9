use Rattle.ice_frac.proofs.FieldLaws.{order_laws}
use Rattle.ice_frac.proofs.laws.order_laws.Goals as goal

pub returns : goal.returns
returns c = order_laws
