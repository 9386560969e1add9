use Rattle.ice_frac.proofs.FieldLaws.{equality_laws}
use Rattle.ice_frac.proofs.laws.equality_laws.Goals as goal

pub returns : goal.returns
returns c = equality_laws
