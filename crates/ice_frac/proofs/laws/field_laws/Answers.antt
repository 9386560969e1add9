use Rattle.ice_frac.proofs.FieldLaws.{field_laws}
use Rattle.ice_frac.proofs.laws.field_laws.Goals as goal

pub returns : goal.returns
returns c = field_laws
