use Rattle.ice_program_laws.proofs.Skips.{products_commute}
use Rattle.ice_program_laws.proofs.laws.products_commute.Goals as goal

pub returns : goal.returns
returns c = products_commute
