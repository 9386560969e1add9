use Rattle.ice_row_laws.proofs.Balanced.{tests_give_balanced}
use Rattle.ice_row_laws.proofs.tests_give_balanced.Goals as goal

pub returns : goal.returns
returns c = tests_give_balanced
