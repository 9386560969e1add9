use Rattle.ice_row_laws.proofs.Accurate.{tests_give_accurate}
use Rattle.ice_row_laws.proofs.tests_give_accurate.Goals as goal

pub returns : goal.returns
returns c = tests_give_accurate
