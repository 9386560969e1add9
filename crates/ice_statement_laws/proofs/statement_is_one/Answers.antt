use Rattle.ice_statement_laws.proofs.Proved.{statement_is_one}
use Rattle.ice_statement_laws.proofs.statement_is_one.Goals as goal

pub returns : goal.returns
returns c = statement_is_one
