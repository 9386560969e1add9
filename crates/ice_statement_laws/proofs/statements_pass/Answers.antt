use Rattle.ice_statement_laws.proofs.Proved.{statements_pass}
use Rattle.ice_statement_laws.proofs.statements_pass.Goals as goal

pub returns : goal.returns
returns c = statements_pass
