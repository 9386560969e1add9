use Rattle.ice_statement_laws.proofs.Gathered.{lines_are_one}
use Rattle.ice_statement_laws.proofs.lines_are_one.Goals as goal

pub returns : goal.returns
returns c = lines_are_one
