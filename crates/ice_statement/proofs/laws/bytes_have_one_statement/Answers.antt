use Rattle.ice_statement.proofs.Deciding.{one_statement_answer}
use Rattle.ice_statement.proofs.laws.bytes_have_one_statement.Goals as goal

pub returns : goal.returns
returns c = one_statement_answer
