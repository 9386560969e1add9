use Rattle.ice_last.proofs.Deciding.{one_last_answer}
use Rattle.ice_last.proofs.laws.bytes_have_one_last.Goals as goal

pub returns : goal.returns
returns c = one_last_answer
