use Rattle.ice_replay.proofs.Deciding.{one_replay_answer}
use Rattle.ice_replay.proofs.laws.bytes_have_one_replay.Goals as goal

pub returns : goal.returns
returns c = one_replay_answer
