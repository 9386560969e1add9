use Rattle.ice_journal_laws.proofs.CarriedLaws.{front_is_so_far}
use Rattle.ice_journal_laws.proofs.front_is_so_far.Goals as goal

pub returns : goal.returns
returns c = front_is_so_far
