use Rattle.ice_journal.proofs.Packed.{plain_packed}
use Rattle.ice_journal.proofs.laws.packed_journals_come_back.Goals as goal

pub returns : goal.returns
returns c = plain_packed
