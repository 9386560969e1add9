use Rattle.ice_journal.proofs.Journals.{one_answer}
use Rattle.ice_journal.proofs.laws.bytes_tell_journals.Goals as goal

pub returns : goal.returns
returns c = one_answer
