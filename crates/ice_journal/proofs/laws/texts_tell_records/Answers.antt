use Rattle.ice_journal.proofs.OneSpelling.{one_spelling}
use Rattle.ice_journal.proofs.laws.texts_tell_records.Goals as goal

pub returns : goal.returns
returns c = one_spelling
