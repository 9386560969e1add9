use Rattle.ice_journal.proofs.OneSpelling.{text_found}
use Rattle.ice_journal.proofs.record.read_record.Goals as goal

pub returns : goal.returns
returns c = text_found c.args.text.now _ (rw (← c.new.ensures) c.record.ensures)
