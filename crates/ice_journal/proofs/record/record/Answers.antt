use Rattle.ice_journal.proofs.RecordParts.{no_word}
use Rattle.ice_journal.proofs.record.record.Goals as goal

pub returns-in_err-word : goal.returns-in_err-word
returns-in_err-word c = rw c.from_residual-in_err-word.ensures (no_word _ _ c.args.fields c.in_err-word.ensures c.in_ok-next.ensures)
