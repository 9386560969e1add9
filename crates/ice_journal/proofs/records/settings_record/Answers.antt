use Rattle.ice_journal.proofs.RecordParts.{none_after, settings_row}
use Rattle.ice_journal.proofs.records.settings_record.Goals as goal

pub returns-in_err-settings : goal.returns-in_err-settings
returns-in_err-settings c = rw c.from_residual.ensures (none_after settings_row c.args.fields c.in_err-settings.ensures)
