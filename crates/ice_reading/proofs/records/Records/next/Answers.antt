use Rattle.std.proofs.Common.{◌∙◌, sym}
use Rattle.ice_reading.proofs.First.{starts, reads_lawful}
use Rattle.ice_reading.proofs.records.Records.next.Goals as goal

pub returns-clause-next : goal.returns-clause-next
returns-clause-next c =
    starts c.args.self.now c.in_ok-text.text.now c.in_ok-text.after.now c.read_record.result (sym c.self.view_is ∙ c.in_ok-text.ensures.0) c.in_ok-text.ensures.1 c.read_record.ensures

pub returns-clause-lawful : goal.returns-clause-lawful
returns-clause-lawful c = reads_lawful c.in_ok-text.text.now c.read_record.result c.read_record.ensures
