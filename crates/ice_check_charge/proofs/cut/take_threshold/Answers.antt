use Rattle.ice_journal.specs.Lines.{record_of}
use Rattle.ice_check_charge.proofs.Taken.{cut_missing}
use Rattle.ice_check_charge.proofs.cut.take_threshold.Goals as goal

pub returns-in-None : goal.returns-in-None
returns-in-None c = cut_missing c.args.withouts.now c.args.total (record_of c.args.line.now) c.in-None.ensures
