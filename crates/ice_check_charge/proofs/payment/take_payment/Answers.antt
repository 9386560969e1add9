use Rattle.ice_journal.specs.Lines.{record_of}
use Rattle.ice_check_charge.proofs.Taken.{missing}
use Rattle.ice_check_charge.proofs.payment.take_payment.Goals as goal

pub returns-in-None : goal.returns-in-None
returns-in-None c = missing c.args.charge.now.cut c.args.due.now (record_of c.args.line.now) c.in-None.ensures
