use Rattle.ice_journal.specs.Lines.{record_of}
use Rattle.ice_replay.proofs.Following.{none_due, no_amount}
use Rattle.ice_replay.proofs.watch.after_other.Goals as goal

pub returns-in_default : goal.returns-in_default
returns-in_default c = no_amount c.args.number c.args.checker.now (record_of c.args.line.now) c.in_default.ensures

pub returns-in-None : goal.returns-in-None
returns-in-None c = none_due c.args.number c.args.checker.now (record_of c.args.line.now) c.in-None.ensures.tells
