use Rattle.ice_audit.proofs.Paying.{end_taken}
use Rattle.ice_audit.proofs.settlements.Settlements.take_end.Goals as goal

pub returns-in-End : goal.returns-in-End
returns-in-End c = end_taken c.args.self.now c.requires.kept c.in-End.payment c.in-End.is
