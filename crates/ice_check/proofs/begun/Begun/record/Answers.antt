use Rattle.ice_check.proofs.Standing.{long_is_none}
use Rattle.ice_check.proofs.begun.Begun.record.Goals as goal

pub returns-then-self-clause-read : goal.returns-then-self-clause-read
returns-then-self-clause-read c = λ text is. long_is_none c.args.self.now text c.if-self.true is
