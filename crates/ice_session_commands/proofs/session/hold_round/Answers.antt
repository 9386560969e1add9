use Rattle.std.proofs.Common.{refl}
use Rattle.ice_session_commands.proofs.session.hold_round.Goals as goal

pub returns-in-Ok-clause-next : goal.returns-in-Ok-clause-next
returns-in-Ok-clause-next g c = (c.judge.new.round, c.end.ensures, c.in-Ok.ensures)

pub returns-in-Err-Failed-clause-ended : goal.returns-in-Err-Failed-clause-ended
returns-in-Err-Failed-clause-ended g c = (refl, (c.judge.new.round, c.in-Err-Failed.field-0, c.in-Err-Failed.ensures))
