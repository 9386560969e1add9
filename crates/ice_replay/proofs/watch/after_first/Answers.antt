use Rattle.std.proofs.Common.{sym}
use Rattle.ice_journal.specs.Lines.{record_of}
use Rattle.ice_replay.proofs.Following.{session_begins, other_begins}
use Rattle.ice_replay.proofs.watch.after_first.Goals as goal

pub returns-then-is_session_head : goal.returns-then-is_session_head
returns-then-is_session_head c = λ number k. session_begins number k (record_of c.args.line.now) (sym c.if-is_session_head.ensures)

pub returns-else-is_session_head : goal.returns-else-is_session_head
returns-else-is_session_head c = λ number k. other_begins number k (record_of c.args.line.now) (sym c.if-is_session_head.ensures)
