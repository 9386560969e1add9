use Rattle.ice_edge.specs.declared.status.Status.TheVariants.{Spent}
use Rattle.ice_journal.specs.Journal.{bytes_of}
use Rattle.ice_write_session.specs.Records.{spent_records}
use Rattle.ice_command_parts.proofs.Writing.{put_said}
use Rattle.ice_session_commands.proofs.session_journal.stop_behind.Goals as goal

pub returns-clause-said : goal.returns-clause-said
returns-clause-said g c =
    put_said c.put_spent.result (bytes_of (spent_records c.args.exchange.now c.args.spent.now)) Spent c.ended.result (g.K.Sink.taken c.args.out.now) (g.K.Sink.taken c.put_spent.new.out) c.put_spent.ensures.put c.ended.ensures

pub returns-clause-record_is : goal.returns-clause-record_is
returns-clause-record_is g c = c.put_spent.ensures.«record»
