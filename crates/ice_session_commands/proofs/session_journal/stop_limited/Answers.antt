use Rattle.ice_edge.specs.declared.status.Status.TheVariants.{Limit}
use Rattle.ice_journal.specs.Journal.{bytes_of}
use Rattle.ice_write_session.specs.Records.{limit_records}
use Rattle.ice_command_parts.proofs.Writing.{put_said}
use Rattle.ice_session_commands.proofs.session_journal.stop_limited.Goals as goal

pub returns : goal.returns
returns g c =
    put_said c.put_limit.result (bytes_of (limit_records c.args.limit.now)) Limit c.ended.result (g.K.Sink.taken c.args.out.now) (g.K.Sink.taken c.put_limit.new.out) c.put_limit.ensures c.ended.ensures
