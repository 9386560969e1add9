use Rattle.ice_journal.specs.Lines.{record_of}
use Rattle.ice_write_session.proofs.Puts.{put_one}
use Rattle.ice_write_session.proofs.record.put_line.Goals as goal

pub returns : goal.returns
returns g c =
    put_one (record_of c.args.line.now) c.put_record.result (g.K.Sink.taken c.args.out.now) (g.K.Sink.taken c.put_record.new.out)
    c.put_record.ensures
