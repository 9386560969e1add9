use Rattle.std.proofs.Common.{◌++◌}
use Rattle.std.proofs.lemmas.Result.{err_from_is_err_and}
use Rattle.ice_write_session.specs.Records.{halt_records, limit_records}
use Rattle.ice_write_session.proofs.Puts.{fails_first, put_last, put_failed}
use Rattle.ice_session_commands.proofs.session_journal.put_limited.Goals as goal

pub returns-in_err-put_halt : goal.returns-in_err-put_halt
returns-in_err-put_halt g c =
    let halt = halt_records c.args.halt.now in
    let limit = limit_records c.args.limit.now in
    let p = err_from_is_err_and c.from_residual.result c.from_residual.ensures.1 in
    put_failed (halt ++ limit) c.from_residual.result p.0 p.1 (fails_first halt limit c.in_err-put_halt.ensures)

pub returns : goal.returns
returns g c =
    put_last (halt_records c.args.halt.now) (limit_records c.args.limit.now) c.put_limit.result (g.K.Sink.taken c.put_limit.new.out) c.in_ok-put_halt.ensures c.put_limit.ensures
