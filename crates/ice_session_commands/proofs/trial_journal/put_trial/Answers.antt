use Rattle.std.proofs.Common.{◌++◌}
use Rattle.std.proofs.lemmas.Result.{err_from_is_err_and}
use Rattle.ice_write_session.proofs.Puts.{fails_first, put_last, put_failed}
use Rattle.ice_session_laws.specs.Written.{begun_records}
use Rattle.ice_session_commands.specs.GenJournal.{first_records}
use Rattle.ice_session_commands.proofs.trial_journal.put_trial.Goals as goal

pub returns-in_err-put_begin : goal.returns-in_err-put_begin
returns-in_err-put_begin g c =
    let begun = begun_records c.args.exchange.now in
    let first = first_records c.args.exchange.now c.args.first.now in
    let p = err_from_is_err_and c.from_residual.result c.from_residual.ensures.1 in
    put_failed (begun ++ first) c.from_residual.result p.0 p.1 (fails_first begun first c.in_err-put_begin.ensures)

pub returns : goal.returns
returns g c =
    put_last (begun_records c.args.exchange.now) (first_records c.args.exchange.now c.args.first.now) c.put_first.result (g.K.Sink.taken c.put_first.new.out)
    c.in_ok-put_begin.ensures c.put_first.ensures
