use Rattle.std.proofs.Common.{◌++◌}
use Rattle.std.proofs.lemmas.Result.{err_from_is_err_and}
use Rattle.ice_write_session.specs.Records.{halt_records, spent_records}
use Rattle.ice_write_session.proofs.Puts.{fails_first, put_last, put_failed}
use Rattle.ice_session_commands.proofs.session_journal.put_halted.Goals as goal

pub returns-in_err-put_halt : goal.returns-in_err-put_halt
returns-in_err-put_halt g c =
    let halt = halt_records c.args.halt.now in
    let spent = spent_records c.args.halt.now.exchange c.args.spent.now in
    let p = err_from_is_err_and c.from_residual.result c.from_residual.ensures.1 in
    record {
      put = put_failed (halt ++ spent) c.from_residual.result p.0 p.1 (fails_first halt spent c.in_err-put_halt.ensures);
      record_is = (c.requires.spent.value, c.bound_of-bound.ensures.fits);
    }

pub returns : goal.returns
returns g c = record {
  put = put_last (halt_records c.args.halt.now) (spent_records c.args.halt.now.exchange c.args.spent.now) c.put_spent.result (g.K.Sink.taken c.put_spent.new.out) c.in_ok-put_halt.ensures c.put_spent.ensures.put;
  record_is = c.put_spent.ensures.«record»;
}
