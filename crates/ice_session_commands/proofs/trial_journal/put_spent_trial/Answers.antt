use Rattle.std.proofs.Common.{◌++◌}
use Rattle.std.proofs.lemmas.Result.{err_from_is_err_and}
use Rattle.ice_write_session.specs.Records.{halt_records, spent_records}
use Rattle.ice_write_session.proofs.Puts.{fails_first, put_last, put_failed}
use Rattle.ice_session_commands.specs.GenJournal.{trial_records}
use Rattle.ice_session_commands.proofs.trial_journal.put_spent_trial.Goals as goal

pub returns-in_err-put_trial : goal.returns-in_err-put_trial
returns-in_err-put_trial g c =
    let ex = c.args.halt.now.exchange in
    let trial = trial_records ex c.args.first.now in
    let stop = halt_records c.args.halt.now ++ spent_records ex c.args.spent.now in
    let p = err_from_is_err_and c.from_residual.result c.from_residual.ensures.1 in
    record {
      put = put_failed (trial ++ stop) c.from_residual.result p.0 p.1 (fails_first trial stop c.in_err-put_trial.ensures);
      record_is = (c.requires.spent.value, c.bound_of-bound.ensures.fits);
    }

pub returns : goal.returns
returns g c =
    let ex = c.args.halt.now.exchange in
    record {
      put = put_last (trial_records ex c.args.first.now) (halt_records c.args.halt.now ++ spent_records ex c.args.spent.now) c.put_halted.result (g.K.Sink.taken c.put_halted.new.out) c.in_ok-put_trial.ensures c.put_halted.ensures.put;
      record_is = c.put_halted.ensures.record_is;
    }
