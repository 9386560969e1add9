use Rattle.std.proofs.Common.{◌∷◌, ◌++◌, [], List, map}
use Rattle.std.proofs.lemmas.Result.{err_from_is_err_and}
use Rattle.ice_journal.specs.Records.{Record}
use Rattle.ice_journal.specs.Records as line
use Rattle.ice_journal_laws.specs.Written.{row_record}
use Rattle.ice_write_session.proofs.Puts.{fails_first, put_last, put_failed}
use Rattle.ice_write_session.proofs.pricing.put_balance.Goals as goal

pub returns-in_err-put_balance_den : goal.returns-in_err-put_balance_den
returns-in_err-put_balance_den g c =
    let q = c.args.balance.now in
    let first : List Record = line.balance q.den ∷ [] in
    let second : List Record = map row_record q.rows in
    let p = err_from_is_err_and c.from_residual.result c.from_residual.ensures.1 in
    put_failed (first ++ second) c.from_residual.result p.0 p.1 (fails_first first second c.in_err-put_balance_den.ensures)

pub returns : goal.returns
returns g c =
    let q = c.args.balance.now in
    let first : List Record = line.balance q.den ∷ [] in
    let second : List Record = map row_record q.rows in
    put_last first second c.put_rows.result (g.K.Sink.taken c.put_rows.new.out) c.in_ok-put_balance_den.ensures c.put_rows.ensures
