use Rattle.std.proofs.Common.{◌∷◌, ◌++◌, [], List, map}
use Rattle.std.proofs.lemmas.Result.{err_from_is_err_and}
use Rattle.ice_journal.specs.Records.{Record}
use Rattle.ice_journal.specs.Records as line
use Rattle.ice_journal_laws.specs.Written.{row_record}
use Rattle.ice_write_session.proofs.Puts.{fails_first, fails_then, takes_then, put_last, put_failed}
use Rattle.ice_write_session.proofs.pricing.put_accuracy.Goals as goal

pub returns-in_err-put_prices : goal.returns-in_err-put_prices
returns-in_err-put_prices g c =
    let x = c.args.accuracy.now in
    let first : List Record = line.prices c.args.prices.now ∷ [] in
    let second : List Record = line.accuracy c.args.violation.now x.den ∷ [] in
    let third : List Record = map row_record x.rows in
    let p = err_from_is_err_and c.from_residual.result c.from_residual.ensures.1 in
    put_failed ((first ++ second) ++ third) c.from_residual.result p.0 p.1 (fails_first (first ++ second) third (fails_first first second c.in_err-put_prices.ensures))

pub returns-in_err-put_violation : goal.returns-in_err-put_violation
returns-in_err-put_violation g c =
    let x = c.args.accuracy.now in
    let first : List Record = line.prices c.args.prices.now ∷ [] in
    let second : List Record = line.accuracy c.args.violation.now x.den ∷ [] in
    let third : List Record = map row_record x.rows in
    let p = err_from_is_err_and c.from_residual-in_err-put_violation.result c.from_residual-in_err-put_violation.ensures.1 in
    put_failed ((first ++ second) ++ third) c.from_residual-in_err-put_violation.result p.0 p.1 (fails_first (first ++ second) third (fails_then first second c.in_ok-put_prices.ensures c.in_err-put_violation.ensures))

pub returns : goal.returns
returns g c =
    let x = c.args.accuracy.now in
    let first : List Record = line.prices c.args.prices.now ∷ [] in
    let second : List Record = line.accuracy c.args.violation.now x.den ∷ [] in
    let third : List Record = map row_record x.rows in
    put_last (first ++ second) third c.put_rows.result (g.K.Sink.taken c.put_rows.new.out) (takes_then first second c.in_ok-put_prices.ensures c.in_ok-put_violation.ensures) c.put_rows.ensures
