use Rattle.std.proofs.Common.{◌∷◌, ◌++◌, List, map}
use Rattle.std.proofs.lemmas.Result.{err_from_is_err_and}
use Rattle.ice_journal.specs.Records.{Record}
use Rattle.ice_journal.specs.Records as line
use Rattle.ice_journal.proofs.Tested.{prices_are}
use Rattle.ice_journal_laws.specs.Written.{row_record}
use Rattle.ice_write_session.proofs.Puts.{fails_first, put_last, put_failed}
use Rattle.ice_write_session.proofs.pricing.put_pricing.Goals as goal

pub returns-in_err-put_accuracy-clause-put : goal.returns-in_err-put_accuracy-clause-put
returns-in_err-put_accuracy-clause-put g c =
    let q = c.args.pricing.now in
    let first : List Record = line.prices q.prices ∷ line.accuracy q.delta q.accuracy.den ∷ map row_record q.accuracy.rows in
    let second : List Record = line.balance q.balance.den ∷ map row_record q.balance.rows in
    let p = err_from_is_err_and c.from_residual.result c.from_residual.ensures.1 in
    put_failed (first ++ second) c.from_residual.result p.0 p.1 (fails_first first second c.in_err-put_accuracy.ensures)

pub returns-clause-put : goal.returns-clause-put
returns-clause-put g c =
    let q = c.args.pricing.now in
    let first : List Record = line.prices q.prices ∷ line.accuracy q.delta q.accuracy.den ∷ map row_record q.accuracy.rows in
    let second : List Record = line.balance q.balance.den ∷ map row_record q.balance.rows in
    put_last first second c.put_balance.result (g.K.Sink.taken c.put_balance.new.out) c.in_ok-put_accuracy.ensures c.put_balance.ensures

pub returns-in_err-put_accuracy-clause-prices : goal.returns-in_err-put_accuracy-clause-prices
returns-in_err-put_accuracy-clause-prices g c = prices_are c.args.pricing.now.prices c.den-den.ensures.limits

pub returns-clause-prices : goal.returns-clause-prices
returns-clause-prices g c = prices_are c.args.pricing.now.prices c.den-den.ensures.limits
