use Rattle.std.proofs.Common.{◌∷◌, ◌++◌, [], List}
use Rattle.std.proofs.lemmas.Result.{err_from_is_err_and}
use Rattle.ice_journal.specs.Records.{Record}
use Rattle.ice_journal.specs.Records as line
use Rattle.ice_write_session.specs.Records.{rival_records}
use Rattle.ice_write_session.proofs.Puts.{fails_first, put_last, put_failed}
use Rattle.ice_write_session.proofs.regret.put_regret.Goals as goal

pub returns-in_err-put_rival : goal.returns-in_err-put_rival
returns-in_err-put_rival g c =
    let ex = c.args.exchange.now in
    let first : List Record = rival_records ex c.args.regret.now in
    let second : List Record = line.regret c.args.regret.now.amount ∷ [] in
    let p = err_from_is_err_and c.from_residual.result c.from_residual.ensures.1 in
    put_failed (first ++ second) c.from_residual.result p.0 p.1 (fails_first first second c.in_err-put_rival.ensures)

pub returns : goal.returns
returns g c =
    let ex = c.args.exchange.now in
    let first : List Record = rival_records ex c.args.regret.now in
    let second : List Record = line.regret c.args.regret.now.amount ∷ [] in
    put_last first second c.put_amount.result (g.K.Sink.taken c.put_amount.new.out) c.in_ok-put_rival.ensures c.put_amount.ensures
