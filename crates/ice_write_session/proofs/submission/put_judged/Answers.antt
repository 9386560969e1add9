use Rattle.std.proofs.Common.{◌∷◌, ◌++◌, [], List}
use Rattle.std.proofs.lemmas.Result.{err_from_is_err_and}
use Rattle.ice_journal.specs.Records.{Record}
use Rattle.ice_journal.specs.Records as line
use Rattle.ice_write_session.proofs.Puts.{fails_first, put_last, put_failed}
use Rattle.ice_write_session.proofs.submission.put_judged.Goals as goal

pub returns-in_err-put_bid-clause-put : goal.returns-in_err-put_bid-clause-put
returns-in_err-put_bid-clause-put g c =
    let first : List Record = line.submit c.args.bid.now ∷ [] in
    let second : List Record = line.verdict c.args.verdict ∷ [] in
    let p = err_from_is_err_and c.from_residual.result c.from_residual.ensures.1 in
    put_failed (first ++ second) c.from_residual.result p.0 p.1 (fails_first first second c.in_err-put_bid.ensures.put)

pub returns-clause-put : goal.returns-clause-put
returns-clause-put g c =
    let first : List Record = line.submit c.args.bid.now ∷ [] in
    let second : List Record = line.verdict c.args.verdict ∷ [] in
    put_last first second c.put_line.result (g.K.Sink.taken c.put_line.new.out) c.in_ok-put_bid.ensures.put c.put_line.ensures
