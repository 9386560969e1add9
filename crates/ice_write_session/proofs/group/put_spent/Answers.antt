use Rattle.std.proofs.Common.{◌∷◌, ◌++◌, [], List}
use Rattle.std.proofs.lemmas.Result.{err_from_is_err_and}
use Rattle.ice_journal.specs.Records.{Record}
use Rattle.ice_journal.specs.Records as line
use Rattle.ice_journal.specs.Records.{spent_end}
use Rattle.ice_write_session.specs.Records.{spent_group}
use Rattle.ice_write_session.proofs.Puts.{fails_first, put_last, put_failed}
use Rattle.ice_write_session.proofs.group.put_spent.Goals as goal

pub returns-in_err-put_spent_group-clause-put : goal.returns-in_err-put_spent_group-clause-put
returns-in_err-put_spent_group-clause-put g c =
    let ex = c.args.exchange.now in
    let first : List Record = spent_group ex c.args.spent.now in
    let second : List Record = line.end spent_end ∷ [] in
    let p = err_from_is_err_and c.from_residual.result c.from_residual.ensures.1 in
    put_failed (first ++ second) c.from_residual.result p.0 p.1 (fails_first first second c.in_err-put_spent_group.ensures.put)

pub returns-clause-put : goal.returns-clause-put
returns-clause-put g c =
    let ex = c.args.exchange.now in
    let first : List Record = spent_group ex c.args.spent.now in
    let second : List Record = line.end spent_end ∷ [] in
    put_last first second c.put_end.result (g.K.Sink.taken c.put_end.new.out) c.in_ok-put_spent_group.ensures.put c.put_end.ensures
