use Rattle.std.proofs.Common.{◌∷◌, ◌++◌, [], List}
use Rattle.std.proofs.lemmas.Result.{err_from_is_err_and}
use Rattle.ice_journal.specs.Records.{Record}
use Rattle.ice_journal.specs.Records as line
use Rattle.ice_write_session.specs.Records.{final_records, rival_records, regret_records}
use Rattle.ice_write_session.proofs.Regrouped.{settlement_parts}
use Rattle.ice_write_session.proofs.Puts.{fails_first, fails_then, takes_then, put_last, put_failed, put_in_words}
use Rattle.ice_write_session.proofs.regret.put_settlement.Goals as goal

pub returns-in_err-put_settle : goal.returns-in_err-put_settle
returns-in_err-put_settle g c =
    let ex = c.args.exchange.now in
    let r = c.args.regret.now in
    let first : List Record = line.settle c.args.number ∷ [] in
    let second : List Record = final_records ex c.args.best.now in
    let third : List Record = rival_records ex r ++ (line.regret r.amount ∷ []) in
    let p = err_from_is_err_and c.from_residual.result c.from_residual.ensures.1 in
    put_in_words (line.settle c.args.number ∷ regret_records ex c.args.best.now r) ((first ++ second) ++ third) c.from_residual.result (g.K.Sink.taken c.args.out.now) (g.K.Sink.taken c.put_settle.new.out) (settlement_parts ex c.args.number c.args.best.now r) (put_failed ((first ++ second) ++ third) c.from_residual.result p.0 p.1 (fails_first (first ++ second) third (fails_first first second c.in_err-put_settle.ensures)))

pub returns-in_err-put_final : goal.returns-in_err-put_final
returns-in_err-put_final g c =
    let ex = c.args.exchange.now in
    let r = c.args.regret.now in
    let first : List Record = line.settle c.args.number ∷ [] in
    let second : List Record = final_records ex c.args.best.now in
    let third : List Record = rival_records ex r ++ (line.regret r.amount ∷ []) in
    let p = err_from_is_err_and c.from_residual-in_err-put_final.result c.from_residual-in_err-put_final.ensures.1 in
    put_in_words (line.settle c.args.number ∷ regret_records ex c.args.best.now r) ((first ++ second) ++ third) c.from_residual-in_err-put_final.result (g.K.Sink.taken c.args.out.now) (g.K.Sink.taken c.put_final.new.out) (settlement_parts ex c.args.number c.args.best.now r) (put_failed ((first ++ second) ++ third) c.from_residual-in_err-put_final.result p.0 p.1 (fails_first (first ++ second) third (fails_then first second c.in_ok-put_settle.ensures c.in_err-put_final.ensures)))

pub returns : goal.returns
returns g c =
    let ex = c.args.exchange.now in
    let r = c.args.regret.now in
    let first : List Record = line.settle c.args.number ∷ [] in
    let second : List Record = final_records ex c.args.best.now in
    let third : List Record = rival_records ex r ++ (line.regret r.amount ∷ []) in
    put_in_words (line.settle c.args.number ∷ regret_records ex c.args.best.now r) ((first ++ second) ++ third) c.put_regret.result (g.K.Sink.taken c.args.out.now) (g.K.Sink.taken c.put_regret.new.out) (settlement_parts ex c.args.number c.args.best.now r) (put_last (first ++ second) third c.put_regret.result (g.K.Sink.taken c.put_regret.new.out) (takes_then first second c.in_ok-put_settle.ensures c.in_ok-put_final.ensures) c.put_regret.ensures)
