use Rattle.std.proofs.Common.{◌∷◌, ◌++◌, [], List}
use Rattle.std.proofs.lemmas.Result.{err_from_is_err_and}
use Rattle.ice_journal.specs.Records.{Record}
use Rattle.ice_journal.specs.Records as line
use Rattle.ice_write_session.specs.Records.{found_final, found_regret, found_provisional, without_records}
use Rattle.ice_write_session.proofs.Puts.{fails_first, fails_then, takes_then, put_last, put_failed, takes_of, fails_of}
use Rattle.ice_write_session.proofs.halt.put_halt.Goals as goal

pub returns-in_err-put_settle : goal.returns-in_err-put_settle
returns-in_err-put_settle g c =
    let h = c.args.halt.now in
    let first : List Record = line.settle h.number ∷ [] in
    let second : List Record = found_final h.exchange h.best in
    let third : List Record = found_regret h.exchange h.regret in
    let fourth : List Record = without_records h.exchange h.marginals.items in
    let fifth : List Record = found_provisional h.exchange h.provisional in
    let p = err_from_is_err_and c.from_residual.result c.from_residual.ensures.1 in
    put_failed ((((first ++ second) ++ third) ++ fourth) ++ fifth) c.from_residual.result p.0 p.1 (fails_first (((first ++ second) ++ third) ++ fourth) fifth (fails_first ((first ++ second) ++ third) fourth (fails_first (first ++ second) third (fails_first first second c.in_err-put_settle.ensures))))

pub returns-in_err-put_found_final : goal.returns-in_err-put_found_final
returns-in_err-put_found_final g c =
    let h = c.args.halt.now in
    let first : List Record = line.settle h.number ∷ [] in
    let second : List Record = found_final h.exchange h.best in
    let third : List Record = found_regret h.exchange h.regret in
    let fourth : List Record = without_records h.exchange h.marginals.items in
    let fifth : List Record = found_provisional h.exchange h.provisional in
    let p = err_from_is_err_and c.from_residual-in_err-put_found_final.result c.from_residual-in_err-put_found_final.ensures.1 in
    put_failed ((((first ++ second) ++ third) ++ fourth) ++ fifth) c.from_residual-in_err-put_found_final.result p.0 p.1 (fails_first (((first ++ second) ++ third) ++ fourth) fifth (fails_first ((first ++ second) ++ third) fourth (fails_first (first ++ second) third (fails_then first second c.in_ok-put_settle.ensures c.in_err-put_found_final.ensures))))

pub returns-in_err-put_found_regret : goal.returns-in_err-put_found_regret
returns-in_err-put_found_regret g c =
    let h = c.args.halt.now in
    let first : List Record = line.settle h.number ∷ [] in
    let second : List Record = found_final h.exchange h.best in
    let third : List Record = found_regret h.exchange h.regret in
    let fourth : List Record = without_records h.exchange h.marginals.items in
    let fifth : List Record = found_provisional h.exchange h.provisional in
    let p = err_from_is_err_and c.from_residual-in_err-put_found_regret.result c.from_residual-in_err-put_found_regret.ensures.1 in
    put_failed ((((first ++ second) ++ third) ++ fourth) ++ fifth) c.from_residual-in_err-put_found_regret.result p.0 p.1 (fails_first (((first ++ second) ++ third) ++ fourth) fifth (fails_first ((first ++ second) ++ third) fourth (fails_then (first ++ second) third (takes_then first second c.in_ok-put_settle.ensures c.in_ok-put_found_final.ensures) c.in_err-put_found_regret.ensures)))

pub returns-in_err-put_withouts : goal.returns-in_err-put_withouts
returns-in_err-put_withouts g c =
    let h = c.args.halt.now in
    let first : List Record = line.settle h.number ∷ [] in
    let second : List Record = found_final h.exchange h.best in
    let third : List Record = found_regret h.exchange h.regret in
    let fourth : List Record = without_records h.exchange h.marginals.items in
    let fifth : List Record = found_provisional h.exchange h.provisional in
    let p = err_from_is_err_and c.from_residual-in_err-put_withouts.result c.from_residual-in_err-put_withouts.ensures.1 in
    put_failed ((((first ++ second) ++ third) ++ fourth) ++ fifth) c.from_residual-in_err-put_withouts.result p.0 p.1 (fails_first (((first ++ second) ++ third) ++ fourth) fifth (fails_then ((first ++ second) ++ third) fourth (takes_then (first ++ second) third (takes_then first second c.in_ok-put_settle.ensures c.in_ok-put_found_final.ensures) c.in_ok-put_found_regret.ensures) (fails_of (without_records h.exchange) c.deref.result.now h.marginals.items c.deref.ensures.value c.in_err-put_withouts.ensures)))

pub returns : goal.returns
returns g c =
    let h = c.args.halt.now in
    let first : List Record = line.settle h.number ∷ [] in
    let second : List Record = found_final h.exchange h.best in
    let third : List Record = found_regret h.exchange h.regret in
    let fourth : List Record = without_records h.exchange h.marginals.items in
    let fifth : List Record = found_provisional h.exchange h.provisional in
    put_last (((first ++ second) ++ third) ++ fourth) fifth c.put_found_provisional.result (g.K.Sink.taken c.put_found_provisional.new.out) (takes_then ((first ++ second) ++ third) fourth (takes_then (first ++ second) third (takes_then first second c.in_ok-put_settle.ensures c.in_ok-put_found_final.ensures) c.in_ok-put_found_regret.ensures) (takes_of (without_records h.exchange) c.deref.result.now h.marginals.items c.deref.ensures.value c.in_ok-put_withouts.ensures)) c.put_found_provisional.ensures
