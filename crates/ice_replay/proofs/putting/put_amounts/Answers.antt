use Rattle.std.proofs.Common.{refl}
use Rattle.std.proofs.lemmas.Result.{err_from_is_err_and}
use Rattle.ice_journal.specs.Records as line
use Rattle.ice_journal.specs.Spelling.{line_of}
use Rattle.ice_write.proofs.Loops.{fails_as, first_fails, then_put}
use Rattle.ice_replay.specs.Lines.{amount_lines}
use Rattle.ice_replay.proofs.putting.put_amounts.Goals as goal

pub returns-in_err-put_final : goal.returns-in_err-put_final
returns-in_err-put_final g c =
    let x = c.args.replay.now in
    let p = err_from_is_err_and c.from_residual.result c.from_residual.ensures.1 in
    fails_as (amount_lines x) (amount_lines x) c.from_residual.result p.0 p.1 refl (first_fails (line_of (line.final x.final_value)) (line_of (line.regret x.regret)) c.in_err-put_final.ensures)

pub returns : goal.returns
returns g c =
    let x = c.args.replay.now in
    then_put (line_of (line.final x.final_value)) (line_of (line.regret x.regret)) c.put_regret.result (g.K.Sink.taken c.put_regret.new.out) c.in_ok-put_final.ensures c.put_regret.ensures
