use Rattle.std.specs.List.{flat_map}
use Rattle.std.proofs.Common.{refl}
use Rattle.std.proofs.lemmas.Result.{err_from_is_err_and}
use Rattle.ice_write.proofs.Loops.{fails_as, first_fails, then_put}
use Rattle.ice_commands.specs.Output.{best_end}
use Rattle.ice_commands.specs.Bests.{lines_of, best_text}
use Rattle.ice_commands.proofs.best_lines.put_best.Goals as goal

pub returns-in_err-put_sets : goal.returns-in_err-put_sets
returns-in_err-put_sets g c =
    let sets = c.args.sets.now in
    let p = err_from_is_err_and c.from_residual.result c.from_residual.ensures.1 in
    fails_as (best_text sets) (best_text sets) c.from_residual.result p.0 p.1 refl (first_fails (flat_map lines_of sets) best_end c.in_err-put_sets.ensures)

pub returns : goal.returns
returns g c =
    then_put (flat_map lines_of c.args.sets.now) best_end c.put.result (g.K.Sink.taken c.put.new.self) c.in_ok-put_sets.ensures c.put.ensures
