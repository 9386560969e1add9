use Rattle.std.proofs.Common.{◌<◌, length, refl, sym, arith}
use Rattle.std.specs.List.{flat_map}
use Rattle.std.proofs.lemmas.Result.{err_from_is_err_and}
use Rattle.ice_write.proofs.Loops.{fails_as, one_more, one_fails, all_put}
use Rattle.ice_commands.specs.Bests.{lines_of}
use Rattle.ice_commands.proofs.best_lines.put_sets.Goals as goal

pub returns-in_err-put : goal.returns-in_err-put
returns-in_err-put g c =
    let xs = c.args.sets.now in
    let i = c.loop-best.best-index in
    let x = c.best-item.result in
    let there : i < length xs = omega arith in
    let p = err_from_is_err_and c.from_residual.result c.from_residual.ensures.1 in
    fails_as (flat_map lines_of xs) (flat_map lines_of xs) c.from_residual.result p.0 p.1 refl
    (one_fails lines_of xs i x there (sym c.best-item.is) (lines_of x) (flat_map lines_of xs) refl c.loop-best.invariant c.in_err-put.ensures)

pub loop-best-preserved : goal.loop-best-preserved
loop-best-preserved g c =
    let xs = c.args.sets.now in
    let i = c.loop-best.best-index in
    let x = c.best-item.result in
    let there : i < length xs = omega arith in
    one_more lines_of xs i x there (sym c.best-item.is) (lines_of x) (flat_map lines_of xs) refl c.loop-best.invariant c.in_ok-put.ensures

pub returns : goal.returns
returns g c =
    let xs = c.args.sets.now in
    all_put lines_of xs c.loop-best.best-index (flat_map lines_of xs) (omega arith) c.loop-best.invariant
