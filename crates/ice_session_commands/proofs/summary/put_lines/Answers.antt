use Rattle.std.proofs.Common.{◌<◌, length, refl, sym, arith}
use Rattle.std.specs.List.{flat_map}
use Rattle.std.proofs.lemmas.Result.{err_from_is_err_and}
use Rattle.ice_write.proofs.Loops.{fails_as, one_more, one_fails, all_put}
use Rattle.ice_session_commands.specs.GenLines.{summary_line}
use Rattle.ice_session_commands.proofs.summary.put_lines.Goals as goal

pub returns-in_err-put : goal.returns-in_err-put
returns-in_err-put g c =
    let xs = c.args.lines.now in
    let i = c.loop-line.line-index in
    let x = c.line-item.result in
    let there : i < length xs = omega arith in
    let p = err_from_is_err_and c.from_residual.result c.from_residual.ensures.1 in
    fails_as (flat_map summary_line xs) (flat_map summary_line xs) c.from_residual.result p.0 p.1 refl
    (one_fails summary_line xs i x there (sym c.line-item.is) (summary_line x) (flat_map summary_line xs) refl c.loop-line.invariant c.in_err-put.ensures)

pub loop-line-preserved : goal.loop-line-preserved
loop-line-preserved g c =
    let xs = c.args.lines.now in
    let i = c.loop-line.line-index in
    let x = c.line-item.result in
    let there : i < length xs = omega arith in
    one_more summary_line xs i x there (sym c.line-item.is) (summary_line x) (flat_map summary_line xs) refl c.loop-line.invariant c.in_ok-put.ensures

pub returns : goal.returns
returns g c =
    let xs = c.args.lines.now in
    all_put summary_line xs c.loop-line.line-index (flat_map summary_line xs) (omega arith) c.loop-line.invariant
