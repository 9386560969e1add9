use Rattle.std.proofs.Common.{◌<◌, refl, sym, length, map, arith}
use Rattle.std.specs.List.{flat_map}
use Rattle.std.proofs.lemmas.Result.{err_from_is_err_and}
use Rattle.ice_journal.specs.Journal.{bytes_of}
use Rattle.ice_journal_laws.specs.Written.{row_record}
use Rattle.ice_write.proofs.Loops.{fails_as, takes_as, one_more, one_fails, all_put, bytes_map, next_all}
use Rattle.ice_write_session.specs.Pieces.{row_text}
use Rattle.ice_write_session.specs.Writable.{IsWritableRow}
use Rattle.ice_write_session.proofs.pricing.put_each_row.Goals as goal

pub returns-in_err-put_row : goal.returns-in_err-put_row
returns-in_err-put_row g c =
    let rows = c.args.rows.now in
    let i = c.loop-row.row-index in
    let x = c.row-item.result in
    let there : i < length rows = omega arith in
    let p = err_from_is_err_and c.from_residual.result c.from_residual.ensures.1 in
    fails_as (bytes_of (map row_record rows)) (flat_map row_text rows) c.from_residual.result p.0 p.1 (bytes_map row_record rows)
    (one_fails row_text rows i x there (sym c.row-item.is) (row_text x) (flat_map row_text rows) refl c.loop-row.invariant.left c.in_err-put_row.ensures)

pub loop-row-preserved : goal.loop-row-preserved
loop-row-preserved g c =
    let rows = c.args.rows.now in
    let i = c.loop-row.row-index in
    let x = c.row-item.result in
    let there : i < length rows = omega arith in
    record {
      rows = (next_all IsWritableRow rows i x there c.loop-row.invariant.rows).1;
      left = one_more row_text rows i x there (sym c.row-item.is) (row_text x) (flat_map row_text rows) refl c.loop-row.invariant.left c.in_ok-put_row.ensures;
    }

pub returns : goal.returns
returns g c =
    let rows = c.args.rows.now in
    takes_as (bytes_of (map row_record rows)) (flat_map row_text rows) (bytes_map row_record rows)
    (all_put row_text rows c.loop-row.row-index (flat_map row_text rows) (omega arith) c.loop-row.invariant.left)
