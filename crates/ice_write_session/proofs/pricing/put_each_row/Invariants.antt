use Rattle.std.proofs.Common.{drop}
use Rattle.std.specs.List.{AllByRecursion, flat_map}
use Rattle.ice_edge.specs.Puts.{TakesAllBut}
use Rattle.ice_write_session.specs.Pieces.{row_text}
use Rattle.ice_write_session.specs.Writable.{IsWritableRow}
use Rattle.ice_write_session.proofs.pricing.put_each_row.Given as goal

abbrev pub invariant-loop-row : goal.invariant-loop-row
invariant-loop-row g l = record {
  rows : AllByRecursion IsWritableRow (drop l.row-index l.rows);
  left : TakesAllBut (flat_map row_text (drop l.row-index l.rows)) (flat_map row_text l.rows) (g.K.Sink.taken l.initial.out) (g.K.Sink.taken l.out);
}
