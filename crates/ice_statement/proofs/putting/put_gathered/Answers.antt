use Rattle.std.proofs.Common.{arith}
use Rattle.std.proofs.lemmas.Result.{err_from_is_err_and}
use Rattle.ice_statement_laws.specs.Texts.{bytes_of_lines}
use Rattle.ice_statement_laws.specs.Gathering.{new_gathering, lines_gathered}
use Rattle.ice_statement.proofs.Gathers.{one_put, one_fails, all_put, fails_as}
use Rattle.ice_statement.proofs.putting.put_gathered.Goals as goal

pub returns-in_err-put_added : goal.returns-in_err-put_added
returns-in_err-put_added g c = λ journal is.
    let p = err_from_is_err_and c.from_residual.result c.from_residual.ensures.1 in
    fails_as (bytes_of_lines (lines_gathered (new_gathering c.args.name.now) journal)) c.from_residual.result p.0 _ _ p.1
    (one_fails (new_gathering c.args.name.now) c.loop-record.gathering c.loop-record.records c.next_with_line.new.self journal c.in-Some.record c.in-Some.line _ _ _
    (c.loop-record.invariant.put journal is) c.in-Some.ensures.next c.in_err-put_added.ensures)

pub loop-record-preserved : goal.loop-record-preserved
loop-record-preserved g c = record {
  bidders = omega (arith, c.loop-record.invariant.bidders, c.take.ensures.bidders, c.in-Some.ensures.shorter);
  sets = omega (arith, c.loop-record.invariant.sets, c.take.ensures.sets, c.in-Some.ensures.shorter);
  put = λ journal is.
      one_put (new_gathering c.args.name.now) c.loop-record.gathering c.loop-record.records c.next_with_line.new.self journal c.in-Some.record c.in-Some.line _ _ _
      (c.loop-record.invariant.put journal is) c.in-Some.ensures.next c.take.new.self c.take.ensures.after c.in_ok-put_added.ensures;
}

pub returns : goal.returns
returns g c = λ journal is. all_put (new_gathering c.args.name.now) c.loop-record.gathering c.loop-record.records c.next_with_line.new.self journal _ _ c.in_default.ensures.next (c.loop-record.invariant.put journal is)
