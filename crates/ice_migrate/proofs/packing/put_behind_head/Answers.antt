use Rattle.std.proofs.Common.{◌∙◌, refl}
use Rattle.std.proofs.lemmas.Result.{err_from_is_err_and}
use Rattle.ice_journal.specs.Journal.{bytes_of}
use Rattle.ice_journal.specs.Plain.{all_zero, packed_records}
use Rattle.ice_write.proofs.Loops.{fails_as}
use Rattle.ice_migrate.proofs.Puts.{one_gathered, one_fails, all_put}
use Rattle.ice_migrate.proofs.packing.put_behind_head.Goals as goal

pub loop-line-preserved : goal.loop-line-preserved
loop-line-preserved g c =
    let goods = c.args.goods in
    record {
      goods = c.put_line.ensures.goods ∙ c.loop-line.invariant.goods;
      left = λ left is.
          one_gathered goods c.loop-line.packing c.put_line.new.self c.loop-line.gathered c.loop-line.records c.next_line.new.self c.in-Some.line left
          (g.K.Sink.taken c.args.out.now) (g.K.Sink.taken c.loop-line.out) (g.K.Sink.taken c.put_line.new.out)
          (c.loop-line.invariant.left left is) c.in-Some.ensures.next c.loop-line.invariant.goods c.put_line.ensures.after c.put_line.new.gathered c.in_ok-put_line.ensures.put;
    }

pub returns-in_err-put_line : goal.returns-in_err-put_line
returns-in_err-put_line g c = λ left is.
    let goods = c.args.goods in
    let whole = bytes_of (packed_records goods (all_zero goods) left) in
    let p = err_from_is_err_and c.from_residual.result c.from_residual.ensures.1 in
    fails_as whole whole c.from_residual.result p.0 p.1 refl
    (one_fails goods c.loop-line.packing c.put_line.new.self c.loop-line.gathered c.loop-line.records c.next_line.new.self c.in-Some.line left
    (g.K.Sink.taken c.args.out.now) (g.K.Sink.taken c.loop-line.out) (g.K.Sink.taken c.put_line.new.out)
    (c.loop-line.invariant.left left is) c.in-Some.ensures.next c.loop-line.invariant.goods c.put_line.ensures.after c.in_err-put_line.ensures.put)

pub returns : goal.returns
returns g c = λ left is.
    all_put c.args.goods c.loop-line.packing c.loop-line.gathered c.loop-line.records c.next_line.new.self left c.flush.result
    (g.K.Sink.taken c.args.out.now) (g.K.Sink.taken c.loop-line.out) (g.K.Sink.taken c.flush.new.out)
    (c.loop-line.invariant.left left is) c.in_default.ensures.next c.flush.ensures.put
