use Rattle.std.proofs.Common.{◌∷◌, ◌++◌, map}
use Rattle.std.proofs.lemmas.Result.{err_from_is_err_and}
use Rattle.ice_journal.specs.Records as line
use Rattle.ice_journal.specs.Records.{version_2}
use Rattle.ice_journal.specs.Plain.{all_zero}
use Rattle.ice_journal.specs.Spelling.{line_of}
use Rattle.ice_journal.specs.Journal.{bytes_of}
use Rattle.ice_journal.specs.Lines.{record_of}
use Rattle.ice_journal_laws.specs.Showing.{step_records}
use Rattle.ice_write.proofs.Loops.{fails_as, put_as, first_fails, then_fails, then_put, takes_both, bytes_append}
use Rattle.ice_write.proofs.group.put_group.Goals as goal

pub returns-in_err-put_record : goal.returns-in_err-put_record
returns-in_err-put_record g c =
    let first = record_of c.args.head.now in
    let sets = map line.set c.args.sets.now in
    let steps = step_records version_2 (all_zero c.args.goods) c.args.log.now in
    let p = err_from_is_err_and c.from_residual.result c.from_residual.ensures.1 in
    fails_as (bytes_of ((first ∷ sets) ++ steps)) (bytes_of (first ∷ sets) ++ bytes_of steps) c.from_residual.result p.0 p.1 (bytes_append (first ∷ sets) steps)
    (first_fails (bytes_of (first ∷ sets)) (bytes_of steps) (first_fails (line_of first) (bytes_of sets) c.in_err-put_record.ensures))

pub returns-in_err-put_sets : goal.returns-in_err-put_sets
returns-in_err-put_sets g c =
    let first = record_of c.args.head.now in
    let sets = map line.set c.args.sets.now in
    let steps = step_records version_2 (all_zero c.args.goods) c.args.log.now in
    let p = err_from_is_err_and c.from_residual-in_err-put_sets.result c.from_residual-in_err-put_sets.ensures.1 in
    fails_as (bytes_of ((first ∷ sets) ++ steps)) (bytes_of (first ∷ sets) ++ bytes_of steps) c.from_residual-in_err-put_sets.result p.0 p.1 (bytes_append (first ∷ sets) steps)
    (first_fails (bytes_of (first ∷ sets)) (bytes_of steps) (then_fails (line_of first) (bytes_of sets) c.in_ok-put_record.ensures c.in_err-put_sets.ensures))

pub returns : goal.returns
returns g c =
    let first = record_of c.args.head.now in
    let sets = map line.set c.args.sets.now in
    let steps = step_records version_2 (all_zero c.args.goods) c.args.log.now in
    put_as (bytes_of ((first ∷ sets) ++ steps)) (bytes_of (first ∷ sets) ++ bytes_of steps) c.put_steps.result (g.K.Sink.taken c.args.out.now) (g.K.Sink.taken c.put_steps.new.out)
    (bytes_append (first ∷ sets) steps)
    (then_put (bytes_of (first ∷ sets)) (bytes_of steps) c.put_steps.result (g.K.Sink.taken c.put_steps.new.out) (takes_both (line_of first) (bytes_of sets) c.in_ok-put_record.ensures c.in_ok-put_sets.ensures) c.put_steps.ensures)
