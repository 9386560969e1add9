use Rattle.std.proofs.Common.{◌≡◌, ◌+◌, ◌<◌, ◌∙◌, ◌++◌, refl, ap, sym, subst, List, length, get_or, drop, arith, ℕ, ℤ}
use Rattle.std.proofs.lemmas.Result.{err_from_is_err_and}
use Rattle.ice_edge.specs.Puts.{TakesAllBut}
use Rattle.ice_refute.specs.Code.{CountsGoods, step_of}
use Rattle.ice_journal.specs.Records.{Record, version_2}
use Rattle.ice_journal.specs.Ranges.{IsRecord, IsStepRecord}
use Rattle.ice_journal.specs.Plain.{all_zero}
use Rattle.ice_journal.specs.Spelling.{line_of}
use Rattle.ice_journal.specs.Journal.{bytes_of}
use Rattle.ice_journal.specs.Lines.{record_of}
use Rattle.ice_journal_laws.specs.Fields.{multipliers_after}
use Rattle.ice_journal_laws.specs.Showing.{step_records}
use Rattle.ice_write.proofs.Changing.{step_is_record}
use Rattle.ice_journal_laws.proofs.Plaining.{length_after}
use Rattle.ice_write.proofs.Loops.{fails_as, next_all, next_fails, next_taken}
use Rattle.ice_write.proofs.Stepping.{step_opens, step_there, step_inside}
use Rattle.ice_write.proofs.group.put_steps.Goals as goal

pub step_line-requires : goal.step_line-requires
step_line-requires g c =
    let log = c.args.log.now in
    let i = c.loop-step.step-index in
    let x = step_of c.step-item.result in
    let inside : i < length c.steps-step-items.result.now = omega arith in
    let there : i < length log = step_inside log c.steps-step-items.result.now i c.steps-step-items.ensures inside in
    let is : get_or log i x ≡ x = step_there log c.steps-step-items.result.now i c.step-item.result c.steps-step-items.ensures inside c.step-item.is in
    let counts : CountsGoods c.args.goods x = subst (CountsGoods c.args.goods) is (next_all (CountsGoods c.args.goods) log i x there c.loop-step.invariant.counts).0 in
    subst (λ (n : ℕ). CountsGoods n x) (sym c.loop-step.invariant.count) counts

pub put_record-requires : goal.put_record-requires
put_record-requires g c =
    let log = c.args.log.now in
    let i = c.loop-step.step-index in
    let x = step_of c.step-item.result in
    let inside : i < length c.steps-step-items.result.now = omega arith in
    let there : i < length log = step_inside log c.steps-step-items.result.now i c.steps-step-items.ensures inside in
    let is : get_or log i x ≡ x = step_there log c.steps-step-items.result.now i c.step-item.result c.steps-step-items.ensures inside c.step-item.is in
    let counts : CountsGoods c.args.goods x = subst (CountsGoods c.args.goods) is (next_all (CountsGoods c.args.goods) log i x there c.loop-step.invariant.counts).0 in
    let steps : IsStepRecord x = subst IsStepRecord is (next_all IsStepRecord log i x there c.loop-step.invariant.steps).0 in
    subst IsRecord (sym c.step_line.ensures) (step_is_record c.args.goods c.loop-step.multipliers x c.loop-step.invariant.count c.requires.goods counts steps)

pub returns-in_err-put_record : goal.returns-in_err-put_record
returns-in_err-put_record g c =
    let log = c.args.log.now in
    let i = c.loop-step.step-index in
    let x = step_of c.step-item.result in
    let m = c.loop-step.multipliers in
    let inside : i < length c.steps-step-items.result.now = omega arith in
    let there : i < length log = step_inside log c.steps-step-items.result.now i c.steps-step-items.ensures inside in
    let is : get_or log i x ≡ x = step_there log c.steps-step-items.result.now i c.step-item.result c.steps-step-items.ensures inside c.step-item.is in
    let whole = bytes_of (step_records version_2 (all_zero c.args.goods) log) in
    let rest = bytes_of (step_records version_2 (multipliers_after m x) (drop (i + 1) log)) in
    let p = err_from_is_err_and c.from_residual.result c.from_residual.ensures.1 in
    fails_as whole whole c.from_residual.result p.0 p.1 refl
    (next_fails (line_of (record_of c.step_line.result)) rest (bytes_of (step_records version_2 m (drop i log))) whole
    (step_opens log i x m there is ∙ ap (λ (r : Record). line_of r ++ rest) (sym c.step_line.ensures)) c.loop-step.invariant.left c.in_err-put_record.ensures)

pub loop-step-preserved : goal.loop-step-preserved
loop-step-preserved g c =
    let log = c.args.log.now in
    let i = c.loop-step.step-index in
    let x = step_of c.step-item.result in
    let m = c.loop-step.multipliers in
    let inside : i < length c.steps-step-items.result.now = omega arith in
    let there : i < length log = step_inside log c.steps-step-items.result.now i c.steps-step-items.ensures inside in
    let is : get_or log i x ≡ x = step_there log c.steps-step-items.result.now i c.step-item.result c.steps-step-items.ensures inside c.step-item.is in
    let both = next_all (CountsGoods c.args.goods) log i x there c.loop-step.invariant.counts in
    let counts : CountsGoods c.args.goods x = subst (CountsGoods c.args.goods) is both.0 in
    let whole = bytes_of (step_records version_2 (all_zero c.args.goods) log) in
    let rest = bytes_of (step_records version_2 (multipliers_after m x) (drop (i + 1) log)) in
    record {
      count = ap (λ (l : List ℤ). length l) c.after-multipliers.ensures ∙ length_after c.args.goods m x c.loop-step.invariant.count counts;
      counts = both.1;
      steps = (next_all IsStepRecord log i x there c.loop-step.invariant.steps).1;
      left = subst
          (λ (l : List ℤ). TakesAllBut (bytes_of (step_records version_2 l (drop (i + 1) log))) whole (g.K.Sink.taken c.args.out.now) (g.K.Sink.taken c.put_record.new.out))
          (sym c.after-multipliers.ensures)
          (next_taken (line_of (record_of c.step_line.result)) rest (bytes_of (step_records version_2 m (drop i log))) whole
          (step_opens log i x m there is ∙ ap (λ (r : Record). line_of r ++ rest) (sym c.step_line.ensures)) c.loop-step.invariant.left c.in_ok-put_record.ensures);
    }
