use Rattle.std.proofs.Common.{subst}
use Rattle.std.proofs.lemmas.Result.{err_from_is_err_and}
use Rattle.ice_journal_laws.specs.Progress.{nothing}
use Rattle.ice_gap_laws.specs.Gap.{checking}
use Rattle.ice_gap_laws.specs.Answers.{AnswersGap}
use Rattle.ice_gap_laws.proofs.Ending.{gap_end_is_answer}
use Rattle.ice_reading.proofs.Unjudged.{read_unanswered}
use Rattle.ice_gap.specs.Reading.{TestsOn}
use Rattle.ice_gap.proofs.Come.{come_to}
use Rattle.ice_gap.proofs.reading.gap.Goals as goal

pub returns : goal.returns
returns c =
    let bytes = c.args.bytes.now in
    let read = c.in_ok-read_journal.ensures in
    let (p, leads, come) = come_to read.journal _ c.read_journal.new.reader (checking nothing) read.runs c.new.ensures.made in
    subst (AnswersGap bytes) (c.answer.ensures p come) (gap_end_is_answer bytes read.journal p read.spelled leads)

pub returns-in_err-read_journal : goal.returns-in_err-read_journal
returns-in_err-read_journal c =
    let p = err_from_is_err_and c.from_residual.result c.from_residual.ensures.1 in
    rw (p.1, p.2) (read_unanswered TestsOn c.args.bytes.now c.read_journal.new.reader c.in_err-read_journal.field-0.0 c.in_err-read_journal.ensures)
