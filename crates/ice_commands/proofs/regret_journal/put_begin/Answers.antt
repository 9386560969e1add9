use Rattle.std.proofs.Common.{refl}
use Rattle.std.proofs.lemmas.Result.{err_from_is_err_and}
use Rattle.ice_journal.specs.Records.{version_2, regret_kind}
use Rattle.ice_journal.specs.Records as line
use Rattle.ice_journal.specs.Spelling.{line_of}
use Rattle.ice_journal.specs.Journal.{bytes_of}
use Rattle.ice_section.specs.Described.{section_records}
use Rattle.ice_write.proofs.Loops.{fails_as, first_fails, then_put}
use Rattle.ice_commands.specs.RegretJournal.{begun_records}
use Rattle.ice_commands.proofs.regret_journal.put_begin.Goals as goal

pub returns-in_err-put_record : goal.returns-in_err-put_record
returns-in_err-put_record g c =
    let ex = c.args.exchange.now in
    let whole = bytes_of (begun_records ex) in
    let p = err_from_is_err_and c.from_residual.result c.from_residual.ensures.1 in
    fails_as whole whole c.from_residual.result p.0 p.1 refl
    (first_fails (line_of (line.head version_2 regret_kind)) (bytes_of (section_records ex)) c.in_err-put_record.ensures)

pub returns : goal.returns
returns g c =
    then_put (line_of (line.head version_2 regret_kind)) (bytes_of (section_records c.args.exchange.now)) c.put_section.result (g.K.Sink.taken c.put_section.new.out)
    c.in_ok-put_record.ensures c.put_section.ensures
