use Rattle.std.proofs.Common.{◌∷◌, ◌++◌, [], List, sym, append_assoc}
use Rattle.std.proofs.lemmas.List.{append-nil}
use Rattle.std.proofs.lemmas.Result.{err_from_is_err_and}
use Rattle.ice_journal.specs.Records.{Record, regret_end}
use Rattle.ice_journal.specs.Records as line
use Rattle.ice_journal.specs.Spelling.{line_of}
use Rattle.ice_journal.specs.Journal.{bytes_of}
use Rattle.ice_write.proofs.Loops.{put_as}
use Rattle.ice_write_session.specs.Records.{rival_records}
use Rattle.ice_write_session.proofs.Puts.{fails_first, put_last, put_failed, put_in_words}
use Rattle.ice_commands.specs.RegretJournal.{ending_records}
use Rattle.ice_commands.proofs.regret_journal.put_ending.Goals as goal

pub returns-in_err-put_regret : goal.returns-in_err-put_regret
returns-in_err-put_regret g c =
    let ex = c.args.exchange.now in
    let r = c.args.regret.now in
    let amount : List Record = line.regret r.amount ∷ [] in
    let first : List Record = rival_records ex r ++ amount in
    let last : List Record = line.end regret_end ∷ [] in
    let p = err_from_is_err_and c.from_residual.result c.from_residual.ensures.1 in
    put_in_words (ending_records ex r) (first ++ last) c.from_residual.result (g.K.Sink.taken c.args.out.now) (g.K.Sink.taken c.put_regret.new.out)
    (sym (append_assoc (rival_records ex r) amount last)) (put_failed (first ++ last) c.from_residual.result p.0 p.1 (fails_first first last c.in_err-put_regret.ensures))

pub returns : goal.returns
returns g c =
    let ex = c.args.exchange.now in
    let r = c.args.regret.now in
    let amount : List Record = line.regret r.amount ∷ [] in
    let first : List Record = rival_records ex r ++ amount in
    let last : List Record = line.end regret_end ∷ [] in
    let new = g.K.Sink.taken c.put_record.new.out in
    put_in_words (ending_records ex r) (first ++ last) c.put_record.result (g.K.Sink.taken c.args.out.now) new (sym (append_assoc (rival_records ex r) amount last))
    (put_last first last c.put_record.result new c.in_ok-put_regret.ensures
    (put_as (bytes_of last) (line_of (line.end regret_end)) c.put_record.result (g.K.Sink.taken c.put_regret.new.out) new (append-nil (line_of (line.end regret_end))) c.put_record.ensures))
