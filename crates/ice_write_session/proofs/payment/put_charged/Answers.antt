use Rattle.std.proofs.Common.{◌∷◌, ◌++◌, [], List, map}
use Rattle.std.proofs.lemmas.Result.{err_from_is_err_and}
use Rattle.ice_journal.specs.Records.{Record, closed_end}
use Rattle.ice_journal.specs.Records as line
use Rattle.ice_journal_laws.specs.Written.{payment_record}
use Rattle.ice_settled.specs.Shown.{charges_of}
use Rattle.ice_write_session.proofs.Puts.{fails_first, put_last, put_failed}
use Rattle.ice_write_session.proofs.payment.put_charged.Goals as goal

pub returns-in_err-put_charges : goal.returns-in_err-put_charges
returns-in_err-put_charges g c =
    let cl = c.args.charged.now in
    let first : List Record = line.threshold cl.payments.cut cl.payments.surplus ∷ map payment_record (charges_of cl) in
    let second : List Record = line.end closed_end ∷ [] in
    let p = err_from_is_err_and c.from_residual.result c.from_residual.ensures.1 in
    put_failed (first ++ second) c.from_residual.result p.0 p.1 (fails_first first second c.in_err-put_charges.ensures)

pub returns : goal.returns
returns g c =
    let cl = c.args.charged.now in
    let first : List Record = line.threshold cl.payments.cut cl.payments.surplus ∷ map payment_record (charges_of cl) in
    put_last first (line.end closed_end ∷ []) c.put_end.result (g.K.Sink.taken c.put_end.new.out) c.in_ok-put_charges.ensures c.put_end.ensures
