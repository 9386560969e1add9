use Rattle.std.proofs.Common.{◌<◌, ap, length, map, arith}
use Rattle.std.specs.List.{flat_map}
use Rattle.std.proofs.lemmas.Result.{err_from_is_err_and}
use Rattle.ice_journal.specs.Spelling.{line_of}
use Rattle.ice_journal.specs.Journal.{bytes_of}
use Rattle.ice_journal.specs.Lines.{record_of}
use Rattle.ice_journal_laws.specs.Written.{payment_record}
use Rattle.ice_settled.specs.Shown.{charges_of}
use Rattle.ice_write.proofs.Loops.{fails_as, takes_as, one_more, one_fails, all_put, bytes_map, same_there}
use Rattle.ice_write_session.specs.Payments.{no_payment, payment_at}
use Rattle.ice_write_session.specs.Pieces.{payment_text}
use Rattle.ice_write_session.proofs.payment.put_payments.Goals as goal

pub returns-in_err-put_record : goal.returns-in_err-put_record
returns-in_err-put_record g c =
    let all = charges_of c.args.charged.now in
    let i = c.loop-bidder.bidder in
    let there : i < length all = omega (arith, c.bidders-bidder-end.ensures.value, c.requires.payments_count) in
    let p = err_from_is_err_and c.from_residual.result c.from_residual.ensures.1 in
    fails_as (bytes_of (map payment_record all)) (flat_map payment_text all) c.from_residual.result p.0 p.1 (bytes_map payment_record all)
    (one_fails payment_text all i (payment_at c.args.charged.now i) there (same_there all i no_payment there) (line_of (record_of c.payment_line.result)) (flat_map payment_text all) (ap line_of c.payment_line.ensures.line)
    c.loop-bidder.invariant c.in_err-put_record.ensures)

pub loop-bidder-preserved : goal.loop-bidder-preserved
loop-bidder-preserved g c =
    let all = charges_of c.args.charged.now in
    let i = c.loop-bidder.bidder in
    let there : i < length all = omega (arith, c.bidders-bidder-end.ensures.value, c.requires.payments_count) in
    one_more payment_text all i (payment_at c.args.charged.now i) there (same_there all i no_payment there) (line_of (record_of c.payment_line.result)) (flat_map payment_text all) (ap line_of c.payment_line.ensures.line)
    c.loop-bidder.invariant c.in_ok-put_record.ensures

pub returns : goal.returns
returns g c =
    let all = charges_of c.args.charged.now in
    takes_as (bytes_of (map payment_record all)) (flat_map payment_text all) (bytes_map payment_record all)
    (all_put payment_text all c.loop-bidder.bidder (flat_map payment_text all) (omega (arith, c.bidders-bidder-end.ensures.value, c.requires.payments_count)) c.loop-bidder.invariant)
