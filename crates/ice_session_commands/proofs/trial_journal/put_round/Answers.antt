use Rattle.std.proofs.Common.{◌++◌, List, subst}
use Rattle.std.specs.List.{flat_map}
use Rattle.std.proofs.lemmas.Result.{err_from_is_err_and}
use Rattle.ice_defs.specs.Round.{Submission}
use Rattle.ice_edge.specs.Puts.{IsPut}
use Rattle.ice_journal.specs.Journal.{bytes_of}
use Rattle.ice_journal_laws.specs.Written.{judged_records}
use Rattle.ice_write_session.specs.Records.{opening_records}
use Rattle.ice_write_session.proofs.Puts.{fails_first, put_last, put_failed}
use Rattle.ice_trial.specs.Rounds.{acceptances}
use Rattle.ice_session_commands.proofs.trial_journal.put_round.Goals as goal

pub returns-in_err-put_opening : goal.returns-in_err-put_opening
returns-in_err-put_opening g c =
    let opening = opening_records c.args.exchange.now c.args.round.now.opening in
    let judged = flat_map judged_records (acceptances c.args.round.now.bids.items) in
    let p = err_from_is_err_and c.from_residual.result c.from_residual.ensures.1 in
    put_failed (opening ++ judged) c.from_residual.result p.0 p.1 (fails_first opening judged c.in_err-put_opening.ensures.put)

pub returns : goal.returns
returns g c =
    let new = g.K.Sink.taken c.put_accepted.new.out in
    put_last (opening_records c.args.exchange.now c.args.round.now.opening) (flat_map judged_records (acceptances c.args.round.now.bids.items)) c.put_accepted.result new c.in_ok-put_opening.ensures.put
    (subst (λ (bids : List Submission). IsPut (bytes_of (flat_map judged_records (acceptances bids))) c.put_accepted.result (g.K.Sink.taken c.put_opening.new.out) new)
    c.deref.ensures.value c.put_accepted.ensures)
