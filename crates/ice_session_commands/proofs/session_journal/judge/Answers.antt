use Rattle.std.proofs.Common.{[], ◌∷◌, sym, refl, rules, arith}
use Rattle.std.proofs.lemmas.Result.{err_from_is_err_and}
use Rattle.ice_defs.specs.Round.{Judged}
use Rattle.ice_session_laws.proofs.Verdicts.{verdict_may_be_written}
use Rattle.ice_trial.specs.Rounds.{GoesOnBy}
use Rattle.ice_trial.proofs.Submitting.{goes_on_one}
use Rattle.ice_session_commands.proofs.RunJudging.{none_judged, one_judged, one_fails, all_judged}
use Rattle.ice_session_commands.proofs.session_journal.judge.Goals as goal

pub offset_bounds-bids-bid-index : goal.offset_bounds-bids-bid-index
offset_bounds-bids-bid-index g c = search rules

pub put_judged-requires : goal.put_judged-requires
put_judged-requires g c = verdict_may_be_written c.loop-bid.round.exchange c.loop-bid.round.round c.bid-item.result c.submit-verdict.result c.lo-values.ensures.lawful.lo.few c.submit-verdict.ensures.verdict

pub loop-bid-init : goal.loop-bid-init
loop-bid-init g c = none_judged c.args.round.now c.args.bids.now (g.K.Sink.taken c.args.out.now)

pub loop-bid-preserved : goal.loop-bid-preserved
loop-bid-preserved g c =
    let j : Judged = record { submission = c.bid-item.result; verdict = c.submit-verdict.result } in
    let fits = verdict_may_be_written c.loop-bid.round.exchange c.loop-bid.round.round c.bid-item.result c.submit-verdict.result c.lo-values.ensures.lawful.lo.few c.submit-verdict.ensures.verdict in
    let one : GoesOnBy c.loop-bid.round c.submit-verdict.new.self (j ∷ []) =
    goes_on_one c.loop-bid.round c.submit-verdict.new.self j c.submit-verdict.ensures.next c.submit-verdict.ensures.changed c.submit-verdict.ensures.after (c.put_judged.ensures.submission, (fits, tt)) in
    one_judged c.args.round.now c.loop-bid.round c.submit-verdict.new.self c.args.bids.now c.loop-bid.bid-index c.bid-item.result c.loop-bid-test.true (sym c.bid-item.is) j refl one c.loop-bid.invariant c.in_ok-put_judged.ensures.put

pub returns-in_err-put_judged : goal.returns-in_err-put_judged
returns-in_err-put_judged g c =
    let j : Judged = record { submission = c.bid-item.result; verdict = c.submit-verdict.result } in
    let fits = verdict_may_be_written c.loop-bid.round.exchange c.loop-bid.round.round c.bid-item.result c.submit-verdict.result c.lo-values.ensures.lawful.lo.few c.submit-verdict.ensures.verdict in
    let one : GoesOnBy c.loop-bid.round c.submit-verdict.new.self (j ∷ []) =
    goes_on_one c.loop-bid.round c.submit-verdict.new.self j c.submit-verdict.ensures.next c.submit-verdict.ensures.changed c.submit-verdict.ensures.after (c.put_judged.ensures.submission, (fits, tt)) in
    let p = err_from_is_err_and c.from_residual.result c.from_residual.ensures.1 in
    one_fails c.args.round.now c.loop-bid.round c.submit-verdict.new.self c.args.bids.now c.loop-bid.bid-index c.bid-item.result c.loop-bid-test.true (sym c.bid-item.is) j refl one c.from_residual.result p.0 p.1 c.loop-bid.invariant c.in_err-put_judged.ensures.put

pub returns : goal.returns
returns g c =
    all_judged c.args.round.now c.loop-bid.round c.args.bids.now c.loop-bid.bid-index (g.K.Sink.taken c.args.out.now) (g.K.Sink.taken c.loop-bid.out)
    (omega (arith, c.loop-bid-test.false)) c.loop-bid.invariant
