use Rattle.std.proofs.Common.{[], ◌∷◌, sym, refl, rules, arith}
use Rattle.ice_defs.specs.Round.{Judged}
use Rattle.ice_write_session.proofs.Ranges.{bid_is}
use Rattle.ice_session_laws.proofs.Verdicts.{verdict_may_be_written}
use Rattle.ice_trial.specs.Rounds.{GoesOnBy}
use Rattle.ice_trial.proofs.Submitting.{goes_on_one, none_submitted, one_submitted, all_submitted}
use Rattle.ice_trial.proofs.round.submit_all.Goals as goal

pub offset_bounds-bids-bid-index : goal.offset_bounds-bids-bid-index
offset_bounds-bids-bid-index c = search rules

pub loop-bid-init : goal.loop-bid-init
loop-bid-init c = none_submitted c.args.round.now c.args.bids.now

pub loop-bid-preserved : goal.loop-bid-preserved
loop-bid-preserved c =
    let j : Judged = record { submission = c.bid-item.result; verdict = c.submit-verdict.result } in
    let fits = verdict_may_be_written c.loop-bid.round.exchange c.loop-bid.round.round c.bid-item.result c.submit-verdict.result c.lo-values.ensures.lawful.lo.few c.submit-verdict.ensures.verdict in
    let one : GoesOnBy c.loop-bid.round c.submit-verdict.new.self (j ∷ []) =
    goes_on_one c.loop-bid.round c.submit-verdict.new.self j c.submit-verdict.ensures.next c.submit-verdict.ensures.changed c.submit-verdict.ensures.after (bid_is c.bid-item.result c.lo-values.ensures.lawful, (fits, tt)) in
    one_submitted c.args.round.now c.loop-bid.round c.submit-verdict.new.self c.args.bids.now c.loop-bid.bid-index c.bid-item.result c.loop-bid-test.true (sym c.bid-item.is) j refl one c.loop-bid.invariant

pub returns : goal.returns
returns c = all_submitted c.args.round.now c.loop-bid.round c.args.bids.now c.loop-bid.bid-index (omega (arith, c.loop-bid-test.false)) c.loop-bid.invariant
