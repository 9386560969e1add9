use Rattle.std.proofs.Common.{◌<◌, refl, sym, length, arith}
use Rattle.std.specs.List.{flat_map}
use Rattle.std.proofs.lemmas.Result.{err_from_is_err_and}
use Rattle.ice_journal.specs.Journal.{bytes_of}
use Rattle.ice_journal_laws.specs.Written.{judged_records}
use Rattle.ice_write.proofs.Loops.{fails_as, takes_as, one_more, one_fails, all_put}
use Rattle.ice_trial.specs.Rounds.{acceptances}
use Rattle.ice_session_commands.specs.GenJournal.{accepted_text}
use Rattle.ice_session_commands.proofs.Trials.{accepted_bytes}
use Rattle.ice_session_commands.proofs.trial_journal.put_accepted.Goals as goal

pub returns-in_err-put_judged : goal.returns-in_err-put_judged
returns-in_err-put_judged g c =
    let bids = c.args.bids.now in
    let i = c.loop-bid.bid-index in
    let x = c.bid-item.result in
    let there : i < length bids = omega (arith, c.loop-bid-test.true) in
    let p = err_from_is_err_and c.from_residual.result c.from_residual.ensures.1 in
    fails_as (bytes_of (flat_map judged_records (acceptances bids))) (flat_map accepted_text bids) c.from_residual.result p.0 p.1 (accepted_bytes bids)
    (one_fails accepted_text bids i x there (sym c.bid-item.is) (accepted_text x) (flat_map accepted_text bids) refl c.loop-bid.invariant c.in_err-put_judged.ensures.put)

pub loop-bid-preserved : goal.loop-bid-preserved
loop-bid-preserved g c =
    let bids = c.args.bids.now in
    let i = c.loop-bid.bid-index in
    let x = c.bid-item.result in
    let there : i < length bids = omega (arith, c.loop-bid-test.true) in
    one_more accepted_text bids i x there (sym c.bid-item.is) (accepted_text x) (flat_map accepted_text bids) refl c.loop-bid.invariant c.in_ok-put_judged.ensures.put

pub returns : goal.returns
returns g c =
    let bids = c.args.bids.now in
    takes_as (bytes_of (flat_map judged_records (acceptances bids))) (flat_map accepted_text bids) (accepted_bytes bids)
    (all_put accepted_text bids c.loop-bid.bid-index (flat_map accepted_text bids) (omega (arith, c.loop-bid-test.false)) c.loop-bid.invariant)
