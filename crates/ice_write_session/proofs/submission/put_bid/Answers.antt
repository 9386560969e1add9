use Rattle.std.proofs.Common.{◌≡◌, ◌∙◌, sym, subst}
use Rattle.ice_defs.specs.Round.{Submission}
use Rattle.ice_journal.specs.Ranges.{IsSubmission}
use Rattle.ice_write_session.proofs.Ranges.{bid_is}
use Rattle.ice_write_session.proofs.submission.put_bid.Goals as goal

pub put_line-requires : goal.put_line-requires
put_line-requires g c =
    let bid = c.args.bid.now in
    let name = c.copy.ensures.copy ∙ c.bidder.ensures.name in
    let lo = c.narrowed.ensures ∙ c.lo.ensures.values in
    let hi = c.narrowed-2.ensures ∙ c.hi.ensures.values in
    let read : Submission = record { name = c.copy.result; lo = c.narrowed.result.items; hi = c.narrowed-2.result.items } in
    let same : read ≡ bid = λ k. record { name = name k; lo = lo k; hi = hi k } in
    subst IsSubmission (sym same) (bid_is bid c.bidder.ensures.lawful)

pub returns-clause-record : goal.returns-clause-record
returns-clause-record g c = bid_is c.args.bid.now c.bidder.ensures.lawful
