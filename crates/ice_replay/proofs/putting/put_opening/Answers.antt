use Rattle.std.proofs.Common.{refl, List, subst}
use Rattle.std.proofs.lemmas.Result.{err_from_is_err_and}
use Rattle.ice_edge.specs.Puts.{IsPut}
use Rattle.ice_journal.specs.Records as line
use Rattle.ice_journal.specs.Spelling.{line_of}
use Rattle.ice_write.proofs.Loops.{fails_as, first_fails, then_put}
use Rattle.ice_replay.specs.declared.settlement.BidderBounds.{BidderBounds}
use Rattle.ice_replay.specs.Lines.{bidder_lines, opening_lines}
use Rattle.ice_replay.proofs.putting.put_opening.Goals as goal

pub returns-in_err-put_settle : goal.returns-in_err-put_settle
returns-in_err-put_settle g c =
    let x = c.args.replay.now in
    let p = err_from_is_err_and c.from_residual.result c.from_residual.ensures.1 in
    fails_as (opening_lines x) (opening_lines x) c.from_residual.result p.0 p.1 refl (first_fails (line_of (line.settle x.number)) (bidder_lines x.bidders.items) c.in_err-put_settle.ensures)

pub returns : goal.returns
returns g c =
    let x = c.args.replay.now in
    let put = c.put_bidders.result in
    let last = subst (λ (l : List BidderBounds). IsPut (bidder_lines l) put (g.K.Sink.taken c.put_settle.new.out) (g.K.Sink.taken c.put_bidders.new.out)) c.deref.ensures.value c.put_bidders.ensures in
    then_put (line_of (line.settle x.number)) (bidder_lines x.bidders.items) put (g.K.Sink.taken c.put_bidders.new.out) c.in_ok-put_settle.ensures last
