use Rattle.std.proofs.Common.{sym}
use Rattle.ice_statement.proofs.Judged.{search_goes_on, search_ends, search_is_over}
use Rattle.ice_statement.proofs.judging.has_bidder.Goals as goal

pub returns-in-Some-end_at : goal.returns-in-Some-end_at
returns-in-Some-end_at c = λ journal is.
    search_ends c.args.name.now c.loop-line.records c.next.new.self journal c.in-Some.line c.in-Some-end_at.found c.in-Some.ensures.next (sym c.in-Some-end_at.ensures) (c.loop-line.invariant journal is)

pub loop-line-preserved : goal.loop-line-preserved
loop-line-preserved c = λ journal is.
    search_goes_on c.args.name.now c.loop-line.records c.next.new.self journal c.in-Some.line c.in-Some.ensures.next (sym c.in_default-end_at.ensures) (c.loop-line.invariant journal is)

pub returns : goal.returns
returns c = λ journal is. search_is_over c.args.name.now c.loop-line.records c.next.new.self journal c.in_default.ensures.next (c.loop-line.invariant journal is)
