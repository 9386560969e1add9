use Rattle.std.proofs.Common.{Some, None, refl, sym}
use Rattle.ice_defs.specs.declared.Verdict.TheVariants.{UnknownBidder}
use Rattle.ice_verdicts.proofs.Submitting.{changed_in, next_in, after_in}
use Rattle.ice_verdicts.proofs.judge.Judge.submit.Goals as goal

pub returns-in-Some-clause-next : goal.returns-in-Some-clause-next
returns-in-Some-clause-next c = λ judged leads.
    next_in c.args.exchange.now c.args.self.now c.args.bid.now c.submit_of.result (Some c.in-Some.bidder) (sym c.in-Some.ensures)
    c.submit_of.ensures.verdict c.submit_of.new.self c.submit_of.ensures.taken c.bidders-bidders.ensures.lawful c.requires.round judged leads

pub returns-in-Some-clause-changed : goal.returns-in-Some-clause-changed
returns-in-Some-clause-changed c =
    changed_in c.args.exchange.now c.args.self.now c.args.bid.now c.submit_of.result (Some c.in-Some.bidder) (sym c.in-Some.ensures)
    c.submit_of.ensures.verdict c.submit_of.new.self c.submit_of.ensures.taken

pub returns-in-Some-clause-after : goal.returns-in-Some-clause-after
returns-in-Some-clause-after c = λ judged leads.
    after_in c.args.exchange.now c.args.self.now c.args.bid.now c.submit_of.result (Some c.in-Some.bidder) (sym c.in-Some.ensures)
    c.submit_of.ensures.verdict c.submit_of.new.self c.submit_of.ensures.taken c.bidders-bidders.ensures.lawful c.requires.round judged leads

pub returns-in-None-clause-next : goal.returns-in-None-clause-next
returns-in-None-clause-next c = λ judged leads.
    next_in c.args.exchange.now c.args.self.now c.args.bid.now UnknownBidder None (sym c.in-None.ensures) refl c.args.self.now refl c.bidders-bidders.ensures.lawful c.requires.round judged leads

pub returns-in-None-clause-after : goal.returns-in-None-clause-after
returns-in-None-clause-after c = λ judged leads.
    after_in c.args.exchange.now c.args.self.now c.args.bid.now UnknownBidder None (sym c.in-None.ensures) refl c.args.self.now refl c.bidders-bidders.ensures.lawful c.requires.round judged leads
