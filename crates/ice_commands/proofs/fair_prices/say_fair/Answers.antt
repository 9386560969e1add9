use Rattle.std.proofs.Common.{refl, [], inl, subst}
use Rattle.ice_edge.specs.declared.status.Status.TheVariants.{Done, Limit, NoMemory}
use Rattle.ice_edge.proofs.Puts.{Appends-nothing}
use Rattle.ice_fair.specs.Ends.{IsFairEnd}
use Rattle.ice_fair.specs.declared.ends.FairEnd.TheVariants as fair_end
use Rattle.ice_journal.specs.Journal.{bytes_of}
use Rattle.ice_write_session.specs.Records.{limit_records}
use Rattle.ice_write_fair.specs.Lines.{fair_lines, fair_limit_lines}
use Rattle.ice_commands.proofs.fair_prices.say_fair.Goals as goal

pub say_price_limit-requires-clause-ended : goal.say_price_limit-requires-clause-ended
say_price_limit-requires-clause-ended g c = subst (IsFairEnd c.args.last.now) c.in-Err-Price.field-0-is c.in-Err-Price.ensures.ended

pub say_fair_limit-requires-clause-ended : goal.say_fair_limit-requires-clause-ended
say_fair_limit-requires-clause-ended g c = subst (IsFairEnd c.args.last.now) c.in-Err-Limit.field-0-is c.in-Err-Limit.ensures.ended

pub returns-in-Ok : goal.returns-in-Ok
returns-in-Ok g c =
    let fair = c.in-Ok.fair in
    (fair_lines fair, Done, (fair, c.in-Ok.ensures.fair, c.say_prices.ensures.lowest, refl), c.say_prices.ensures.said)

pub returns-in-Err-Price : goal.returns-in-Err-Price
returns-in-Err-Price g c =
    let limit = c.in-Err-Price.limit in
    let ended = subst (IsFairEnd c.args.last.now) c.in-Err-Price.field-0-is c.in-Err-Price.ensures.ended in
    (bytes_of (limit_records limit), Limit, (fair_end.Price limit, ended, refl), c.say_price_limit.ensures)

pub returns-in-Err-Limit : goal.returns-in-Err-Limit
returns-in-Err-Limit g c =
    let limit = c.in-Err-Limit.limit in
    let ended = subst (IsFairEnd c.args.last.now) c.in-Err-Limit.field-0-is c.in-Err-Limit.ensures.ended in
    (fair_limit_lines limit, Limit, (fair_end.Limit limit, ended, refl), c.say_fair_limit.ensures)

pub returns-in-Err-NoMemory : goal.returns-in-Err-NoMemory
returns-in-Err-NoMemory g c =
    ([], NoMemory, refl, inl (refl, Appends-nothing (g.K.Sink.taken c.args.out.now).written))
