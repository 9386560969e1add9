use Rattle.std.proofs.Common.{[], refl, subst}
use Rattle.ice_round.specs.Held.{settling_with}
use Rattle.ice_round.specs.Settling.{IsUnpriced}
use Rattle.ice_session_laws.proofs.Ends.{opening_may_be_written}
use Rattle.ice_session_commands.proofs.Settling.{offered_without_memory, ends_limited, limit_may, pricing_opens, pricing_fails}
use Rattle.ice_session_commands.proofs.session_journal.open.Goals as goal

pub price-requires-clause-goes_on : goal.price-requires-clause-goes_on
price-requires-clause-goes_on g c = c.requires.goes_on

pub price-requires-clause-fresh : goal.price-requires-clause-fresh
price-requires-clause-fresh g c = c.requires.found

pub price-requires-clause-offer : goal.price-requires-clause-offer
price-requires-clause-offer g c = c.requires.offer

pub open-round-requires-clause-goes_on : goal.open-round-requires-clause-goes_on
open-round-requires-clause-goes_on g c = c.requires.goes_on

pub open-round-requires-clause-fresh : goal.open-round-requires-clause-fresh
open-round-requires-clause-fresh g c = c.requires.found

pub open-round-requires-clause-offer : goal.open-round-requires-clause-offer
open-round-requires-clause-offer g c = c.requires.offer

pub open-round-requires-clause-pricing : goal.open-round-requires-clause-pricing
open-round-requires-clause-pricing g c = c.in-Ok.ensures.priced

pub put_pricing-requires : goal.put_pricing-requires
put_pricing-requires g c =
    (opening_may_be_written c.requires.running.0 c.args.settling.session c.open-round.result.0 c.open-round.result.1 c.requires.running.1 c.open-round.ensures.opening c.den-den.ensures.limits).pricing

pub returns-in-Ok-put_pricing : goal.returns-in-Ok-put_pricing
returns-in-Ok-put_pricing g c =
    pricing_opens (settling_with c.args.settling []) c.requires.found.found c.requires.goes_on refl c.args.offer c.requires.offer c.open-round.result.0 c.open-round.result.1 c.open-round.ensures.opening c.open-round.ensures.made c.den-den.ensures.limits
    c.put_pricing.ensures.prices (g.K.Sink.taken c.args.out.now) (g.K.Sink.taken c.put_pricing.new.out) c.in-Ok-put_pricing.ensures.put

pub returns-in-Ok : goal.returns-in-Ok
returns-in-Ok g c =
    pricing_fails (settling_with c.args.settling []) c.requires.found.found c.requires.goes_on refl c.args.offer c.requires.offer c.open-round.result.0 c.open-round.result.1 c.open-round.ensures.opening c.open-round.ensures.made c.den-den.ensures.limits
    c.put_pricing.ensures.prices (g.K.Sink.taken c.args.out.now) (g.K.Sink.taken c.put_pricing.new.out) c.in-Err-Failed.ensures.put

pub stop_limited-requires : goal.stop_limited-requires
stop_limited-requires g c =
    let is = subst (IsUnpriced (settling_with c.args.settling []) c.args.offer) c.in-Err-Limit.field-0-is c.in-Err-Limit.ensures.ended in
    limit_may (settling_with c.args.settling []) c.requires.found.found c.requires.goes_on refl c.args.offer c.requires.offer c.requires.running.0 c.in-Err-Limit.limit c.requires.running.1 is

pub returns-in-Err-Limit : goal.returns-in-Err-Limit
returns-in-Err-Limit g c =
    let is = subst (IsUnpriced (settling_with c.args.settling []) c.args.offer) c.in-Err-Limit.field-0-is c.in-Err-Limit.ensures.ended in
    ends_limited (settling_with c.args.settling []) c.requires.found.found c.requires.goes_on refl c.args.offer c.requires.offer c.in-Err-Limit.limit (g.K.Sink.taken c.args.out.now) (g.K.Sink.taken c.stop_limited.new.out) c.stop_limited.result
    is c.stop_limited.ensures

pub returns : goal.returns
returns g c = offered_without_memory (settling_with c.args.settling []) c.requires.found.found c.requires.goes_on refl c.args.offer c.requires.offer (g.K.Sink.taken c.args.out.now)
