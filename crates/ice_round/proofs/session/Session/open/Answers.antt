use Rattle.std.proofs.Common.{◌∙◌, ap, refl, arith}
use Rattle.ice_trade.proofs.Weighted.{length-trees}
use Rattle.ice_verdicts.specs.Judges.{Round}
use Rattle.ice_round.specs.Kept.{session_at}
use Rattle.ice_round.proofs.Rounds.{offered_begins}
use Rattle.ice_round.proofs.GoingOn.{going_is, more_rounds}
use Rattle.ice_round.proofs.session.Session.open.Goals as goal

pub offer-requires-clause-satisfied : goal.offer-requires-clause-satisfied
offer-requires-clause-satisfied c = λ b h. c.requires.provisional.found.attained.feasible.satisfied b (omega (arith, h, length-trees c.args.self.exchange))

pub invariant_of-result : goal.invariant_of-result
invariant_of-result c =
    let s = c.args.self in
    record {
      round = c.price.ensures.round s.exchange c.offer.ensures.round;
      number = more_rounds s.exchange.settings s.number c.args.opening.now.regret.amount c.requires.goes_on c.requires.kept.number;
      branches = omega (arith, c.requires.branches, c.requires.kept.branches);
    }

pub returns : goal.returns
returns c =
    let s = c.args.self in
    let o = c.args.opening.now in
    let e = c.offer.ensures.sets in
    let d = c.price.ensures.prices in
    record {
      number = c.requires.number;
      goes_on = c.requires.goes_on;
      settlement = c.requires.settlement;
      provisional = c.requires.provisional;
      pricing = c.requires.pricing;
      going = going_is (session_at s) o c.requires.settlement c.requires.provisional c.requires.pricing;
      exchange = refl;
      same_number = refl;
      bounds = ap (λ (r : Round). r.bounds) d ∙ ap (λ (r : Round). r.bounds) e;
      sets = ap (λ (r : Round). r.sets) d ∙ ap (λ (r : Round). r.sets) e;
      prices = ap (λ (r : Round). r.prices) d;
      begins = offered_begins s.exchange s.judge c.offer.new.self c.price.new.self o.provisional.best o.pricing.prices c.requires.kept.fresh e d (c.price.ensures.round s.exchange c.offer.ensures.round);
      branches = c.requires.branches;
    }
