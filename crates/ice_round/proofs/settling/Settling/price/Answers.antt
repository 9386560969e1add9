use Rattle.std.proofs.Common.{List, [], refl, subst}
use Rattle.std.proofs.lemmas.Result.{MatchResult-weaker}
use Rattle.ice_defs.specs.Bounds.{Bounds}
use Rattle.ice_defs.specs.Weighing.{weighted_weights}
use Rattle.ice_pricing.specs.Provisional.{provisional_of}
use Rattle.ice_price.specs.Ends.{IsPriceEnd}
use Rattle.ice_round.specs.Held.{Held, settling_with}
use Rattle.ice_round.specs.Settling.{offered_trade}
use Rattle.ice_round.proofs.Halting.{unpriced}
use Rattle.ice_round.proofs.settling.Settling.price.Goals as goal

pub returns-clause-ended : goal.returns-clause-ended
returns-clause-ended c =
    let y = c.self.inside in
    let o = c.args.offer.now in
    let w = y.session.exchange.settings.weight in
    MatchResult-weaker c.price.result c.price.ensures.ended (λ p h. tt)
    (λ e h. unpriced (settling_with c.args.self.now []) o e c.requires.goes_on refl c.requires.fresh.found c.requires.offer
    (subst (λ (z : Held). IsPriceEnd (offered_trade (settling_with z []) o) e) c.self.view_is
    (subst (λ (bs : List Bounds). IsPriceEnd (provisional_of y.session.exchange (weighted_weights w bs) o.provisional.best) e) c.bounds.ensures h)))
