use Rattle.std.proofs.Common.{◌≡◌, [], false, sym, subst}
use Rattle.ice_defs.specs.Session.{closes}
use Rattle.ice_price.specs.Ends.{IsPriced}
use Rattle.ice_round.specs.Held.{Held, settling_with}
use Rattle.ice_round.specs.Settling.{IsOfferOf, offered_trade}
use Rattle.ice_round.proofs.settling.Settling.open.Goals as goal

pub open-requires-clause-kept : goal.open-requires-clause-kept
open-requires-clause-kept c = c.self.invariant.session

pub open-requires-clause-goes_on : goal.open-requires-clause-goes_on
open-requires-clause-goes_on c = subst (λ (z : Held). closes z.session.exchange.settings z.session.number z.regret.amount ≡ false) (sym c.self.view_is) c.requires.goes_on

pub open-requires-clause-settlement : goal.open-requires-clause-settlement
open-requires-clause-settlement c = c.self.invariant.found.found.settlement

pub open-requires-clause-provisional : goal.open-requires-clause-provisional
open-requires-clause-provisional c = (subst (λ (z : Held). IsOfferOf (settling_with z []) c.args.offer) (sym c.self.view_is) c.requires.offer).found

pub open-requires-clause-pricing : goal.open-requires-clause-pricing
open-requires-clause-pricing c = subst (λ (z : Held). IsPriced (offered_trade (settling_with z []) c.args.offer) c.args.pricing) (sym c.self.view_is) c.requires.pricing

pub open-requires-clause-branches : goal.open-requires-clause-branches
open-requires-clause-branches c = (subst (λ (z : Held). IsOfferOf (settling_with z []) c.args.offer) (sym c.self.view_is) c.requires.offer).branches
