-- What a settlement gives, in the words of a session.
use Rattle.std.specs.Prelude.{ℕ, ℤ, List, [], ◌∷◌, map}
use Rattle.std.specs.Global.{Vec}
use Rattle.ice_defs.specs.Fraction.{Fraction}
use Rattle.ice_defs.specs.Exchange.{Exchange, names_of}
use Rattle.ice_defs.specs.Session.{Settlement, Payment, Closed, Going}
use Rattle.ice_defs.specs.Round.{Judged}
use Rattle.ice_search.specs.Results.{proved_found}
use Rattle.ice_search.specs.declared.results.Found.{Found}
use Rattle.ice_regret.specs.Regretted.{proved_rival}
use Rattle.ice_regret.specs.declared.lead.Regret.{Regret}
use Rattle.ice_vickrey.specs.Marginals.{proved_without}
use Rattle.ice_vickrey.specs.declared.marginal.Marginal.{Marginal}
use Rattle.ice_settled.specs.declared.settled.Closing.{Closing}
use Rattle.ice_settled.specs.declared.settled.Charged.{Charged}
use Rattle.ice_settled.specs.declared.settled.Opening.{Opening}

-- the final sets, their rival and the regret
abbrev pub settlement_of : Found → Regret → Settlement
settlement_of best regret = record { final = proved_found best; rival = proved_rival regret; regret = regret.amount }

-- the payments of the bidders in order, by their Vickrey discounts
abbrev pub payments_of : List (List ℕ) → List ℤ → List Fraction → List Fraction → List Payment
payments_of [] vs ds ps = []
payments_of (name ∷ names) [] ds ps = []
payments_of (name ∷ names) (v ∷ vs) [] ps = []
payments_of (name ∷ names) (v ∷ vs) (d ∷ ds) [] = []
payments_of (name ∷ names) (v ∷ vs) (d ∷ ds) (p ∷ ps) =
    record { name = name; vickrey = v; discount = d; payment = p } ∷ payments_of names vs ds ps

abbrev pub discounts_of : List Marginal → List ℤ
discounts_of ms = map (λ m. m.discount) ms

-- a settlement that closes
abbrev pub closed_of : Exchange → Closing → Closed
closed_of ex c = record {
  settlement = settlement_of c.best c.regret;
  withouts = map proved_without c.marginals.items;
  cut = c.payments.cut;
  surplus = c.payments.surplus;
  payments = payments_of (names_of ex) (discounts_of c.marginals.items) c.payments.discounts.items c.payments.payments.items;
}

-- what its bidders pay, without the groups
abbrev pub charges_of : Charged → List Payment
charges_of c = payments_of (names_of c.exchange) c.vickreys.items c.payments.discounts.items c.payments.payments.items

-- and the whole of it, with what the market is worth without each bidder
abbrev pub closing_with : Charged → Vec Marginal → Closing
closing_with c ms = record {
  exchange = c.exchange;
  bounds = c.bounds;
  number = c.number;
  best = c.best;
  regret = c.regret;
  marginals = ms;
  payments = c.payments;
}

-- a settlement that goes on, with the verdicts of its round
abbrev pub going_of : Opening → List Judged → Going
going_of o judged = record {
  settlement = settlement_of o.best o.regret;
  provisional = proved_found o.provisional;
  prices = o.pricing.prices;
  violation = o.pricing.delta;
  accuracy = o.pricing.accuracy;
  balance = o.pricing.balance;
  judged = judged;
}
