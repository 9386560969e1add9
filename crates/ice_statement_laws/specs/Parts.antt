-- The part of a session that is one bidder's; what of a session its
-- being right doesn't say, and its journal's tests do.
use Rattle.std.specs.Prelude.{ℕ, List, map}
use Rattle.std.specs.List.{AllByRecursion}
use Rattle.ice_defs.specs.Rows.{HasCommonDivisor}
use Rattle.ice_defs.specs.Fraction.{Equals}
use Rattle.ice_defs.specs.Cut.{discount_at_cut}
use Rattle.ice_defs.specs.Session.{Going, Session}
use Rattle.ice_statement_laws.specs.Statement.{Own, own_going}
use Rattle.ice_statement_laws.specs.Own.{OwnStep, OwnSession}

-- a settlement as one bidder sees it
abbrev pub step_of : ℕ → List ℕ → Going → OwnStep
step_of b name g = record {
  regret = g.settlement.regret;
  kept = (own_going b name g).kept;
  offered = (own_going b name g).offered;
  prices = g.prices;
  judged = (own_going b name g).judged;
}

-- a session as one bidder sees it
abbrev pub part_of : Session → ℕ → Own → OwnSession
part_of x b own = record {
  settings = x.exchange.settings;
  goods = x.exchange.goods;
  bidder = own.bidder;
  going = map (step_of b own.bidder.name) x.going;
  closed = record {
    regret = x.closed.settlement.regret;
    kept = own.kept;
    cut = x.closed.cut;
    surplus = x.closed.surplus;
    payment = own.payment;
  };
}

-- all prices are in lowest terms, and each discount is what the cut leaves
pub record IsStated (x : Session) : Type 0 where
  pub prices : AllByRecursion (λ g. ¬ HasCommonDivisor g.prices) x.going
  pub discounts : AllByRecursion (λ p. Equals p.discount (discount_at_cut x.closed.cut p.vickrey)) x.closed.payments
