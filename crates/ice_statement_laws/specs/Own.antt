-- What a statement says of one bidder, as a structure;
-- when that is right; and the lines that say it.
use Rattle.std.specs.Prelude.{ℕ, suc, ◌<◌, ◌≡◌, true, false, List, [], ◌∷◌, ◌++◌, map, length, ℤ, pos, ◌*ℤ◌, ◌≤ℤ◌}
use Rattle.std.specs.List.{flat_map, AllByRecursion}
use Rattle.ice_defs.specs.Set.{NodeSet, IsSatisfied, value}
use Rattle.ice_defs.specs.Bounds.{Bounds}
use Rattle.ice_defs.specs.Prices.{Prices, price_of}
use Rattle.ice_defs.specs.Rows.{HasCommonDivisor}
use Rattle.ice_defs.specs.Round.{Judged, JudgesInOrder, bounds_after}
use Rattle.ice_defs.specs.Fraction.{Fraction, whole_number, AtMost, Equals, minus}
use Rattle.ice_defs.specs.Cut.{discount_at_cut}
use Rattle.ice_defs.specs.Vickrey.{IsEmpty}
use Rattle.ice_defs.specs.Exchange.{Settings, Good, Bidder, Exchange}
use Rattle.ice_defs.specs.Lawful.{IsExchange}
use Rattle.ice_defs.specs.Session.{Payment, closes}
use Rattle.ice_journal.specs.Records as line
use Rattle.ice_section.specs.Described.{section_records}
use Rattle.ice_journal_laws.specs.Written.{payment_record, judged_records}
use Rattle.ice_statement_laws.specs.Statement.{StatementLine, named, shown, kept, offered, ended}

-- a settlement that goes on: its regret, the bidder's final and provisional
-- sets, the prices, and its submissions with their verdicts
pub record OwnStep : Type 0 where
  pub regret : ℤ
  pub kept : NodeSet
  pub offered : NodeSet
  pub prices : Prices
  pub judged : List Judged

-- the last settlement
pub record OwnClosed : Type 0 where
  pub regret : ℤ
  pub kept : NodeSet
  pub cut : Fraction
  pub surplus : Fraction
  pub payment : Payment

pub record OwnSession : Type 0 where
  pub settings : Settings
  pub goods : List Good
  pub bidder : Bidder
  pub going : List OwnStep
  pub closed : OwnClosed

-- the exchange with this bidder alone
abbrev pub own_exchange : OwnSession → Exchange
own_exchange x = record { settings = x.settings; goods = x.goods; bidders = x.bidder ∷ [] }

-- ---- the lines

-- behind the number of a settlement
abbrev pub closed_lines : OwnClosed → List StatementLine
closed_lines c =
    shown (line.regret c.regret) ∷ kept c.kept ∷ shown (line.threshold c.cut c.surplus) ∷ shown (payment_record c.payment) ∷ ended ∷ []

abbrev pub step_lines : OwnStep → List StatementLine
step_lines g = shown (line.regret g.regret) ∷ kept g.kept ∷ offered g.offered ∷ shown (line.prices g.prices)
    ∷ map shown (flat_map judged_records g.judged)

-- from the settlement with this number on
abbrev pub lines_from : ℕ → List OwnStep → OwnClosed → List StatementLine
lines_from number [] c = shown (line.settle number) ∷ closed_lines c
lines_from number (g ∷ later) c = shown (line.settle number) ∷ step_lines g ++ lines_from (suc number) later c

abbrev pub own_lines : OwnSession → List StatementLine
own_lines x = named x.bidder.name ∷ map shown (section_records (own_exchange x)) ++ lines_from 0 x.going x.closed

-- ---- when they are right

-- one price per good, at most the cap, in lowest terms
pub record AreOwnPrices (goods : ℕ) (cap : ℤ) (p : Prices) : Type 0 where
  pub count : length p.nums ≡ goods
  pub high : (g : ℕ) → g < goods → price_of p g ≤ℤ (cap *ℤ pos p.den)
  pub lowest : ¬ HasCommonDivisor p

module _ (settings : Settings) (goods : ℕ) (bidder : Bidder) where
  pub record IsOwnStep (bounds : Bounds) (g : OwnStep) : Type 0 where
    pub kept : IsSatisfied bidder.tree g.kept
    pub offered : IsSatisfied bidder.tree g.offered
    pub prices : AreOwnPrices goods settings.cap g.prices
    pub names : AllByRecursion (λ j. j.submission.name ≡ bidder.name) g.judged
    pub round : JudgesInOrder g.prices settings.improve
        (record { name = bidder.name; tree = bidder.tree; bounds = bounds; set = g.offered }) false g.judged

  -- neither the cut nor the surplus is below 0, a bidder with an empty set has no Vickrey
  -- discount, and it pays the lower value of its set less the discount that the cut leaves
  pub record IsOwnClosed (bounds : Bounds) (c : OwnClosed) : Type 0 where
    pub kept : IsSatisfied bidder.tree c.kept
    pub cut : AtMost (whole_number (pos 0)) c.cut
    pub surplus : AtMost (whole_number (pos 0)) c.surplus
    pub name : c.payment.name ≡ bidder.name
    pub vickrey : IsEmpty c.kept → c.payment.vickrey ≡ pos 0
    pub discount : Equals c.payment.discount (discount_at_cut c.cut c.payment.vickrey)
    pub payment : Equals c.payment.payment (minus (whole_number (value c.kept bounds.lo)) c.payment.discount)

  -- from the settlement with this number and these bounds
  -- on: the close test fails but at the last one
  abbrev pub IsOwnFrom : ℕ → Bounds → List OwnStep → OwnClosed → Type 0
  IsOwnFrom number bounds [] c = (closes settings number c.regret ≡ true) × IsOwnClosed bounds c
  IsOwnFrom number bounds (g ∷ later) c = (closes settings number g.regret ≡ false) × IsOwnStep bounds g
      × IsOwnFrom (suc number) (bounds_after bounds g.judged) later c

pub record IsRightOwn (x : OwnSession) : Type 0 where
  pub exchange : IsExchange (own_exchange x)
  pub settlements : IsOwnFrom x.settings (length x.goods) x.bidder 0 x.bidder.bounds x.going x.closed
