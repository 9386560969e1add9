-- What is known of the settlements that a writer of a session writes, and their records in either
-- version.
use Rattle.std.specs.Prelude.{ℕ, suc, ◌<◌, ◌≤◌, ◌≡◌, false, IsTrue, Bool, List, [], ◌∷◌, ◌++◌, length, map, slice_index_or, ℤ, pos, ◌-ℤ◌}
use Rattle.std.specs.Prelude.{◌*ℤ◌, ◌≤ℤ◌}
use Rattle.std.specs.List.{flat_map}
use Rattle.ice_defs.specs.Tree.{Tree}
use Rattle.ice_defs.specs.Set.{Weights, value}
use Rattle.ice_defs.specs.Trade.{Assignment, set_of, weights_of}
use Rattle.ice_defs.specs.declared.Group.TheVariants.{Provisional, Without}
use Rattle.ice_defs.specs.Bounds.{Bounds}
use Rattle.ice_defs.specs.Weighing.{lower_weights, weighted_weights}
use Rattle.ice_defs.specs.Prices.{Prices, price_of}
use Rattle.ice_defs.specs.Pricing.{IsViolation}
use Rattle.ice_defs.specs.Rows.{PassesAccuracy, PassesBalance, HasCommonDivisor}
use Rattle.ice_defs.specs.Round.{Judged, Standing, IsNextVerdict}
use Rattle.ice_defs.specs.Fraction.{Fraction}
use Rattle.ice_defs.specs.Exchange.{Exchange, trees_of, exact_of, names_of, opening_bounds}
use Rattle.ice_defs.specs.Lawful.{IsExchange}
use Rattle.ice_defs.specs.Session.{Proved, Going, Payment, Closed, Session, closes, standings}
use Rattle.ice_headline_laws.specs.Right.{bounds_after_round}
use Rattle.ice_journal.specs.Records.{Record, Version, session_kind, closed_end}
use Rattle.ice_journal.specs.Records as line
use Rattle.ice_section.specs.Described.{section_records}
use Rattle.ice_journal_laws.specs.Tests.{IsThresholdLine, IsPaymentLine}
use Rattle.ice_journal_laws.specs.Written.{row_record, judged_records, payment_record}
use Rattle.ice_journal_laws.specs.Showing.{group_records, regret_group_records, IsShown, IsShownSettlement}

-- ---- the closing

-- the groups without a bidder, from bidder b on
abbrev pub without_group_records : Version → ℕ → ℕ → List Proved → List Record
without_group_records version goods b [] = []
without_group_records version goods b (p ∷ later) = group_records version goods (line.without b p.value) p
    ++ without_group_records version goods (suc b) later

-- the records of the last settlement
abbrev pub closed_in : Version → ℕ → ℕ → Closed → List Record
closed_in version goods number c =
    line.settle number ∷ regret_group_records version goods c.settlement ++ without_group_records version goods 0 c.withouts
    ++ line.threshold c.cut c.surplus ∷ map payment_record c.payments ++ line.end closed_end ∷ []

-- each group without a bidder is shown, from bidder b on
abbrev pub AreShownWithout : List Tree → List Bool → List Weights → ℕ → List Proved → Type 0
AreShownWithout ts exact ws b [] = Unit {0}
AreShownWithout ts exact ws b (p ∷ later) = IsShown ts exact ws (Without b) p × AreShownWithout ts exact ws (suc b) later

-- the Vickrey discounts by these values without each bidder
abbrev pub vickreys_by : ℤ → List Proved → List ℤ
vickreys_by final withouts = map (λ without. final -ℤ without) (map (λ p. p.value) withouts)

-- the lower value of a bidder's set
abbrev pub worth_of : List Bounds → Assignment → ℕ → ℤ
worth_of bounds sets b = value (set_of sets b) (weights_of (lower_weights bounds) b)

-- each payment is its bidder's, from this one on
abbrev pub AreShownPayments : List (List ℕ) → List ℤ → (ℕ → ℤ) → Fraction → ℕ → List Payment → Type 0
AreShownPayments names vickreys worth cut b [] = Unit {0}
AreShownPayments names vickreys worth cut b (p ∷ later) =
    (p.name ≡ slice_index_or names b []) × IsPaymentLine (slice_index_or vickreys b (pos 0)) (worth b) cut p
    × AreShownPayments names vickreys worth cut (suc b) later

-- the last settlement is shown: its groups, and the cut, the surplus and the payments that follow
-- from their values
pub record IsShownClosed (ex : Exchange) (bounds : List Bounds) (c : Closed) : Type 0 where
  pub settlement : IsShownSettlement ex bounds c.settlement
  pub withouts_count : length c.withouts ≡ length (trees_of ex)
  pub withouts : AreShownWithout (trees_of ex) (exact_of ex) (lower_weights bounds) 0 c.withouts
  pub threshold : IsThresholdLine (vickreys_by c.settlement.final.value c.withouts) c.settlement.final.value
      (record { cut = c.cut; surplus = c.surplus })
  pub payments_count : length c.payments ≡ length (trees_of ex)
  pub payments : AreShownPayments (names_of ex) (vickreys_by c.settlement.final.value c.withouts)
      (worth_of bounds c.settlement.final.sets) c.cut 0 c.payments

-- ---- a settlement that goes on

-- the provisional group, and the prices with their certificates
abbrev pub opening_in : Version → ℕ → Going → List Record
opening_in version goods g =
    group_records version goods (line.provisional g.provisional.value) g.provisional
    ++ line.prices g.prices ∷ line.accuracy g.violation g.accuracy.den ∷ map row_record g.accuracy.rows
    ++ line.balance g.balance.den ∷ map row_record g.balance.rows

-- the records of a settlement that goes on
abbrev pub going_in : Version → ℕ → ℕ → Going → List Record
going_in version goods number g = line.settle number ∷ regret_group_records version goods g.settlement ++ opening_in version goods g
    ++ flat_map judged_records g.judged

-- prices within the cap, one per good and in lowest terms
pub record AreShownPrices (goods : ℕ) (cap : ℤ) (p : Prices) : Type 0 where
  pub count : length p.nums ≡ goods
  pub high : (g : ℕ) → g < goods → price_of p g ≤ℤ (cap *ℤ pos p.den)
  pub lowest : ¬ HasCommonDivisor p

-- the verdict on each submission, after earlier ones
abbrev pub AreShownVerdicts : Prices → ℤ → List Standing → List Judged → List Judged → Type 0
AreShownVerdicts p improve bidders earlier [] = Unit {0}
AreShownVerdicts p improve bidders earlier (j ∷ later) = IsNextVerdict p improve bidders earlier j.submission j.verdict
    × AreShownVerdicts p improve bidders (earlier ++ j ∷ []) later

-- the prices have this violation, and at most 200 rows each show that it is least and that the
-- greatest price is
pub record IsShownPricing (ts : List Tree) (ws : List Weights) (goods : ℕ) (cap : ℤ) (g : Going) : Type 0 where
  pub prices : AreShownPrices goods cap g.prices
  pub violation : IsViolation ts ws g.provisional.sets g.prices g.violation
  pub accuracy : PassesAccuracy ts ws g.provisional.sets goods cap g.prices g.violation g.accuracy
  pub accuracy_few : length g.accuracy.rows ≤ 200
  pub balance : PassesBalance ts ws g.provisional.sets goods g.prices g.violation g.balance
  pub balance_few : length g.balance.rows ≤ 200

-- a settlement that goes on is shown: its groups, its prices and its verdicts
pub record IsShownGoing (ex : Exchange) (bounds : List Bounds) (g : Going) : Type 0 where
  pub settlement : IsShownSettlement ex bounds g.settlement
  pub provisional : IsShown (trees_of ex) (exact_of ex) (weighted_weights ex.settings.weight bounds) Provisional g.provisional
  pub pricing : IsShownPricing (trees_of ex) (weighted_weights ex.settings.weight bounds) (length (exact_of ex)) ex.settings.cap g
  pub verdicts : AreShownVerdicts g.prices ex.settings.improve (standings ex bounds g.provisional.sets) [] g.judged

-- ---- a session

-- the records of the settlements from this number on
abbrev pub settlements_in : Version → ℕ → ℕ → List Going → Closed → List Record
settlements_in version goods number [] c = closed_in version goods number c
settlements_in version goods number (g ∷ later) c = going_in version goods number g ++ settlements_in version goods (suc number) later c

-- the records of a session
abbrev pub session_in : Version → Session → List Record
session_in version s = line.head version session_kind ∷ section_records s.exchange
    ++ settlements_in version (length (exact_of s.exchange)) 0 s.going s.closed

-- the settlements from this number and these bounds on: the close test fails but at the last one
abbrev pub AreShownFrom : Exchange → ℕ → List Bounds → List Going → Closed → Type 0
AreShownFrom ex number bounds [] c = IsTrue (closes ex.settings number c.settlement.regret) × IsShownClosed ex bounds c
AreShownFrom ex number bounds (g ∷ later) c =
    (closes ex.settings number g.settlement.regret ≡ false) × IsShownGoing ex bounds g
    × AreShownFrom ex (suc number) (bounds_after_round ex bounds g) later c

-- the exchange is lawful, and each settlement is shown
pub record IsShownSession (s : Session) : Type 0 where
  pub exchange : IsExchange s.exchange
  pub settlements : AreShownFrom s.exchange 0 (opening_bounds s.exchange) s.going s.closed

-- ---- settlements that go on, and no last one

-- the records of settlements that go on, from this number on
abbrev pub goings_in : Version → ℕ → ℕ → List Going → List Record
goings_in version goods number [] = []
goings_in version goods number (g ∷ later) = going_in version goods number g ++ goings_in version goods (suc number) later

-- the settlements from this number and these bounds on: the close test fails at each
abbrev pub AreShownGoing : Exchange → ℕ → List Bounds → List Going → Type 0
AreShownGoing ex number bounds [] = Unit {0}
AreShownGoing ex number bounds (g ∷ later) =
    (closes ex.settings number g.settlement.regret ≡ false) × IsShownGoing ex bounds g
    × AreShownGoing ex (suc number) (bounds_after_round ex bounds g) later

-- the last of these settlements
abbrev pub last_going : Going → List Going → Going
last_going g [] = g
last_going g (other ∷ later) = last_going other later
