-- What the records of a session say so far, where each test of them passes.
use Rattle.std.proofs.Common.{◌≡◌, ◌<◌, ℕ, Bool, true, false, List, [], ◌∷◌, ◌++◌, length, map, ℤ}
use Rattle.std.specs.Prelude.{Ok, zip}
use Rattle.std.specs.List.{AllByRecursion}
use Rattle.ice_defs.specs.Sum.{numbers_below}
use Rattle.ice_defs.specs.Trade.{Assignment}
use Rattle.ice_defs.specs.Bounds.{Bounds}
use Rattle.ice_defs.specs.Steps.{Step}
use Rattle.ice_defs.specs.Weighing.{lower_weights, weighted_weights}
use Rattle.ice_defs.specs.Vickrey.{IsBestWithout}
use Rattle.ice_defs.specs.Prices.{Prices, ArePrices}
use Rattle.ice_defs.specs.Pricing.{IsViolation}
use Rattle.ice_defs.specs.Rows.{Certificate}
use Rattle.ice_defs.specs.Round.{Judged}
use Rattle.ice_defs.specs.Fraction.{Fraction, IsFraction}
use Rattle.ice_defs.specs.Exchange.{Exchange, trees_of, exact_of, names_of}
use Rattle.ice_defs.specs.declared.Group.TheVariants.{Final, Rival, Provisional, Without}
use Rattle.ice_defs.specs.Session.{Proved, Settlement, Going, Payment, Closed, closes}
use Rattle.ice_headline_laws.specs.Right.{IsBestFound, IsGoing, IsClosed, payments_of}
use Rattle.ice_journal_laws.specs.Theorems.{ArePaidByCut}
use Rattle.ice_journal.specs.Records.{Record, Version, session_kind, closed_end}
use Rattle.ice_journal.specs.Records as line
use Rattle.ice_section.specs.Section.{no_section}
use Rattle.ice_section.specs.Taking.{take_records}
use Rattle.ice_journal_laws.specs.State.{Stated, Place, at_section, at_group, at_sets, at_log, at_regret, at_prices, at_accuracy, at_accuracy_rows, at_balance_rows, at_round, at_verdict, at_threshold, at_payment, at_end, done, State, exchange_at, settings_at, trees_at, goods_at}
use Rattle.ice_journal_laws.specs.Next.{bidder_count}
use Rattle.ice_journal_laws.specs.Tests.{offered_weights, AccuracyHolds, BalanceHolds, vickreys, final_worth, IsThresholdLine}
use Rattle.ice_journal_laws.specs.Written.{proved_records, regret_records, row_record, going_records, without_records, payment_record, closed_records}
use Rattle.ice_journal_laws.specs.Stops.{all_going_records}
use Rattle.ice_journal_laws.proofs.Grouping.{Tells, InSets, InLog}
use Rattle.ice_journal_laws.proofs.Regretting.{AreSettled, final_text, IsFinal, IsRival}
use Rattle.ice_journal_laws.proofs.Past.{IsPast}
use Rattle.ice_journal_laws.proofs.Pricing.{IsTested}
use Rattle.ice_journal_laws.proofs.Closing.{ArePaid}

-- ---- what is known at a place, by the fields of its state

-- the settlements before this one, of which no round and no value without a bidder is left
pub record IsOpened (ex : Exchange) (number : ℕ) (bounds : List Bounds) (judged : List Judged) (withouts : List ℤ) (past : List Going) : Type 0 where
  pub earlier : IsPast ex number bounds past
  pub unjudged : judged ≡ []
  pub complete : withouts ≡ []

-- the two groups of a settlement and its regret, and whether it closes
pub record HasSettled (ex : Exchange) (number : ℕ) (bounds : List Bounds) (final : Stated) (regret : ℤ) (ends : Bool) (x : Settlement) : Type 0 where
  pub settled : AreSettled ex bounds x
  pub regret_is : x.regret ≡ regret
  pub value_is : x.final.value ≡ final.value
  pub sets_are : x.final.sets ≡ final.sets
  pub test : closes ex.settings number x.regret ≡ ends

-- the provisional group
pub record IsOffered (ex : Exchange) (bounds : List Bounds) (offered : Assignment) (p : Proved) : Type 0 where
  pub best : IsBestFound ex bounds (weighted_weights ex.settings.weight bounds) p
  pub sets_are : p.sets ≡ offered

-- a settlement that goes on, with the verdicts of its round so far
pub record HasGone (ex : Exchange) (number : ℕ) (bounds : List Bounds) (offered : Assignment) (prices : Prices) (judged : List Judged) (g : Going) : Type 0 where
  pub going : IsGoing ex bounds g
  pub test : closes ex.settings number g.settlement.regret ≡ false
  pub sets_are : g.provisional.sets ≡ offered
  pub prices_are : g.prices ≡ prices
  pub judged_are : g.judged ≡ judged

-- the groups without the first bidders
pub record AreWithout (ex : Exchange) (bounds : List Bounds) (withouts : List ℤ) (bidder : ℕ) (ps : List Proved) : Type 0 where
  pub count : length ps ≡ bidder
  pub values : map (λ p. p.value) ps ≡ withouts
  pub best : AllByRecursion (λ p. IsBestWithout (trees_of ex) (exact_of ex) (lower_weights bounds) p.0 (p.1).value) (zip (numbers_below (length ps)) ps)

-- a closed settlement, with the end's final sets, regret, cut and surplus
pub record HasEnded (ex : Exchange) (number : ℕ) (bounds : List Bounds) (final : Assignment) (regret : ℤ) (cut surplus : Fraction) (c : Closed) : Type 0 where
  pub closed : IsClosed ex bounds c
  pub test : closes ex.settings number c.settlement.regret ≡ true
  pub regret_is : c.settlement.regret ≡ regret
  pub surplus_is : c.surplus ≡ surplus
  pub sets_are : c.settlement.final.sets ≡ final
  pub cut_is : c.cut ≡ cut
  pub paid : ArePaidByCut c.cut (payments_of c)

-- the same by the state
abbrev pub Opened : State → List Going → Type 0
Opened s past = IsOpened (exchange_at s) s.number s.bounds s.judged s.withouts past

abbrev pub Past : State → List Going → Type 0
Past s past = IsPast (exchange_at s) s.number s.bounds past

abbrev pub Settled : State → Bool → Settlement → Type 0
Settled s ends x = HasSettled (exchange_at s) s.number s.bounds s.final s.regret ends x

abbrev pub Offered : State → Proved → Type 0
Offered s p = IsOffered (exchange_at s) s.bounds s.offered p

abbrev pub Gone : State → Going → Type 0
Gone s g = HasGone (exchange_at s) s.number s.bounds s.offered s.prices s.judged g

abbrev pub WithoutEach : State → ℕ → List Proved → Type 0
WithoutEach s bidder ps = AreWithout (exchange_at s) s.bounds s.withouts bidder ps

abbrev pub Ended : State → Closed → Type 0
Ended s c = HasEnded (exchange_at s) s.number s.bounds s.final.sets s.regret s.cut s.surplus c

abbrev pub Priced : State → Type 0
Priced s = ArePrices (goods_at s) (settings_at s).cap s.prices

abbrev pub Violated : State → Type 0
Violated s = IsViolation (trees_at s) (offered_weights s) s.offered s.prices s.violation

-- ---- what is written, with each record behind what is before it

-- the settlements before this one, and its number
abbrev pub open_text : State → List Going → List Record
open_text s past = all_going_records 0 past ++ line.settle s.number ∷ []

abbrev pub final_so_far : State → List Going → List Step → List Record
final_so_far s past log = open_text s past ++ final_text s log

abbrev pub settled_text : State → List Going → Settlement → List Record
settled_text s past x =
    ((open_text s past ++ proved_records (line.final x.final.value) x.final) ++ proved_records (line.rival x.rival.value) x.rival) ++ line.regret x.regret ∷ []

abbrev pub offered_text : State → List Going → Settlement → Proved → List Record
offered_text s past x p = settled_text s past x ++ proved_records (line.provisional p.value) p

abbrev pub priced_text : State → List Going → Settlement → Proved → List Record
priced_text s past x p = offered_text s past x p ++ line.prices s.prices ∷ []

abbrev pub accuracy_text : State → List Going → Settlement → Proved → Certificate → List Record
accuracy_text s past x p c = priced_text s past x p ++ line.accuracy s.violation c.den ∷ map row_record c.rows

abbrev pub balance_text : State → List Going → Settlement → Proved → Certificate → Certificate → List Record
balance_text s past x p a c = accuracy_text s past x p a ++ line.balance c.den ∷ map row_record c.rows

abbrev pub round_text : State → List Going → Going → List Record
round_text s past g = all_going_records 0 past ++ going_records s.number g

abbrev pub without_text : State → List Going → Settlement → List Proved → List Record
without_text s past x ps = settled_text s past x ++ without_records 0 ps

abbrev pub payment_text : State → List Going → Settlement → List Proved → List Payment → List Record
payment_text s past x ps payments = without_text s past x ps ++ line.threshold s.cut s.surplus ∷ map payment_record payments

-- a closed settlement but for the record of its end
abbrev pub unended_records : ℕ → Closed → List Record
unended_records number c =
    line.settle number ∷ regret_records c.settlement ++ without_records 0 c.withouts ++ line.threshold c.cut c.surplus ∷ map payment_record c.payments

-- ---- what the records after the head say, where this place is next

abbrev pub IsAt : List Record → State → Place → Type 0
IsAt before s at_section = (take_records no_section before ≡ Ok s.section) × (s.number ≡ 0) × (s.judged ≡ []) × (s.withouts ≡ [])
-- the final group
IsAt before s (at_group Final) = (past : List Going) × Opened s past × Tells before s (open_text s past)
IsAt before s (at_sets Final found) = (past : List Going) × Opened s past × InSets before s (open_text s past) Final found
IsAt before s (at_log Final found (side ∷ sides) m) = (past : List Going) × Opened s past × InLog before s (open_text s past) Final found (side ∷ sides) m
-- the rival group and the regret
IsAt before s (at_group Rival) = (past : List Going) × (log : List Step) × Opened s past × IsFinal s log × Tells before s (final_so_far s past log)
IsAt before s (at_sets Rival found) =
    (past : List Going) × (log : List Step) × Opened s past × IsFinal s log × InSets before s (final_so_far s past log) Rival found
IsAt before s (at_log Rival found (side ∷ sides) m) =
    (past : List Going) × (log : List Step) × Opened s past × IsFinal s log × InLog before s (final_so_far s past log) Rival found (side ∷ sides) m
IsAt before s at_regret =
    (past : List Going) × (log : List Step) × (rival : Proved) × Opened s past × IsFinal s log × IsRival s rival × (rival.value ≡ s.rival)
    × Tells before s (final_so_far s past log ++ proved_records (line.rival rival.value) rival)
-- the provisional group
IsAt before s (at_group Provisional) = (past : List Going) × (x : Settlement) × Opened s past × Settled s false x × Tells before s (settled_text s past x)
IsAt before s (at_sets Provisional found) =
    (past : List Going) × (x : Settlement) × Opened s past × Settled s false x × InSets before s (settled_text s past x) Provisional found
IsAt before s (at_log Provisional found (side ∷ sides) m) =
    (past : List Going) × (x : Settlement) × Opened s past × Settled s false x × InLog before s (settled_text s past x) Provisional found (side ∷ sides) m
-- the prices and their rows
IsAt before s at_prices =
    (past : List Going) × (x : Settlement) × (p : Proved) × Opened s past × Settled s false x × Offered s p × Tells before s (offered_text s past x p)
IsAt before s at_accuracy =
    (past : List Going) × (x : Settlement) × (p : Proved) × Opened s past × Settled s false x × Offered s p × Priced s × Tells before s (priced_text s past x p)
IsAt before s (at_accuracy_rows den rows) =
    (past : List Going) × (x : Settlement) × (p : Proved) × Opened s past × Settled s false x × Offered s p × Priced s × Violated s
    × IsTested (AccuracyHolds s den) rows × Tells before s (accuracy_text s past x p (record { den = den; rows = rows }))
IsAt before s (at_balance_rows den rows) =
    (past : List Going) × (x : Settlement) × (p : Proved) × (a : Certificate) × Opened s past × Settled s false x × Offered s p × Priced s × Violated s
    × AccuracyHolds s a.den a.rows × IsTested (BalanceHolds s den) rows × Tells before s (balance_text s past x p a (record { den = den; rows = rows }))
-- the round
IsAt before s at_round = (past : List Going) × (g : Going) × Past s past × Gone s g × Tells before s (round_text s past g)
IsAt before s (at_verdict x) = (past : List Going) × (g : Going) × Past s past × Gone s g × Tells before s (round_text s past g ++ line.submit x ∷ [])
-- the groups without a bidder
IsAt before s (at_group (Without b)) =
    (past : List Going) × (x : Settlement) × (ps : List Proved) × Past s past × Settled s true x × WithoutEach s b ps × (b < bidder_count s) × Tells before s (without_text s past x ps)
IsAt before s (at_sets (Without b) found) =
    (past : List Going) × (x : Settlement) × (ps : List Proved) × Past s past × Settled s true x × WithoutEach s b ps × (b < bidder_count s)
    × InSets before s (without_text s past x ps) (Without b) found
IsAt before s (at_log (Without b) found (side ∷ sides) m) =
    (past : List Going) × (x : Settlement) × (ps : List Proved) × Past s past × Settled s true x × WithoutEach s b ps × (b < bidder_count s)
    × InLog before s (without_text s past x ps) (Without b) found (side ∷ sides) m
-- the threshold and the payments
IsAt before s at_threshold =
    (past : List Going) × (x : Settlement) × (ps : List Proved) × Past s past × Settled s true x × WithoutEach s (bidder_count s) ps × Tells before s (without_text s past x ps)
IsAt before s (at_payment b) =
    (past : List Going) × (x : Settlement) × (ps : List Proved) × (payments : List Payment) × Past s past × Settled s true x × WithoutEach s (bidder_count s) ps
    × IsThresholdLine (vickreys s) s.final.value (record { cut = s.cut; surplus = s.surplus }) × IsFraction s.cut × IsFraction s.surplus
    × (length payments ≡ b) × (b < bidder_count s) × ArePaid (names_of (exchange_at s)) (vickreys s) (final_worth s) s.cut payments
    × Tells before s (payment_text s past x ps payments)
-- the end
IsAt before s (at_end closed_end) = (past : List Going) × (c : Closed) × Past s past × Ended s c × Tells before s (all_going_records 0 past ++ unended_records s.number c)
IsAt before s done = (past : List Going) × (c : Closed) × Past s past × Ended s c × Tells before s (all_going_records 0 past ++ closed_records s.number c)
IsAt before s place = ⊥

pub record IsStanding (version : Version) (before : List Record) (s : State) : Type 0 where
  pub same_version : s.version ≡ version
  pub kind : s.kind ≡ session_kind
  pub place : IsAt before s s.place
