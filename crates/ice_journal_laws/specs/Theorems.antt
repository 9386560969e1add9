-- Why a checked journal may be trusted: the theorems of the checker, as statements.
use Rattle.std.specs.Prelude.{ℕ, ◌<◌, ◌≡◌, List, ◌∷◌, length, ℤ}
use Rattle.std.specs.List.{AllByRecursion}
use Rattle.ice_defs.specs.Trade.{IsFeasible, total_value}
use Rattle.ice_defs.specs.Weighing.{lower_weights}
use Rattle.ice_defs.specs.Fraction.{Fraction, whole_number, Equals, minus, fraction_at}
use Rattle.ice_defs.specs.Cut.{discount_at_cut}
use Rattle.ice_defs.specs.Exchange.{trees_of, exact_of, opening_bounds}
use Rattle.ice_defs.specs.Lawful.{IsExchange}
use Rattle.ice_defs.specs.Session.{Assigned, Regretted, Session}
use Rattle.ice_headline_laws.specs.Right.{IsSettled, IsRight, final_bounds, payments_of}
use Rattle.ice_headline_laws.specs.Headline.{Headline}
use Rattle.ice_journal.specs.Records.{Record, Kind, assign_kind, regret_kind, session_kind}
use Rattle.ice_journal.specs.Records as line
use Rattle.ice_journal.specs.Ranges.{IsRecord}
use Rattle.ice_journal.specs.Plain.{plain}
use Rattle.ice_journal_laws.specs.State.{done, State, exchange_at}
use Rattle.ice_journal_laws.specs.Checks.{Checks}
use Rattle.ice_journal_laws.specs.Progress.{nothing, passing, Leads}
use Rattle.ice_journal_laws.specs.Written.{assigned_records, regretted_records, session_records}

-- the journal says what these records of version 1 say: where logs stand it has the same steps, and
-- else the same records; version 2 writes a leaf by its changes, and the step that they make is
-- what it says
abbrev pub Says : List Record → List Record → Type 0
Says journal written = plain journal ≡ written

-- the journal begins with a head of this kind
abbrev pub HasKind : Kind → List Record → Type 0
HasKind kind (line.head version other ∷ rest) = other ≡ kind
HasKind kind other = ⊥

-- a right regret journal states the best value at lower values, and the exact regret of its sets
pub record IsRightRegret (r : Regretted) : Type 0 where
  pub exchange : IsExchange r.exchange
  pub settled : IsSettled r.exchange (opening_bounds r.exchange) r.settlement

-- a right assign journal states a feasible assignment of a lawful exchange
pub record IsRightAssigned (a : Assigned) : Type 0 where
  pub exchange : IsExchange a.exchange
  pub feasible : IsFeasible (trees_of a.exchange) (exact_of a.exchange) a.sets

-- the exchange and the sets that an assign journal states, by the state at its end
abbrev pub assigned_at : State → Assigned
assigned_at s = record { exchange = exchange_at s; sets = s.final.sets }

-- the journal states the exchange and the sets of the state at its end, and they are right
pub record AreAssigned (journal : List Record) (s : State) : Type 0 where
  pub says : Says journal (assigned_records (assigned_at s))
  pub right : IsRightAssigned (assigned_at s)
  pub bounds : s.bounds ≡ opening_bounds (exchange_at s)

-- an assign journal whose records lead to its end states the exchange and the sets of the state
-- there
abbrev pub DoneIsAssigned : Type 0
DoneIsAssigned = (journal : List Record) (s : State) → AllByRecursion IsRecord journal → Leads nothing journal (passing s) → s.place ≡ done
    → s.kind ≡ assign_kind → AreAssigned journal s

-- an assign journal that passes every test states a feasible assignment
abbrev pub ChecksGiveAssigned : Type 0
ChecksGiveAssigned = (journal : List Record) → HasKind assign_kind journal → AllByRecursion IsRecord journal → Checks journal
    → (a : Assigned) × Says journal (assigned_records a) × IsRightAssigned a

-- the journal states a right settlement of the exchange of the state at its end, with the regret
-- there
pub record IsRegrettedAt (journal : List Record) (s : State) (r : Regretted) : Type 0 where
  pub says : Says journal (regretted_records r)
  pub right : IsRightRegret r
  pub exchange : r.exchange ≡ exchange_at s
  pub regret : r.settlement.regret ≡ s.regret

-- the journal states some right settlement, with what the state at its end has of it
abbrev pub AreRegretted : List Record → State → Type 0
AreRegretted journal s = (r : Regretted) × IsRegrettedAt journal s r

-- a regret journal whose records lead to its end states a right settlement, with what the state
-- there has of it
abbrev pub DoneIsRegretted : Type 0
DoneIsRegretted = (journal : List Record) (s : State) → AllByRecursion IsRecord journal → Leads nothing journal (passing s) → s.place ≡ done
    → s.kind ≡ regret_kind → AreRegretted journal s

-- a regret journal that passes every test states a right settlement
abbrev pub ChecksGiveRegret : Type 0
ChecksGiveRegret = (journal : List Record) → HasKind regret_kind journal → AllByRecursion IsRecord journal → Checks journal
    → (r : Regretted) × Says journal (regretted_records r) × IsRightRegret r

-- each payment is a whole number less a discount, which the cut leaves of another whole number
abbrev pub ArePaidByCut : Fraction → List Fraction → Type 0
ArePaidByCut cut payments = (i : ℕ) → i < length payments
    → (worth vickrey : ℤ) × Equals (fraction_at payments i) (minus (whole_number worth) (discount_at_cut cut vickrey))

-- the journal states a right session, with the exchange, regret, surplus, bounds, final sets and
-- cut of the state at its end
pub record IsSessionAt (journal : List Record) (s : State) (x : Session) : Type 0 where
  pub says : Says journal (session_records x)
  pub right : IsRight x
  pub exchange : x.exchange ≡ exchange_at s
  pub regret : x.closed.settlement.regret ≡ s.regret
  pub surplus : x.closed.surplus ≡ s.surplus
  pub bounds : final_bounds x ≡ s.bounds
  pub final : x.closed.settlement.final.sets ≡ s.final.sets
  pub cut : x.closed.cut ≡ s.cut
  pub paid : ArePaidByCut x.closed.cut (payments_of x.closed)

-- the journal states some right session, with what the state at its end has of it
abbrev pub IsSession : List Record → State → Type 0
IsSession journal s = (x : Session) × IsSessionAt journal s x

-- a session whose records lead to its end states a right session, with what the state there has of
-- it
abbrev pub DoneIsRight : Type 0
DoneIsRight = (journal : List Record) (s : State) → AllByRecursion IsRecord journal → Leads nothing journal (passing s) → s.place ≡ done
    → s.kind ≡ session_kind → IsSession journal s

-- a session that passes every test is a right one
abbrev pub ChecksGiveRight : Type 0
ChecksGiveRight = (journal : List Record) → HasKind session_kind journal → AllByRecursion IsRecord journal → Checks journal
    → (s : Session) × Says journal (session_records s) × IsRight s

-- the numbers of a yes
pub data Yes : Type 0 where
  of_assigned : (value : ℤ) → Yes
  of_regret : (amount : ℤ) → Yes
  of_session : (regret : ℤ) → (surplus : Fraction) → Yes

-- the checker's yes to a journal, and what it says
abbrev pub IsYes : List Record → Yes → Type 0
IsYes journal (of_assigned value) = (a : Assigned) × Says journal (assigned_records a) × IsRightAssigned a
    × (value ≡ total_value a.sets (lower_weights (opening_bounds a.exchange)))
IsYes journal (of_regret amount) = (r : Regretted) × Says journal (regretted_records r) × IsRightRegret r × (amount ≡ r.settlement.regret)
IsYes journal (of_session regret surplus) = (s : Session) × Says journal (session_records s) × IsRight s × Headline s
    × (regret ≡ s.closed.settlement.regret) × (surplus ≡ s.closed.surplus)

-- to a session whose records lead to its end the checker may say yes, with the regret and the
-- surplus of the state there
abbrev pub SessionIsYes : Type 0
SessionIsYes = (journal : List Record) (s : State) → AllByRecursion IsRecord journal → Leads nothing journal (passing s) → s.place ≡ done
    → s.kind ≡ session_kind → IsYes journal (of_session s.regret s.surplus)
