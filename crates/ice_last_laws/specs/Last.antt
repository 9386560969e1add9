-- The last settlement of a closed session, at low bounds, and what its journal says of it.
use Rattle.std.specs.Prelude.{◌≡◌, List, [], ◌∷◌, ◌++◌, length, map}
use Rattle.std.specs.List.{AllByRecursion}
use Rattle.ice_defs.specs.Fraction.{Fraction}
use Rattle.ice_defs.specs.Exchange.{trees_of}
use Rattle.ice_defs.specs.Session.{Payment, Session}
use Rattle.ice_headline_laws.specs.Right.{IsRight, final_bounds, payments_of}
use Rattle.ice_journal.specs.Records.{Record, session_kind}
use Rattle.ice_journal.specs.Records as line
use Rattle.ice_journal.specs.Ranges.{IsRecord, IsFractionField}
use Rattle.ice_journal_laws.specs.State.{done, State, exchange_at}
use Rattle.ice_journal_laws.specs.Progress.{nothing, passing, Leads}
use Rattle.ice_journal_laws.specs.Theorems.{Says}
use Rattle.ice_journal_laws.specs.Written.{session_records}
use Rattle.ice_fair_laws.specs.Fair.{PaidTrade}
pub use Rattle.ice_fair_laws.specs.Fair.{paid_of}
use Rattle.ice_fair_laws.specs.Laws.{IsPaidTrade}
use Rattle.ice_fair_laws.specs.Run.{IsCutDen}

-- the last settlement of a session
abbrev pub last_of : Session → PaidTrade
last_of x = paid_of x.exchange (final_bounds x) x.closed.settlement.final.sets (payments_of x.closed)

-- ---- what is kept of the records

-- the payments behind the last threshold, after one record more
abbrev pub paid_after : List Payment → Record → List Payment
paid_after before (line.threshold cut surplus) = []
paid_after before (line.payment name vickrey discount payment) = before
    ++ record { name = name; vickrey = vickrey; discount = discount; payment = payment } ∷ []
paid_after before other = before

abbrev pub paid_from : List Payment → List Record → List Payment
paid_from before [] = before
paid_from before (r ∷ rest) = paid_from (paid_after before r) rest

abbrev pub payments_said : List Record → List Payment
payments_said journal = paid_from [] journal

abbrev pub amounts : List Payment → List Fraction
amounts payments = map (λ p. p.payment) payments

-- ---- laws

-- where the records of a session lead to its end, they state a right session of the end's
-- exchange, whose last settlement is that of the end and of the payments that were said
abbrev pub DoneIsLast : Type 0
DoneIsLast = (journal : List Record) (s : State) → AllByRecursion IsRecord journal → Leads nothing journal (passing s) → s.place ≡ done
    → s.kind ≡ session_kind
    → (x : Session) × Says journal (session_records x) × IsRight x × (x.exchange ≡ exchange_at s) × (x.closed.cut ≡ s.cut)
    × (last_of x ≡ paid_of (exchange_at s) s.bounds s.final.sets (amounts (payments_said journal)))

-- its bidders have one satisfied set each and pay fractions, each
-- with a denominator that divides that of the cut
abbrev pub LastIsPaid : Type 0
LastIsPaid = (journal : List Record) (s : State) → AllByRecursion IsRecord journal → Leads nothing journal (passing s) → s.place ≡ done
    → s.kind ≡ session_kind
    → IsPaidTrade (paid_of (exchange_at s) s.bounds s.final.sets (amounts (payments_said journal)))
    × IsCutDen (paid_of (exchange_at s) s.bounds s.final.sets (amounts (payments_said journal))) s.cut.den
    × AllByRecursion IsFractionField (amounts (payments_said journal))
    × (length s.final.sets ≡ length (trees_of (exchange_at s)))
