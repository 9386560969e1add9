-- What a checker hands out of a session that has closed.
use Rattle.std.specs.Prelude.{◌≡◌, ◌≢◌, ◌≤◌, Option, Some, None}
use Rattle.ice_defs.specs.Exchange.{trees_of}
use Rattle.ice_defs.specs.Conditions.{AreBoundsOf}
use Rattle.ice_journal.specs.Records.{session_kind}
use Rattle.ice_journal.specs.Lines.{fraction_of}
use Rattle.ice_journal_laws.specs.State.{done, State, exchange_at}
use Rattle.ice_journal_laws.specs.Progress.{Progress, passing}
use Rattle.ice_check_records.specs.declared.closed.ClosedSession.{ClosedSession}
use Rattle.ice_check_records.specs.declared.groups.Groups.{Groups}
use Rattle.ice_check_records.specs.Groups.{StandsFor}

-- the tests have come to the end of a session with this exchange, whose last settlement has these
-- bounds, final sets and cut
pub record IsClosedAs (x : ClosedSession) (p : Progress) : Type 0 where
  pub state : State
  pub come : p ≡ passing state
  pub place : state.place ≡ done
  pub kind : state.kind ≡ session_kind
  pub exchange : exchange_at state ≡ x.exchange
  pub bounds : state.bounds ≡ x.bounds.items
  pub final : state.final.sets ≡ x.final_sets
  pub cut : state.cut ≡ fraction_of x.cut
  pub cut_few : x.cut.den ≤ 1000
  pub lawful : AreBoundsOf (trees_of x.exchange) x.bounds.items

-- they have come to no end of a session
abbrev pub IsNotClosed : Progress → Type 0
IsNotClosed p = (s : State) → p ≡ passing s → s.place ≡ done → s.kind ≢ session_kind

-- the session that has closed here, or that none has
abbrev pub TellsClosed : Option ClosedSession → Progress → Type 0
TellsClosed None p = IsNotClosed p
TellsClosed (Some x) p = IsClosedAs x p

-- what is known of a journal is what the session leaves
pub record LeavesSession (g : Groups) (x : ClosedSession) : Type 0 where
  pub exchange : g.stated.exchange ≡ x.exchange
  pub bounds : g.offer.judge.bounds ≡ x.bounds.items
  pub final : g.final_sets ≡ x.final_sets
  pub cut : g.charge.cut ≡ fraction_of x.cut
  pub cut_few : x.cut.den ≤ 1000
  pub lawful : AreBoundsOf (trees_of x.exchange) x.bounds.items

-- so it is told in each state of which this is known
abbrev pub TellsSession : Groups → Option ClosedSession → Type 0
TellsSession g found = (s : State) → StandsFor g s → TellsClosed found (passing s)
