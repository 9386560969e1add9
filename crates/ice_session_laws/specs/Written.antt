-- The journal of a session in version 2, as far as it has come, and what it is where the session
-- ends.
use Rattle.std.specs.Prelude.{◌≡◌, List, ◌∷◌, ◌++◌, length, drop, None, Some}
use Rattle.ice_defs.specs.Exchange.{Exchange, exact_of}
use Rattle.ice_defs.specs.Session.{Going, Session}
use Rattle.ice_headline_laws.specs.Right.{IsRight}
use Rattle.ice_headline_laws.specs.Headline.{Headline}
use Rattle.ice_journal.specs.Records.{Record, version_2, session_kind}
use Rattle.ice_journal.specs.Records as line
use Rattle.ice_section.specs.Described.{section_records}
use Rattle.ice_journal_laws.specs.State.{Place, at_section, at_group, at_prices, at_balance_rows, at_round, at_threshold, State, begun}
use Rattle.ice_journal_laws.specs.Next.{after_all}
use Rattle.ice_journal_laws.specs.Checks.{FirstFailure}
use Rattle.ice_journal_laws.specs.Written.{session_records}
use Rattle.ice_journal_laws.specs.Theorems.{Says}
use Rattle.ice_journal_laws.specs.SoFar.{IsSoFar, IsUnstopped}
use Rattle.ice_journal_laws.specs.ShowingSession.{going_in, goings_in}
use Rattle.ice_journal_laws.specs.Stops.{IsSpent}
use Rattle.ice_gap_laws.specs.declared.answer.GapAnswer.TheVariants as answer
use Rattle.ice_gap_laws.specs.Gap.{Gap}
use Rattle.ice_gap_laws.specs.Answers.{GivesGap}
use Rattle.ice_round.specs.SessionAt.{SessionAt}
use Rattle.ice_settled.specs.Shown.{closed_of}
use Rattle.ice_settled.specs.declared.settled.Closing.{Closing}
use Rattle.ice_session_laws.specs.Stops.{OpenSession, open_records, IsRightOpen, IsLimited}

-- the head and the exchange
abbrev pub begun_records : Exchange → List Record
begun_records ex = line.head version_2 session_kind ∷ section_records ex

-- and settlements that went on
abbrev pub run_records : Exchange → List Going → List Record
run_records ex going = begun_records ex ++ goings_in version_2 (length (exact_of ex)) 0 going

-- and the settlement whose round has come so far
abbrev pub round_records : SessionAt → List Going → Going → List Record
round_records s going last = run_records s.exchange going ++ going_in version_2 (length (exact_of s.exchange)) s.number last

-- a place where no group is cut: the next thing is a group, prices, a settlement, a submission or
-- what bidders pay
abbrev pub IsBetweenGroups : Place → Type 0
IsBetweenGroups at_section = Unit {0}
IsBetweenGroups (at_group g) = Unit {0}
IsBetweenGroups at_prices = Unit {0}
IsBetweenGroups (at_balance_rows den rows) = Unit {0}
IsBetweenGroups at_round = Unit {0}
IsBetweenGroups at_threshold = Unit {0}
IsBetweenGroups other = ⊥

-- the records lead to such a place
pub record HasWholeGroups (journal : List Record) : Type 0 where
  pub state : State
  pub reached : after_all (begun version_2 session_kind) (drop 1 journal) ≡ Some state
  pub between : IsBetweenGroups state.place

-- it isn't whole, no stop stands in it, and its groups are whole
pub record IsUnended (journal : List Record) : Type 0 where
  pub so_far : IsSoFar session_kind journal
  pub unstopped : IsUnstopped so_far.end
  pub groups : HasWholeGroups journal

-- ---- ends

abbrev pub closed_session : List Going → SessionAt → Closing → Session
closed_session going s c = record { exchange = s.exchange; going = going; closed = closed_of s.exchange c }

-- no test fails, and it is right, so it has the headline
pub record IsClosedJournal (journal : List Record) (x : Session) : Type 0 where
  pub says : Says journal (session_records x)
  pub so_far : IsSoFar session_kind journal
  pub right : IsRight x
  pub passes : FirstFailure journal None
  pub headline : Headline x

pub record IsOpenJournal (journal : List Record) (x : OpenSession) : Type 0 where
  pub says : Says journal (open_records x)
  pub so_far : IsSoFar session_kind journal
  pub right : IsRightOpen x

-- `gap` has a gap for it
abbrev pub HasGapAnswer : List Record → Type 0
HasGapAnswer journal = (gap : Gap) × GivesGap journal (answer.Gap gap.group gap.value gap.bound)

pub record IsSpentJournal (journal : List Record) : Type 0 where
  pub so_far : IsSoFar session_kind journal
  pub spent : IsSpent session_kind journal
  pub gap : HasGapAnswer journal

pub record IsLimitedJournal (journal : List Record) : Type 0 where
  pub so_far : IsSoFar session_kind journal
  pub limited : IsLimited journal
