-- What the journal of a session is, as far as it has come, where it closes, and where it stops in a
-- round.
use Rattle.std.proofs.Common.{◌≡◌, ◌+◌, ℕ, suc, true, List, [], ◌∷◌, ◌++◌, length, arith, sym, subst, ◌∙◌, ap, append_assoc}
use Rattle.std.specs.List.{AllByRecursion}
use Rattle.ice_defs.specs.Bounds.{Bounds}
use Rattle.ice_defs.specs.Sweep.{EarnsStep}
use Rattle.ice_defs.specs.Exchange.{Exchange, exact_of, opening_bounds}
use Rattle.ice_defs.specs.Lawful.{IsExchange}
use Rattle.ice_defs.specs.Session.{Going, Closed, Session, closes}
use Rattle.ice_headline_laws.specs.Right.{bounds_after_round, bounds_after_rounds, IsRight}
use Rattle.ice_defs.proofs.Lists.{all-append}
use Rattle.ice_headline_laws.proofs.Promised.{right_gives_headline}
use Rattle.ice_journal.specs.Records.{Record, Version, version_2, session_kind}
use Rattle.ice_journal.specs.Ranges.{IsRecord}
use Rattle.ice_section.specs.Described.{section_records}
use Rattle.ice_section.proofs.Describing.{described_are_records, described_are_taken}
use Rattle.ice_defs.specs.declared.Group.TheVariants.{Final}
use Rattle.ice_journal_laws.specs.State.{at_group, begun}
use Rattle.ice_journal_laws.specs.Next.{go_to}
use Rattle.ice_journal_laws.specs.ShowingSession.{closed_in, settlements_in, session_in, going_in, goings_in, IsShownClosed, AreShownGoing, AreShownFrom, IsShownSession}
use Rattle.ice_journal_laws.proofs.Past.{IsPast, past_closed}
use Rattle.ice_journal_laws.proofs.Carried.{carries_tested}
use Rattle.ice_journal_laws.proofs.CarriedGoing.{settling}
use Rattle.ice_journal_laws.proofs.CarriedComing.{Comes, session_comes}
use Rattle.ice_journal_laws.proofs.CarriedSession.{session_carries}
use Rattle.ice_journal_laws.proofs.CarriedSays.{session_says}
use Rattle.ice_journal_laws.proofs.CarriedSoFar.{whole_so_far}
use Rattle.ice_round.specs.SessionAt.{SessionAt}
use Rattle.ice_settled.specs.Shown.{closed_of}
use Rattle.ice_round.specs.Shown.{IsClosing}
use Rattle.ice_settled.specs.declared.settled.Closing.{Closing}
use Rattle.ice_write_session.specs.Records.{closing_records}
use Rattle.ice_session_laws.specs.Running.{IsRunning}
use Rattle.ice_session_laws.specs.Written.{begun_records, run_records, closed_session, IsUnended, IsClosedJournal}
use Rattle.ice_session_laws.proofs.Closings.{closing_shown}
use Rattle.ice_session_laws.proofs.Between.{unended, settles_between}

pub begun_are : (ex : Exchange) → IsExchange ex → AllByRecursion IsRecord (begun_records ex)
begun_are ex lawful = (tt, described_are_records ex lawful)

module _ (going : List Going) (s : SessionAt) (run : IsRunning going s) where
  abbrev goods : ℕ
  goods = length (exact_of s.exchange)

  abbrev goings : List Record
  goings = goings_in version_2 (length (exact_of s.exchange)) 0 going

  pub run_are : AllByRecursion IsRecord (run_records s.exchange going)
  run_are = all-append IsRecord (begun_records s.exchange) goings (begun_are s.exchange run.exchange) run.records

  pub run_comes : Comes EarnsStep (begun version_2 session_kind) (section_records s.exchange ++ goings_in version_2 (length (exact_of s.exchange)) 0 going) version_2 s.exchange (length going) (bounds_after_rounds s.exchange (opening_bounds s.exchange) going)
  run_comes = session_comes EarnsStep described_are_taken version_2 s.exchange run.exchange going run.shown run.earned

  -- ---- as far as it has come

  pub run_is_unended : IsUnended (run_records s.exchange going)
  run_is_unended =
      unended (section_records s.exchange ++ goings) run_comes.rest run_comes.earns.carries run_are
      (settles_between run_comes.rest (go_to (at_group Final) (settling run_comes.state)) run_comes.state.number run_comes.settles)

  -- ---- where it closes

  module _ (c : Closing) (is : IsClosing s c) where
    abbrev Said : Session
    Said = closed_session going s c

    test_here : closes s.exchange.settings (0 + length going) c.regret.amount ≡ true
    test_here = subst (λ (k : ℕ). closes s.exchange.settings k c.regret.amount ≡ true) (omega (arith, run.number)) is.closes

    shown_from : (ex : Exchange) (n : ℕ) (bounds : List Bounds) (past : List Going) (x : Closed) → AreShownGoing ex n bounds past → closes ex.settings (n + length past) x.settlement.regret ≡ true
        → IsShownClosed ex (bounds_after_rounds ex bounds past) x → AreShownFrom ex n bounds past x
    shown_from ex n bounds [] x are closing shown = (subst (λ (k : ℕ). closes ex.settings k x.settlement.regret ≡ true) (omega arith) closing, shown)
    shown_from ex n bounds (g ∷ later) x are closing shown = (
      are.0,
      are.1,
      shown_from ex (suc n) (bounds_after_round ex bounds g) later x are.2 (subst (λ (k : ℕ). closes ex.settings k x.settlement.regret ≡ true) (omega arith) closing) shown,
    )

    session_shown : IsShownSession (closed_session going s c)
    session_shown = record {
      exchange = run.exchange;
      settlements = shown_from s.exchange 0 (opening_bounds s.exchange) going (closed_of s.exchange c) run.shown test_here
          (subst (λ (b : List Bounds). IsShownClosed s.exchange b (closed_of s.exchange c)) (sym run.bounds) (closing_shown s run.exchange run.lawful c is));
    }

    past : IsPast s.exchange s.number s.bounds going
    past = record { count = run.number; going = run.right; after = run.bounds; lawful = run.lawful }

    session_right : IsRight (closed_session going s c)
    session_right = record { exchange = run.exchange; settlements = past_closed s.exchange s.number s.bounds going (closed_of s.exchange c) past is.closes is.closed }

    -- ---- its records

    settlements_are : (v : Version) (n k : ℕ) (past : List Going) (x : Closed) → settlements_in v k n past x ≡ goings_in v k n past ++ closed_in v k (n + length past) x
    settlements_are v n k [] x = ap (λ (m : ℕ). closed_in v k m x) (omega arith)
    settlements_are v n k (g ∷ later) x =
        ap (λ (rs : List Record). going_in v k n g ++ rs) (settlements_are v (suc n) k later x ∙ ap (λ (m : ℕ). goings_in v k (suc n) later ++ closed_in v k m x) (omega arith))
        ∙ sym (append_assoc (going_in v k n g) (goings_in v k (suc n) later) (closed_in v k (n + suc (length later)) x))

    closing_is : closing_records c ≡ closed_in version_2 (length (exact_of s.exchange)) (0 + length going) (closed_of s.exchange c)
    closing_is =
        ap (λ (x : Exchange). closed_in version_2 (length (exact_of x)) c.number (closed_of x c)) is.exchange
        ∙ ap (λ (k : ℕ). closed_in version_2 (length (exact_of s.exchange)) k (closed_of s.exchange c)) (is.number ∙ omega (arith, run.number))

    journal_is : run_records s.exchange going ++ closing_records c ≡ session_in version_2 (closed_session going s c)
    journal_is =
        append_assoc (begun_records s.exchange) goings (closing_records c)
        ∙ ap (λ (rs : List Record). begun_records s.exchange ++ (goings ++ rs)) closing_is
        ∙ ap (λ (rs : List Record). begun_records s.exchange ++ rs) (sym (settlements_are version_2 0 goods going (closed_of s.exchange c)))

    session_are : AllByRecursion IsRecord (closing_records c) → AllByRecursion IsRecord (session_in version_2 (closed_session going s c))
    session_are records = subst (AllByRecursion IsRecord) journal_is (all-append IsRecord (run_records s.exchange going) (closing_records c) run_are records)

    pub run_closes : AllByRecursion IsRecord (closing_records c) → IsClosedJournal (run_records s.exchange going ++ closing_records c) (closed_session going s c)
    run_closes records =
        let carries = session_carries described_are_taken version_2 (closed_session going s c) session_shown in
        subst (λ (j : List Record). IsClosedJournal j (closed_session going s c)) (sym journal_is) (record {
          says = session_says (closed_session going s c) session_shown;
          so_far = whole_so_far session_kind (section_records s.exchange ++ settlements_in version_2 (length (exact_of s.exchange)) 0 going (closed_of s.exchange c)) carries.after carries.carries (session_are records);
          right = session_right;
          passes = carries_tested version_2 session_kind (section_records s.exchange ++ settlements_in version_2 (length (exact_of s.exchange)) 0 going (closed_of s.exchange c)) carries.after carries.carries carries.ends;
          headline = right_gives_headline (closed_session going s c) session_right;
        })
