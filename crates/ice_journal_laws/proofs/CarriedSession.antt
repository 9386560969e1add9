-- A session, written whole, passes every test.
use Rattle.std.proofs.Common.{◌≡◌, ◌<◌, suc, List, [], ◌∷◌, ◌++◌, length, refl}
use Rattle.std.specs.Prelude.{true}
use Rattle.ice_defs.specs.Exchange.{exact_of}
use Rattle.ice_defs.specs.declared.Group.TheVariants.{Final}
use Rattle.ice_defs.specs.Session.{Going, Closed, Session}
use Rattle.ice_journal.specs.Records.{Record, Version, version_1, version_2, session_kind}
use Rattle.ice_journal.specs.Records as line
use Rattle.ice_section.specs.Described.{section_records}
use Rattle.ice_section.specs.Laws.{DescribedAreTaken}
use Rattle.ice_journal_laws.specs.State.{at_group, done, State, begun, exchange_at, trees_at, goods_at}
use Rattle.ice_journal_laws.specs.Next.{go_to, next_settlement}
use Rattle.ice_journal_laws.specs.Checks.{is_checked, Checks}
use Rattle.ice_journal_laws.specs.Assigning.{section_state, section_of, exchange_state}
use Rattle.ice_journal_laws.specs.Carrying.{Carries}
use Rattle.ice_journal_laws.specs.ShowingSession.{going_in, settlements_in, session_in, AreShownFrom, IsShownSession}
use Rattle.ice_journal_laws.proofs.Carried.{TakesTo, carries_join, carries_checks}
use Rattle.ice_journal_laws.proofs.CarriedSection.{section_carries, first_settle_takes}
use Rattle.ice_journal_laws.proofs.CarriedRegret.{some_trees}
use Rattle.ice_journal_laws.proofs.CarriedRound.{resting_at, settle_takes}
use Rattle.ice_journal_laws.proofs.CarriedGoing.{settling, with_going, going_carries, closed_carries}

-- these records lead from here to the end of a journal
pub record CarriesToEnd (start : State) (records : List Record) : Type 0 where
  pub after : State
  pub carries : Carries start records after
  pub ends : after.place ≡ done

-- the state in which the next settlement begins
abbrev behind : Going → State → State
behind g s = next_settlement (record (with_going g s) { judged = g.judged })

-- the settlements from here on
pub settlements_carry : (going : List Going) (c : Closed) (s start : State) → TakesTo start (line.settle s.number) (go_to (at_group Final) (settling s)) → 0 < length (trees_at s) → AreShownFrom (exchange_at s) s.number s.bounds going c
    → CarriesToEnd start (settlements_in s.version (goods_at s) s.number going c)
settlements_carry [] c s start settles some is = record { after = _; carries = closed_carries s start c settles some is.0 is.1; ends = refl }
settlements_carry (g ∷ later) c s start settles some is =
    let rest : CarriesToEnd (resting_at g.balance g.judged (with_going g s)) (settlements_in s.version (goods_at s) (suc s.number) later c) =
    settlements_carry later c (behind g s) (resting_at g.balance g.judged (with_going g s)) (settle_takes (with_going g s) g.balance g.judged is.1.pricing.balance) some is.2 in
    record {
      after = rest.after;
      carries =
          carries_join start (resting_at g.balance g.judged (with_going g s)) rest.after (going_in s.version (goods_at s) s.number g) (settlements_in s.version (goods_at s) (suc s.number) later c)
          (going_carries s start g settles some is.0 is.1) rest.carries;
      ends = rest.ends;
    }

module _ (taken : DescribedAreTaken) (v : Version) (x : Session) (is : IsShownSession x) where
  pub session_carries : CarriesToEnd (begun v session_kind) (section_records x.exchange ++ settlements_in v (length (exact_of x.exchange)) 0 x.going x.closed)
  session_carries =
      let rest : CarriesToEnd (section_state v session_kind 2 (section_of x.exchange)) (settlements_in v (length (exact_of x.exchange)) 0 x.going x.closed) =
      settlements_carry x.going x.closed (exchange_state v session_kind 2 x.exchange) (section_state v session_kind 2 (section_of x.exchange)) (first_settle_takes v x.exchange is.exchange) (some_trees x.exchange is.exchange) is.settlements in
      record {
        after = rest.after;
        carries =
            carries_join (begun v session_kind) (section_state v session_kind 2 (section_of x.exchange)) rest.after (section_records x.exchange) (settlements_in v (length (exact_of x.exchange)) 0 x.going x.closed)
            (section_carries taken v session_kind x.exchange is.exchange) rest.carries;
        ends = rest.ends;
      }

  checked_session : (u : Version) → is_checked u session_kind ≡ true
  checked_session version_1 = refl
  checked_session version_2 = refl

  -- in either version
  pub session_checks : Checks (session_in v x)
  session_checks =
      carries_checks v session_kind (section_records x.exchange ++ settlements_in v (length (exact_of x.exchange)) 0 x.going x.closed) session_carries.after (checked_session v) session_carries.carries session_carries.ends
