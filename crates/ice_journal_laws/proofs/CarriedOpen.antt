-- A session whose last settlement goes on.
use Rattle.std.proofs.Common.{◌≡◌, ◌+◌, ◌<◌, ℕ, suc, List, [], ◌∷◌, ◌++◌, length, refl, sym, ◌∙◌, arith}
use Rattle.std.proofs.lemmas.List.{append-nil}
use Rattle.ice_defs.specs.Bounds.{Bounds}
use Rattle.ice_defs.specs.declared.Group.TheVariants.{Final}
use Rattle.ice_defs.specs.Exchange.{Exchange, exact_of, opening_bounds}
use Rattle.ice_headline_laws.specs.Right.{bounds_after_round}
use Rattle.ice_defs.specs.Lawful.{IsExchange}
use Rattle.ice_defs.specs.Session.{Going}
use Rattle.ice_journal.specs.Records.{Record, Version, session_kind}
use Rattle.ice_journal.specs.Records as line
use Rattle.ice_section.specs.Described.{section_records}
use Rattle.ice_section.specs.Laws.{DescribedAreTaken}
use Rattle.ice_journal_laws.specs.State.{at_group, State, begun, exchange_at, trees_at, goods_at}
use Rattle.ice_journal_laws.specs.Next.{go_to, next_settlement}
use Rattle.ice_journal_laws.specs.Tests.{BalanceHolds}
use Rattle.ice_journal_laws.specs.Assigning.{section_state, section_of, exchange_state}
use Rattle.ice_journal_laws.specs.Carrying.{Carries}
use Rattle.ice_journal_laws.specs.ShowingSession.{going_in, goings_in, AreShownGoing, last_going}
use Rattle.ice_journal_laws.proofs.Carried.{TakesTo, carries_join, carries_same}
use Rattle.ice_journal_laws.proofs.CarriedSection.{section_carries, first_settle_takes}
use Rattle.ice_journal_laws.proofs.CarriedRegret.{some_trees}
use Rattle.ice_journal_laws.proofs.CarriedRound.{resting_at, settle_takes}
use Rattle.ice_journal_laws.proofs.CarriedGoing.{settling, with_going, going_carries}

-- these records lead from here to the end of the round of this settlement, the last of so many,
-- with these bounds
pub record CarriesToRest (start : State) (records : List Record) (g : Going) (v : Version) (ex : Exchange) (number : ℕ) (bounds : List Bounds) : Type 0 where
  pub state : State
  pub carries : Carries start records (resting_at g.balance g.judged (with_going g state))
  pub holds : BalanceHolds (with_going g state) g.balance.den g.balance.rows
  pub version : state.version ≡ v
  pub exchange : exchange_at state ≡ ex
  pub number_is : state.number ≡ number
  pub bounds_are : state.bounds ≡ bounds

-- the bounds of the last of these
abbrev pub bounds_at_last : Exchange → List Bounds → Going → List Going → List Bounds
bounds_at_last ex bounds g [] = bounds
bounds_at_last ex bounds g (other ∷ later) = bounds_at_last ex (bounds_after_round ex bounds g) other later

abbrev behind : Going → State → State
behind g s = next_settlement (record (with_going g s) { judged = g.judged })

-- settlements that go on, from here
pub goings_carry : (g : Going) (later : List Going) (s start : State) → TakesTo start (line.settle s.number) (go_to (at_group Final) (settling s)) → 0 < length (trees_at s) → AreShownGoing (exchange_at s) s.number s.bounds (g ∷ later)
    → CarriesToRest start (goings_in s.version (goods_at s) s.number (g ∷ later)) (last_going g later) s.version (exchange_at s) (s.number + length later) (bounds_at_last (exchange_at s) s.bounds g later)
goings_carry g [] s start settles some is = record {
  state = s;
  carries = carries_same start _ (going_in s.version (goods_at s) s.number g) (going_in s.version (goods_at s) s.number g ++ []) (sym (append-nil (going_in s.version (goods_at s) s.number g))) (going_carries s start g settles some is.0 is.1);
  holds = is.1.pricing.balance;
  version = refl;
  exchange = refl;
  number_is = omega arith;
  bounds_are = refl;
}
goings_carry g (other ∷ later) s start settles some is =
    let rest = goings_carry other later (behind g s) (resting_at g.balance g.judged (with_going g s)) (settle_takes (with_going g s) g.balance g.judged is.1.pricing.balance) some is.2 in
    record {
      state = rest.state;
      carries =
          carries_join start (resting_at g.balance g.judged (with_going g s)) (resting_at (last_going other later).balance (last_going other later).judged (with_going (last_going other later) rest.state)) (going_in s.version (goods_at s) s.number g) (goings_in s.version (goods_at s) (suc s.number) (other ∷ later))
          (going_carries s start g settles some is.0 is.1) rest.carries;
      holds = rest.holds;
      version = rest.version;
      exchange = rest.exchange;
      number_is = omega (arith, rest.number_is);
      bounds_are = rest.bounds_are;
    }

module _ (taken : DescribedAreTaken) (v : Version) (ex : Exchange) (lawful : IsExchange ex) (g : Going) (later : List Going) (is : AreShownGoing ex 0 (opening_bounds ex) (g ∷ later)) where
  -- a session as far as its rounds go
  pub open_carries : CarriesToRest (begun v session_kind) (section_records ex ++ goings_in v (length (exact_of ex)) 0 (g ∷ later)) (last_going g later) v ex (length later) (bounds_at_last ex (opening_bounds ex) g later)
  open_carries =
      let rest = goings_carry g later (exchange_state v session_kind 2 ex) (section_state v session_kind 2 (section_of ex)) (first_settle_takes v ex lawful) (some_trees ex lawful) is in
      record {
        state = rest.state;
        carries =
            carries_join (begun v session_kind) (section_state v session_kind 2 (section_of ex)) (resting_at (last_going g later).balance (last_going g later).judged (with_going (last_going g later) rest.state)) (section_records ex) (goings_in v (length (exact_of ex)) 0 (g ∷ later))
            (section_carries taken v session_kind ex lawful) rest.carries;
        holds = rest.holds;
        version = rest.version;
        exchange = rest.exchange;
        number_is = rest.number_is ∙ omega arith;
        bounds_are = rest.bounds_are;
      }
