-- Where the head of a group is awaited, the exchange is lawful, and
-- whom the group leaves out is one of its bidders.
use Rattle.std.proofs.Common.{◌≡◌, ℕ, true, List, length, refl, ◌∙◌, subst}
use Rattle.std.specs.Prelude.{Some}
use Rattle.std.specs.List.{AllByRecursion}
use Rattle.std.proofs.lemmas.Bool.{false≢true}
use Rattle.std.proofs.lemmas.Option.{none-some, same_Some}
use Rattle.ice_defs.specs.declared.Group.{Group}
use Rattle.ice_defs.specs.declared.Group.TheVariants.{Assign, Final, Rival, Provisional, Without}
use Rattle.std.proofs.Common.{ℤ, [], sym}
use Rattle.ice_defs.specs.Lawful.{IsExchange}
use Rattle.ice_defs.specs.Trade.{Assignment, IsBestOfAll}
use Rattle.ice_defs.specs.Bounds.{Bounds}
use Rattle.ice_defs.specs.Weighing.{lower_weights}
use Rattle.ice_defs.specs.Exchange.{Exchange, trees_of, exact_of, opening_bounds}
use Rattle.ice_defs.specs.Session.{Proved, Going}
use Rattle.ice_headline_laws.specs.Right.{IsBestFound}
use Rattle.ice_journal_laws.proofs.Past.{IsPast}
use Rattle.ice_journal_laws.proofs.Grouping.{so_far}
use Rattle.ice_journal.specs.Records.{Record, Version, version_1, version_2, Kind, assign_kind, regret_kind, session_kind, exchange_kind, prices_kind}
use Rattle.ice_journal.specs.Ranges.{IsRecord}
use Rattle.ice_section.proofs.Whole.{section_is_lawful, section_records_are}
use Rattle.ice_refute.proofs.Refutes.{log_refutes}
use Rattle.ice_journal_laws.specs.State.{Place, at_section, at_group, State, begun, exchange_at, trees_at}
use Rattle.ice_journal_laws.specs.Tests.{is_valued}
use Rattle.ice_journal_laws.specs.Checks.{is_checked}
use Rattle.ice_journal_laws.specs.Progress.{nothing, passing, Leads}
use Rattle.ice_journal_laws.proofs.Heads.{Headed, headed}
use Rattle.ice_journal_laws.proofs.Assigned.{standing_journal}
use Rattle.ice_journal_laws.proofs.Assigning as assigning
use Rattle.ice_journal_laws.proofs.Regretting as regretting
use Rattle.ice_journal_laws.proofs.Regretting.{section_told}
use Rattle.ice_journal_laws.proofs.Regretted.{regret_stands}
use Rattle.ice_journal_laws.proofs.Sessions as sessions
use Rattle.ice_journal_laws.proofs.SessionRight.{session_stands}
use Rattle.ice_gap_laws.specs.Gap.{next_group, before_head, IsThere}
use Rattle.ice_gap_laws.specs.Laws.{EndsThere, HasFinal, IsReached, IsReachedAt}

pub record IsAwaited (g : Group) (now : State) : Type 0 where
  pub exchange : IsExchange (exchange_at now)
  pub valued : is_valued g ≡ true
  pub there : IsThere (length (trees_at now)) g
  pub reached : IsReachedAt now g

of_group : (mine g : Group) (now : State) → Some mine ≡ Some g → IsAwaited mine now → IsAwaited g now
of_group mine g now e h = subst (λ (x : Group). IsAwaited x now) (same_Some mine g e) h

-- by the settlements before this one
past_reached : (g : Group) (ex : Exchange) (number : ℕ) (bounds : List Bounds) (past : List Going) (final : Assignment) → IsPast ex number bounds past → HasFinal g ex bounds final → IsReached g ex bounds final
past_reached g ex number bounds past final is best = record { past = past; earlier = is.going; bounds_are = is.after; final_is = best }

-- at the bounds of the exchange
first_reached : (g : Group) (ex : Exchange) (bounds : List Bounds) (final : Assignment) → bounds ≡ opening_bounds ex → HasFinal g ex bounds final → IsReached g ex bounds final
first_reached g ex bounds final opening best = record { past = []; earlier = tt; bounds_are = sym opening; final_is = best }

final_is_best : (ex : Exchange) (bounds : List Bounds) (p : Proved) → IsBestFound ex bounds (lower_weights bounds) p → HasFinal Rival ex bounds p.sets
final_is_best ex bounds p is = (is.feasible, subst (λ (v : ℤ). IsBestOfAll (trees_of ex) (exact_of ex) (lower_weights bounds) v) (sym is.value) is.best)

-- in a session
in_session : (rest : List Record) (s : State) (place : Place) (g : Group) → sessions.IsAt rest s place → next_group session_kind place ≡ Some g → IsAwaited g (before_head place s)
in_session rest s (at_group Final) g (past, opened, tells) e =
    of_group Final g s e (record { exchange = tells.exchange; valued = refl; there = tt; reached = past_reached Final (exchange_at s) s.number s.bounds past s.final.sets opened.earlier tt })
in_session rest s (at_group Rival) g (past, log, opened, final, tells) e =
    of_group Rival g s e (record {
      exchange = tells.exchange;
      valued = refl;
      there = tt;
      reached = past_reached Rival (exchange_at s) s.number s.bounds past s.final.sets opened.earlier (final_is_best (exchange_at s) s.bounds (so_far s.final log) final);
    })
in_session rest s (at_group Provisional) g (past, x, opened, settled, tells) e =
    of_group Provisional g s e (record { exchange = tells.exchange; valued = refl; there = tt; reached = past_reached Provisional (exchange_at s) s.number s.bounds past s.final.sets opened.earlier tt })
in_session rest s (at_group (Without b)) g (past, x, ps, earlier, settled, withouts, there, tells) e =
    of_group (Without b) g s e (record { exchange = tells.exchange; valued = refl; there = there; reached = past_reached (Without b) (exchange_at s) s.number s.bounds past s.final.sets earlier tt })
in_session rest s (at_group Assign) g at e = absurd at
in_session rest s other g at e = absurd (none-some g e)

-- in a regret journal
in_regret : (rest : List Record) (s : State) (place : Place) (g : Group) → AllByRecursion IsRecord rest → regretting.IsAt rest s place → EndsThere s place
    → next_group regret_kind place ≡ Some g → IsAwaited g (before_head place s)
in_regret rest s at_section g records taken ended e =
    let tells = section_told section_is_lawful section_records_are log_refutes rest s records taken ended in
    of_group Final g (before_head at_section s) e (record {
      exchange = tells.exchange;
      valued = refl;
      there = tt;
      reached = first_reached Final (exchange_at s) (opening_bounds (exchange_at s)) s.final.sets refl tt;
    })
in_regret rest s (at_group Rival) g records (log, opening, final, tells) ended e =
    of_group Rival g s e (record {
      exchange = tells.exchange;
      valued = refl;
      there = tt;
      reached = first_reached Rival (exchange_at s) s.bounds s.final.sets opening (final_is_best (exchange_at s) s.bounds (so_far s.final log) final);
    })
in_regret rest s (at_group other) g records at ended e = absurd at
in_regret rest s other g records at ended e = absurd (none-some g e)

-- in an assign journal
in_assign : (rest : List Record) (s : State) (place : Place) (g : Group) → assigning.IsAt rest s place → next_group assign_kind place ≡ Some g → ⊥
in_assign rest s (at_group other) g at e = at
in_assign rest s other g at e = none-some g e

unchecked_exchange : (v : Version) → is_checked v exchange_kind ≡ true → ⊥
unchecked_exchange version_1 e = false≢true e
unchecked_exchange version_2 e = false≢true e

unchecked_prices : (v : Version) → is_checked v prices_kind ≡ true → ⊥
unchecked_prices version_1 e = false≢true e
unchecked_prices version_2 e = false≢true e

module _ (journal : List Record) (s : State) (g : Group) (records : AllByRecursion IsRecord journal) (l : Leads nothing journal (passing s)) (ended : EndsThere s s.place) where
  of_kind : (h : Headed journal s) (kind : Kind) → h.kind ≡ kind → next_group kind s.place ≡ Some g → IsAwaited g (before_head s.place s)
  of_kind h assign_kind k e =
      let there = standing_journal journal s (h.same_kind ∙ k) l in
      absurd (in_assign there.rest s s.place g there.standing.place e)
  of_kind h regret_kind k e =
      in_regret h.rest s s.place g (subst (AllByRecursion IsRecord) h.is records).1
      (regret_stands h.version h.rest s (subst (AllByRecursion IsRecord) h.is records).1 (subst (λ (x : Kind). Leads (passing (begun h.version x)) h.rest (passing s)) k h.leads)).place ended e
  of_kind h session_kind k e =
      in_session h.rest s s.place g
      (session_stands h.version h.rest s (subst (AllByRecursion IsRecord) h.is records).1 (subst (λ (x : Kind). Leads (passing (begun h.version x)) h.rest (passing s)) k h.leads)).place e
  of_kind h exchange_kind k e = absurd (unchecked_exchange h.version (subst (λ (x : Kind). is_checked h.version x ≡ true) k h.checked))
  of_kind h prices_kind k e = absurd (unchecked_prices h.version (subst (λ (x : Kind). is_checked h.version x ≡ true) k h.checked))

  pub is_awaited : next_group s.kind s.place ≡ Some g → IsAwaited g (before_head s.place s)
  is_awaited e = let h = headed journal s l in of_kind h h.kind refl (subst (λ (x : Kind). next_group x s.place ≡ Some g) h.same_kind e)
