-- A session as far as a search that is spent, or as far as a group that comes next.
use Rattle.std.proofs.Common.{◌≡◌, ◌<◌, ℕ, true, false, List, [], ◌∷◌, ◌++◌, length, map, refl, sym, ◌∙◌, ap, subst, arith}
use Rattle.ice_defs.specs.Bounds.{Bounds}
use Rattle.ice_defs.specs.declared.Group.TheVariants.{Final, Rival, Without}
use Rattle.ice_defs.specs.Exchange.{Exchange, trees_of, exact_of, opening_bounds}
use Rattle.ice_defs.specs.Lawful.{IsExchange}
use Rattle.ice_headline_laws.specs.Right.{bounds_after_rounds}
use Rattle.ice_defs.specs.Session.{Going}
use Rattle.ice_journal.specs.Records.{Record, Version, session_kind}
use Rattle.ice_journal.specs.Records as line
use Rattle.ice_section.specs.Described.{section_records}
use Rattle.ice_section.specs.Laws.{DescribedAreTaken}
use Rattle.ice_journal_laws.specs.State.{at_group, State, begun, exchange_at, trees_at, goods_at}
use Rattle.ice_journal_laws.specs.Next.{go_to}
use Rattle.ice_journal_laws.specs.Showing.{group_records, regret_group_records, stated_of}
use Rattle.ice_journal_laws.specs.ShowingSession.{goings_in, without_group_records, AreShownGoing}
use Rattle.ice_journal_laws.specs.StepsTaken.{Earns}
use Rattle.ice_journal_laws.specs.Earning.{Earning, IsEarnedTaken, EarnGoings}
use Rattle.ice_journal_laws.specs.Positions.{Position, before_final, before_rival, before_provisional, before_without, group_at, position_records, IsShownPosition, EarnsPosition}
use Rattle.ice_journal_laws.proofs.Carried.{TakesTo, carries_one}
use Rattle.ice_journal_laws.proofs.CarriedGroup.{head_takes}
use Rattle.ice_journal_laws.proofs.CarriedSettlement.{with_settlement}
use Rattle.ice_journal_laws.proofs.CarriedRegret.{some_trees}
use Rattle.ice_journal_laws.proofs.CarriedGoing.{settling}
use Rattle.ice_journal_laws.proofs.CarriedTaken.{earns_join, earns_quiet}
use Rattle.ice_journal_laws.proofs.CarriedEarned.{group_earns}
use Rattle.ice_journal_laws.proofs.CarriedEarnedGoing.{regret_earns, withouts_earn}
use Rattle.ice_journal_laws.proofs.CarriedComing.{Comes, session_comes}

-- the state in which the group's head comes
abbrev pub state_at : Position → State → State
state_at before_final s = settling s
state_at (before_rival final) s = record (settling s) { final = stated_of final }
state_at (before_provisional x) s = with_settlement x (settling s)
state_at (before_without x withouts) s = record (with_settlement x (settling s)) { withouts = map (λ p. p.value) withouts }

module _ (E : Earning) where
  pub position_earns : (at : Position) (s start : State) → TakesTo start (line.settle s.number) (go_to (at_group Final) (settling s)) → 0 < length (trees_at s) → IsShownPosition (exchange_at s) s.number s.bounds at → EarnsPosition E (exchange_at s) s.bounds at
      → Earns (IsEarnedTaken E) start (position_records s.version (goods_at s) s.number at) (go_to (at_group (group_at at)) (state_at at s))
  position_earns before_final s start settles some is earned =
      earns_quiet (IsEarnedTaken E) start (go_to (at_group Final) (settling s)) (line.settle s.number ∷ []) (carries_one start (go_to (at_group Final) (settling s)) (line.settle s.number) settles) (tt, tt)
  position_earns (before_rival final) s start settles some is earned =
      earns_join (IsEarnedTaken E) start (go_to (at_group Final) (settling s)) (go_to (at_group Rival) (record (settling s) { final = stated_of final })) (line.settle s.number ∷ []) (group_records s.version (goods_at s) (line.final final.value) final)
      (earns_quiet (IsEarnedTaken E) start (go_to (at_group Final) (settling s)) (line.settle s.number ∷ []) (carries_one start (go_to (at_group Final) (settling s)) (line.settle s.number) settles) (tt, tt))
      (group_earns E (go_to (at_group Final) (settling s)) (settling s) Final final (line.final final.value) tt (head_takes (settling s) Final final.value refl) refl some is earned)
  position_earns (before_provisional x) s start settles some is earned = regret_earns E s start x false is.0 settles some is.1 earned
  position_earns (before_without x withouts) s start settles some is earned =
      earns_join (IsEarnedTaken E) start (go_to (at_group (Without 0)) (with_settlement x (settling s))) (go_to (at_group (Without (length withouts))) (state_at (before_without x withouts) s)) (line.settle s.number ∷ regret_group_records s.version (goods_at s) x) (without_group_records s.version (goods_at s) 0 withouts)
      (regret_earns E s start x true is.0 settles some is.1 earned.0)
      (subst (λ (k : ℕ). Earns (IsEarnedTaken E) (go_to (at_group (Without 0)) (with_settlement x (settling s))) (without_group_records s.version (goods_at s) 0 withouts) (go_to (at_group (Without k)) (state_at (before_without x withouts) s))) (omega arith)
      (withouts_earn E (with_settlement x (settling s)) 0 withouts (omega (arith, is.2)) is.3 earned.1))

  -- these records lead from the head of a session to where a group's head comes, and their steps
  -- are earned
  pub record Awaits (before : List Record) (v : Version) (ex : Exchange) (bounds : List Bounds) (at : Position) : Type 0 where
    pub state : State
    pub earns : Earns (IsEarnedTaken E) (begun v session_kind) before (go_to (at_group (group_at at)) (state_at at state))
    pub version : state.version ≡ v
    pub exchange : exchange_at state ≡ ex
    pub bounds_are : state.bounds ≡ bounds

  -- the position's records behind those of the settlements before it, in the words of the state
  behind : (v : Version) (ex : Exchange) (number : ℕ) (bounds : List Bounds) (records : List Record) (at : Position) (next : Comes E (begun v session_kind) records v ex number bounds) → 0 < length (trees_of ex) → IsShownPosition ex number bounds at
      → EarnsPosition E ex bounds at → Earns (IsEarnedTaken E) (begun v session_kind) (records ++ position_records v (length (exact_of ex)) number at) (go_to (at_group (group_at at)) (state_at at next.state))
  behind v ex number bounds records at next some is earned =
      subst (λ (rs : List Record). Earns (IsEarnedTaken E) (begun v session_kind) (records ++ rs) (go_to (at_group (group_at at)) (state_at at next.state))) same
      (earns_join (IsEarnedTaken E) (begun v session_kind) next.rest (go_to (at_group (group_at at)) (state_at at next.state)) records (position_records next.state.version (goods_at next.state) next.state.number at) next.earns
      (position_earns at next.state next.rest next.settles (subst (λ (x : Exchange). 0 < length (trees_of x)) (sym next.exchange) some)
      (subst (λ (x : Exchange). IsShownPosition x next.state.number next.state.bounds at) (sym next.exchange) (subst (λ (k : ℕ). IsShownPosition ex k next.state.bounds at) (sym next.number_is) (subst (λ (b : List Bounds). IsShownPosition ex number b at) (sym next.bounds_are) is)))
      (subst (λ (x : Exchange). EarnsPosition E x next.state.bounds at) (sym next.exchange) (subst (λ (b : List Bounds). EarnsPosition E ex b at) (sym next.bounds_are) earned))))
    where
      same : position_records next.state.version (goods_at next.state) next.state.number at ≡ position_records v (length (exact_of ex)) number at
      same =
          ap (λ (w : Version). position_records w (goods_at next.state) next.state.number at) next.version
          ∙ ap (λ (x : Exchange). position_records v (length (exact_of x)) next.state.number at) next.exchange
          ∙ ap (λ (k : ℕ). position_records v (length (exact_of ex)) k at) next.number_is

  -- a session as far as this group of its last settlement
  pub session_awaits : DescribedAreTaken → (v : Version) (ex : Exchange) → IsExchange ex → (going : List Going) → AreShownGoing ex 0 (opening_bounds ex) going → EarnGoings E ex (opening_bounds ex) going
      → (at : Position) → IsShownPosition ex (length going) (bounds_after_rounds ex (opening_bounds ex) going) at → EarnsPosition E ex (bounds_after_rounds ex (opening_bounds ex) going) at
      → Awaits (section_records ex ++ goings_in v (length (exact_of ex)) 0 going ++ position_records v (length (exact_of ex)) (length going) at) v ex (bounds_after_rounds ex (opening_bounds ex) going) at
  session_awaits taken v ex lawful going are earned at is earned_at =
      let next = session_comes E taken v ex lawful going are earned in
      record {
        state = next.state;
        earns = behind v ex (length going) (bounds_after_rounds ex (opening_bounds ex) going) (section_records ex ++ goings_in v (length (exact_of ex)) 0 going) at next (some_trees ex lawful) is earned_at;
        version = next.version;
        exchange = next.exchange;
        bounds_are = next.bounds_are;
      }
