-- A session that stops at a spent search is one of which the run's contract speaks.
use Rattle.std.proofs.Common.{◌≡◌, ◌+◌, List, [], ◌∷◌, ◌++◌, length, map, ℤ, refl, sym, ◌∙◌, ap, subst, append_assoc}
use Rattle.std.specs.List.{AllByRecursion}
use Rattle.ice_defs.specs.Bounds.{Bounds}
use Rattle.ice_defs.specs.Steps.{branch_count}
use Rattle.ice_defs.specs.Trade.{Assignment}
use Rattle.ice_defs.specs.Sweep.{EarnsStep}
use Rattle.ice_defs.specs.Searched.{IsSpentSearch}
use Rattle.ice_defs.specs.Group.{start_of, group_weights, first_sets}
use Rattle.ice_defs.specs.Exchange.{Exchange, trees_of, exact_of, opening_bounds}
use Rattle.ice_defs.specs.Lawful.{IsExchange}
use Rattle.ice_headline_laws.specs.Right.{bounds_after_rounds}
use Rattle.ice_defs.specs.Session.{Proved, Going}
use Rattle.ice_refute.specs.Code.{CountsGoods}
use Rattle.ice_journal.specs.Records.{Record, version_1, version_2, session_kind, spent_end}
use Rattle.ice_journal.specs.Records as line
use Rattle.ice_journal.specs.Plain.{plain, all_zero}
use Rattle.ice_section.specs.Described.{section_records}
use Rattle.ice_section.specs.Laws.{DescribedAreTaken}
use Rattle.ice_journal_laws.specs.State.{at_group, State, exchange_at, settings_at, trees_at, exact_at, weights_at}
use Rattle.ice_journal_laws.specs.Next.{to_line, go_to}
use Rattle.ice_journal_laws.specs.ShowingSession.{goings_in, AreShownGoing}
use Rattle.ice_journal_laws.specs.StepsTaken.{branches_in}
use Rattle.ice_journal_laws.specs.Earning.{EarnGoings}
use Rattle.ice_journal_laws.specs.Positions.{Position, before_final, before_rival, before_provisional, before_without, group_at, position_records, IsShownPosition, EarnsPosition, going_branches, position_branches}
use Rattle.ice_journal_laws.specs.Stops.{next_group, IsSpent}
use Rattle.ice_journal_laws.proofs.Spelled.{steps_plain}
use Rattle.ice_journal_laws.proofs.CarriedPosition.{state_at, Awaits, session_awaits}
use Rattle.ice_journal_laws.proofs.CarriedSpentSession.{spent_rest_in, spent_session_records, session_spent_says}
use Rattle.ice_journal_laws.proofs.CarriedCounted.{count_spent}
use Rattle.ice_journal_laws.proofs.CarriedReached.{IsReached, earns_reached}

-- the final sets that a position states
abbrev pub final_at : Position → Assignment
final_at before_final = []
final_at (before_rival final) = final.sets
final_at (before_provisional x) = x.final.sets
final_at (before_without x withouts) = x.final.sets

-- a spent search at a position
abbrev pub IsSpentAt : Exchange → List Bounds → Position → Proved → ℤ → Type 0
IsSpentAt ex bounds at p above =
    IsSpentSearch (trees_of ex) (exact_of ex) (group_weights ex.settings.weight bounds (final_at at) (group_at at)) (start_of (trees_of ex) (group_at at)) (first_sets (trees_of ex) (final_at at) (group_at at)) p above

search_at : (s : State) (at : Position) (p : Proved) (above : ℤ) → IsSpentAt (exchange_at s) s.bounds at p above
    → IsSpentSearch (trees_at (state_at at s)) (exact_at (state_at at s)) (weights_at (state_at at s) (group_at at)) (start_of (trees_at (state_at at s)) (group_at at)) (first_sets (trees_at (state_at at s)) (state_at at s).final.sets (group_at at)) p above
search_at s before_final p above h = h
search_at s (before_rival final) p above h = h
search_at s (before_provisional x) p above h = h
search_at s (before_without x withouts) p above h = h

branches_same : (s : State) (at : Position) → (settings_at (state_at at s)).branches ≡ (settings_at s).branches
branches_same s before_final = refl
branches_same s (before_rival final) = refl
branches_same s (before_provisional x) = refl
branches_same s (before_without x withouts) = refl

module _ (taken : DescribedAreTaken) (ex : Exchange) (lawful : IsExchange ex) (going : List Going) (are : AreShownGoing ex 0 (opening_bounds ex) going) (earned : EarnGoings EarnsStep ex (opening_bounds ex) going)
    (at : Position) (is : IsShownPosition ex (length going) (bounds_after_rounds ex (opening_bounds ex) going) at) (earned_at : EarnsPosition EarnsStep ex (bounds_after_rounds ex (opening_bounds ex) going) at)
    (p : Proved) (above : ℤ) (counts : AllByRecursion (CountsGoods (length (exact_of ex))) p.log) (search : IsSpentAt ex (bounds_after_rounds ex (opening_bounds ex) going) at p above) where
  abbrev journal : List Record
  journal = line.head version_2 session_kind ∷ section_records ex ++ spent_session_records ex version_2 going at p above

  abbrev front : List Record
  front = section_records ex ++ goings_in version_1 (length (exact_of ex)) 0 going ++ position_records version_1 (length (exact_of ex)) (length going) at

  abbrev middle : List Record
  middle = goings_in version_1 (length (exact_of ex)) 0 going ++ position_records version_1 (length (exact_of ex)) (length going) at

  said : plain journal ≡ line.head version_1 session_kind ∷ front ++ line.spent p.value above ∷ map line.set p.sets ++ map line.step p.log ++ line.end spent_end ∷ []
  said =
      session_spent_says ex going at p above are is counts
      ∙ ap (λ (rs : List Record). line.head version_1 session_kind ∷ rs)
      (sym (append_assoc (section_records ex) middle (line.spent p.value above ∷ spent_rest_in version_1 (length (exact_of ex)) p))
      ∙ ap (λ (rs : List Record). rs ++ line.spent p.value above ∷ spent_rest_in version_1 (length (exact_of ex)) p) (sym (append_assoc (section_records ex) (goings_in version_1 (length (exact_of ex)) 0 going) (position_records version_1 (length (exact_of ex)) (length going) at)))
      ∙ ap (λ (rs : List Record). front ++ line.spent p.value above ∷ (map line.set p.sets ++ rs ++ line.end spent_end ∷ [])) (steps_plain (all_zero (length (exact_of ex))) p.log)
      ∙ regroup)
    where
      regroup : front ++ line.spent p.value above ∷ (map line.set p.sets ++ map line.step p.log ++ line.end spent_end ∷ []) ≡ front ++ line.spent p.value above ∷ map line.set p.sets ++ map line.step p.log ++ line.end spent_end ∷ []
      regroup =
          sym (append_assoc front (line.spent p.value above ∷ map line.set p.sets ++ map line.step p.log) (line.end spent_end ∷ []))
          ∙ ap (λ (rs : List Record). rs ++ line.end spent_end ∷ []) (sym (append_assoc front (line.spent p.value above ∷ map line.set p.sets) (map line.step p.log)))

  awaits : Awaits EarnsStep front version_1 ex (bounds_after_rounds ex (opening_bounds ex) going) at
  awaits = session_awaits EarnsStep taken version_1 ex lawful going are earned at is earned_at

  -- where the budget is used up
  pub session_is_spent : going_branches going + position_branches at + branch_count p.log ≡ ex.settings.branches
      → IsSpent session_kind (line.head version_2 session_kind ∷ section_records ex ++ spent_session_records ex version_2 going at p above)
  session_is_spent budget =
      let reached : IsReached EarnsStep version_1 session_kind front (go_to (at_group (group_at at)) (state_at at awaits.state)) = earns_reached EarnsStep version_1 session_kind front (go_to (at_group (group_at at)) (state_at at awaits.state)) awaits.earns in
      record {
        before = front;
        value = p.value;
        above = above;
        sets = p.sets;
        log = p.log;
        says = said;
        state = to_line reached.line (go_to (at_group (group_at at)) (state_at at awaits.state));
        reached = reached.reached;
        group = group_at at;
        now = to_line reached.line (go_to (at_group (group_at at)) (state_at at awaits.state));
        awaited = next_group refl;
        counted = ap branches_in said ∙ count_spent (length (exact_of ex)) session_kind ex going at p above ∙ budget ∙ sym (branches_same awaits.state at ∙ ap (λ (x : Exchange). x.settings.branches) awaits.exchange);
        earned_before = reached.earned;
        search = search_at awaits.state at p above
            (subst (λ (x : Exchange). IsSpentAt x awaits.state.bounds at p above) (sym awaits.exchange) (subst (λ (b : List Bounds). IsSpentAt ex b at p above) (sym awaits.bounds_are) search));
      }
