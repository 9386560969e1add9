-- A regret journal that stops at a spent search is one of which the run's contract speaks.
use Rattle.std.proofs.Common.{◌≡◌, ◌+◌, List, [], ◌∷◌, ◌++◌, length, map, ℤ, refl, sym, ◌∙◌, ap, subst, arith, append_assoc}
use Rattle.std.specs.List.{AllByRecursion}
use Rattle.ice_defs.specs.Steps.{branch_count}
use Rattle.ice_defs.specs.Sweep.{EarnsStep}
use Rattle.ice_defs.specs.Searched.{IsSpentSearch}
use Rattle.ice_defs.specs.Weighing.{lower_weights, perturbed_weights}
use Rattle.ice_defs.specs.declared.Group.TheVariants.{Final, Rival}
use Rattle.ice_defs.specs.Group.{empty_sets, free_side}
use Rattle.ice_defs.specs.Exchange.{Exchange, trees_of, exact_of, opening_bounds}
use Rattle.ice_defs.specs.Lawful.{IsExchange}
use Rattle.ice_defs.specs.Session.{Proved}
use Rattle.ice_refute.specs.Code.{CountsGoods}
use Rattle.ice_journal.specs.Records.{Record, version_1, version_2, regret_kind, spent_end}
use Rattle.ice_journal.specs.Records as line
use Rattle.ice_journal.specs.Plain.{plain}
use Rattle.ice_section.specs.Described.{section_records}
use Rattle.ice_section.specs.Laws.{DescribedAreTaken}
use Rattle.ice_journal_laws.specs.State.{at_group, State}
use Rattle.ice_journal_laws.specs.Next.{to_line, go_to}
use Rattle.ice_journal_laws.specs.Assigning.{section_state, section_of, exchange_state}
use Rattle.ice_journal_laws.specs.Showing.{group_records, stated_of, IsShown}
use Rattle.ice_journal_laws.specs.StepsTaken.{branches_in}
use Rattle.ice_journal_laws.specs.Earning.{EarnsLog}
use Rattle.ice_journal_laws.specs.Stops.{next_group, first_group, IsSpent}
use Rattle.ice_journal_laws.proofs.CarriedRegret.{group_plain}
use Rattle.ice_journal_laws.proofs.CarriedSection.{ended}
use Rattle.ice_journal_laws.proofs.CarriedVersions.{Unpacks, unpacks_join, unpacks_group, plain_record, whole_says}
use Rattle.ice_journal_laws.proofs.CarriedBranches.{branches_join, branches_none, branches_log}
use Rattle.ice_journal_laws.proofs.CarriedComing.{section_quiet}
use Rattle.ice_journal_laws.proofs.CarriedCounted.{sets_quiet, count_group}
use Rattle.ice_journal_laws.proofs.CarriedReached.{IsReached, earns_reached}
use Rattle.ice_journal_laws.proofs.CarriedSpentSession.{spent_rest_in, unpacks_spent}
use Rattle.ice_journal_laws.proofs.CarriedSpentRegret.{final_awaits, rival_awaits}

-- a stop behind other records, in the two ways of grouping
regrouped : (front : List Record) (p : Proved) (above : ℤ)
    → front ++ (line.spent p.value above ∷ map line.set p.sets ++ map line.step p.log ++ line.end spent_end ∷ []) ≡ front ++ line.spent p.value above ∷ map line.set p.sets ++ map line.step p.log ++ line.end spent_end ∷ []
regrouped front p above =
    sym (append_assoc front (line.spent p.value above ∷ map line.set p.sets ++ map line.step p.log) (line.end spent_end ∷ []))
    ∙ ap (λ (rs : List Record). rs ++ line.end spent_end ∷ []) (sym (append_assoc front (line.spent p.value above ∷ map line.set p.sets) (map line.step p.log)))

count_stop : (front : List Record) (p : Proved) (above : ℤ) → branches_in (front ++ line.spent p.value above ∷ map line.set p.sets ++ map line.step p.log ++ line.end spent_end ∷ []) ≡ branches_in front + branch_count p.log
count_stop front p above =
    branches_join (front ++ line.spent p.value above ∷ map line.set p.sets ++ map line.step p.log) (line.end spent_end ∷ [])
    ∙ omega (arith, branches_join (front ++ line.spent p.value above ∷ map line.set p.sets) (map line.step p.log), branches_join front (line.spent p.value above ∷ map line.set p.sets), branches_none (line.spent p.value above ∷ map line.set p.sets) (tt, sets_quiet p.sets), branches_log p.log)

module _ (taken : DescribedAreTaken) (ex : Exchange) (lawful : IsExchange ex) (p : Proved) (above : ℤ) (counts : AllByRecursion (CountsGoods (length (exact_of ex))) p.log) where
  abbrev Stop : List Record
  Stop = line.spent p.value above ∷ map line.set p.sets ++ map line.step p.log ++ line.end spent_end ∷ []

  abbrev Stop2 : List Record
  Stop2 = line.spent p.value above ∷ spent_rest_in version_2 (length (exact_of ex)) p

  -- the final search is spent
  pub final_is_spent : IsSpentSearch (trees_of ex) (exact_of ex) (lower_weights (opening_bounds ex)) (free_side (trees_of ex)) (empty_sets (trees_of ex)) p above → branch_count p.log ≡ ex.settings.branches
      → IsSpent regret_kind (line.head version_2 regret_kind ∷ section_records ex ++ (line.spent p.value above ∷ spent_rest_in version_2 (length (exact_of ex)) p))
  final_is_spent search budget =
      let said : plain (line.head version_2 regret_kind ∷ section_records ex ++ Stop2) ≡ line.head version_1 regret_kind ∷ section_records ex ++ line.spent p.value above ∷ map line.set p.sets ++ map line.step p.log ++ line.end spent_end ∷ [] =
      whole_says regret_kind ex Stop2 Stop (unpacks_spent ex p above counts) ∙ ap (λ (rs : List Record). line.head version_1 regret_kind ∷ rs) (regrouped (section_records ex) p above) in
      let reached : IsReached EarnsStep version_1 regret_kind (section_records ex) (section_state version_1 regret_kind 2 (section_of ex)) = earns_reached EarnsStep version_1 regret_kind (section_records ex) (section_state version_1 regret_kind 2 (section_of ex)) (final_awaits EarnsStep taken version_1 ex lawful) in
      record {
        before = section_records ex;
        value = p.value;
        above = above;
        sets = p.sets;
        log = p.log;
        says = said;
        state = to_line reached.line (section_state version_1 regret_kind 2 (section_of ex));
        reached = reached.reached;
        group = Final;
        now = to_line reached.line (exchange_state version_1 regret_kind 2 ex);
        awaited = first_group refl refl (ended ex lawful);
        counted = ap branches_in said ∙ count_stop (section_records ex) p above ∙ omega (arith, branches_none (section_records ex) (section_quiet ex), budget);
        earned_before = reached.earned;
        search = search;
      }

  module _ (final : Proved) (shown : IsShown (trees_of ex) (exact_of ex) (lower_weights (opening_bounds ex)) Final final) (earned : EarnsLog EarnsStep (trees_of ex) (exact_of ex) (lower_weights (opening_bounds ex)) Final (empty_sets (trees_of ex)) final.log) where
    abbrev Final1 : List Record
    Final1 = group_records version_1 (length (exact_of ex)) (line.final final.value) final

    abbrev Final2 : List Record
    Final2 = group_records version_2 (length (exact_of ex)) (line.final final.value) final

    abbrev AtRival : State
    AtRival = go_to (at_group Rival) (record (exchange_state version_1 regret_kind 2 ex) { final = stated_of final })

    unpacks_both : Unpacks (length (exact_of ex)) (Final2 ++ Stop2) (Final1 ++ Stop)
    unpacks_both =
        unpacks_join (length (exact_of ex)) Final2 Final1 Stop2 Stop
        (subst (Unpacks (length (exact_of ex)) Final2) (sym (group_plain (length (exact_of ex)) (line.final final.value) final))
        (unpacks_group (length (exact_of ex)) (line.final final.value) final (plain_record (length (exact_of ex)) (line.final final.value) (λ m rest. refl) (λ rest. refl)) shown.counts))
        (unpacks_spent ex p above counts)

    -- or the rival's
    pub rival_is_spent : IsSpentSearch (trees_of ex) (exact_of ex) (perturbed_weights final.sets (opening_bounds ex)) (free_side (trees_of ex)) final.sets p above → branch_count final.log + branch_count p.log ≡ ex.settings.branches
        → IsSpent regret_kind (line.head version_2 regret_kind ∷ section_records ex ++ (group_records version_2 (length (exact_of ex)) (line.final final.value) final ++ (line.spent p.value above ∷ spent_rest_in version_2 (length (exact_of ex)) p)))
    rival_is_spent search budget =
        let front : List Record = section_records ex ++ Final1 in
        let said : plain (line.head version_2 regret_kind ∷ section_records ex ++ (Final2 ++ Stop2)) ≡ line.head version_1 regret_kind ∷ front ++ line.spent p.value above ∷ map line.set p.sets ++ map line.step p.log ++ line.end spent_end ∷ [] =
        whole_says regret_kind ex (Final2 ++ Stop2) (Final1 ++ Stop) unpacks_both
        ∙ ap (λ (rs : List Record). line.head version_1 regret_kind ∷ rs) (sym (append_assoc (section_records ex) Final1 Stop) ∙ regrouped front p above) in
        let reached : IsReached EarnsStep version_1 regret_kind front AtRival = earns_reached EarnsStep version_1 regret_kind front AtRival (rival_awaits EarnsStep taken version_1 ex lawful final shown earned) in
        record {
          before = front;
          value = p.value;
          above = above;
          sets = p.sets;
          log = p.log;
          says = said;
          state = to_line reached.line AtRival;
          reached = reached.reached;
          group = Rival;
          now = to_line reached.line AtRival;
          awaited = next_group refl;
          counted = ap branches_in said ∙ count_stop front p above
              ∙ omega (arith, branches_join (section_records ex) Final1, branches_none (section_records ex) (section_quiet ex), count_group (length (exact_of ex)) (line.final final.value) final refl, budget);
          earned_before = reached.earned;
          search = search;
        }
