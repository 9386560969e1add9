-- A regret journal that stops at a search that spent its branches.
use Rattle.std.proofs.Common.{◌≡◌, List, ◌∷◌, ◌++◌, length, ℤ, refl}
use Rattle.std.specs.List.{AllByRecursion}
use Rattle.ice_defs.specs.Weighing.{lower_weights}
use Rattle.ice_defs.specs.declared.Group.TheVariants.{Final, Rival}
use Rattle.ice_defs.specs.Group.{empty_sets}
use Rattle.ice_defs.specs.Exchange.{Exchange, trees_of, exact_of, opening_bounds}
use Rattle.ice_defs.specs.Lawful.{IsExchange}
use Rattle.ice_defs.specs.Session.{Proved}
use Rattle.ice_journal.specs.Records.{Record, Version, version_2, regret_kind}
use Rattle.ice_journal.specs.Records as line
use Rattle.ice_journal.specs.Ranges.{IsRecord}
use Rattle.ice_section.specs.Described.{section_records}
use Rattle.ice_section.specs.Laws.{DescribedAreTaken}
use Rattle.ice_journal_laws.specs.State.{at_group, State, begun, exchange_at}
use Rattle.ice_journal_laws.specs.Next.{go_to}
use Rattle.ice_journal_laws.specs.Assigning.{section_state, section_of, exchange_state}
use Rattle.ice_journal_laws.specs.Showing.{group_records, stated_of, IsShown}
use Rattle.ice_journal_laws.specs.StepsTaken.{Earns}
use Rattle.ice_journal_laws.specs.Earning.{Earning, IsEarnedTaken, EarnsLog}
use Rattle.ice_journal_laws.specs.SoFar.{IsSoFar}
use Rattle.ice_journal_laws.proofs.CarriedSection.{section_carries, final_takes}
use Rattle.ice_journal_laws.proofs.CarriedRegret.{some_trees}
use Rattle.ice_journal_laws.proofs.CarriedTaken.{earns_join, earns_quiet}
use Rattle.ice_journal_laws.proofs.CarriedEarned.{group_earns}
use Rattle.ice_journal_laws.proofs.CarriedComing.{section_quiet}
use Rattle.ice_journal_laws.proofs.CarriedSpent.{spent_stands, first_spent_stands}
use Rattle.ice_journal_laws.proofs.CarriedStops.{IsWholeStop, spent_so_far}
use Rattle.ice_journal_laws.proofs.CarriedSpentSession.{IsWholeSearch, spent_rest_in}

whole_stop : (k : State) (p : Proved) → IsWholeSearch (exchange_at k) p → IsWholeStop k p
whole_stop k p is = record { some = is.some; count = is.count; counts = is.counts; ws = is.ws; target = is.target; start = is.start; passes = is.passes }

module _ (E : Earning) (taken : DescribedAreTaken) (v : Version) (ex : Exchange) (lawful : IsExchange ex) where
  -- up to the final group
  pub final_awaits : Earns (IsEarnedTaken E) (begun v regret_kind) (section_records ex) (section_state v regret_kind 2 (section_of ex))
  final_awaits = earns_quiet (IsEarnedTaken E) (begun v regret_kind) (section_state v regret_kind 2 (section_of ex)) (section_records ex) (section_carries taken v regret_kind ex lawful) (section_quiet ex)

  -- up to the rival
  pub rival_awaits : (final : Proved) → IsShown (trees_of ex) (exact_of ex) (lower_weights (opening_bounds ex)) Final final → EarnsLog E (trees_of ex) (exact_of ex) (lower_weights (opening_bounds ex)) Final (empty_sets (trees_of ex)) final.log
      → Earns (IsEarnedTaken E) (begun v regret_kind) (section_records ex ++ group_records v (length (exact_of ex)) (line.final final.value) final) (go_to (at_group Rival) (record (exchange_state v regret_kind 2 ex) { final = stated_of final }))
  rival_awaits final is earned =
      earns_join (IsEarnedTaken E) (begun v regret_kind) (section_state v regret_kind 2 (section_of ex)) (go_to (at_group Rival) (record (exchange_state v regret_kind 2 ex) { final = stated_of final })) (section_records ex) (group_records v (length (exact_of ex)) (line.final final.value) final)
      final_awaits
      (group_earns E (section_state v regret_kind 2 (section_of ex)) (exchange_state v regret_kind 2 ex) Final final (line.final final.value) tt (final_takes v ex final.value lawful) refl (some_trees ex lawful) is earned)

module _ (E : Earning) (taken : DescribedAreTaken) (ex : Exchange) (lawful : IsExchange ex) (p : Proved) (bound : ℤ) (is : IsWholeSearch ex p) where
  -- the final search is spent
  pub final_spent_so_far : (front back : List Record) → front ++ back ≡ spent_rest_in version_2 (length (exact_of ex)) p → AllByRecursion IsRecord (line.head version_2 regret_kind ∷ (section_records ex ++ line.spent p.value bound ∷ front))
      → IsSoFar regret_kind (line.head version_2 regret_kind ∷ (section_records ex ++ line.spent p.value bound ∷ front))
  final_spent_so_far front back e records =
      spent_so_far regret_kind (section_records ex) front back (section_state version_2 regret_kind 2 (section_of ex)) (exchange_state version_2 regret_kind 2 ex) p bound (final_awaits E taken version_2 ex lawful).carries refl
      (first_spent_stands version_2 ex p.value bound lawful) (whole_stop (exchange_state version_2 regret_kind 2 ex) p is) e records

  -- or the rival's
  pub rival_spent_so_far : (final : Proved) → IsShown (trees_of ex) (exact_of ex) (lower_weights (opening_bounds ex)) Final final → EarnsLog E (trees_of ex) (exact_of ex) (lower_weights (opening_bounds ex)) Final (empty_sets (trees_of ex)) final.log
      → (front back : List Record) → front ++ back ≡ spent_rest_in version_2 (length (exact_of ex)) p
      → AllByRecursion IsRecord (line.head version_2 regret_kind ∷ ((section_records ex ++ group_records version_2 (length (exact_of ex)) (line.final final.value) final) ++ line.spent p.value bound ∷ front))
      → IsSoFar regret_kind (line.head version_2 regret_kind ∷ ((section_records ex ++ group_records version_2 (length (exact_of ex)) (line.final final.value) final) ++ line.spent p.value bound ∷ front))
  rival_spent_so_far final shown earned front back e records =
      spent_so_far regret_kind (section_records ex ++ group_records version_2 (length (exact_of ex)) (line.final final.value) final) front back (go_to (at_group Rival) (record (exchange_state version_2 regret_kind 2 ex) { final = stated_of final })) (record (exchange_state version_2 regret_kind 2 ex) { final = stated_of final }) p bound
      (rival_awaits E taken version_2 ex lawful final shown earned).carries refl (spent_stands (record (exchange_state version_2 regret_kind 2 ex) { final = stated_of final }) Rival p.value bound)
      (whole_stop (record (exchange_state version_2 regret_kind 2 ex) { final = stated_of final }) p is) e records
