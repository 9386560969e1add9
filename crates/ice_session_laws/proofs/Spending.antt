-- A settlement that stops at a search that spent its branches: where it had come, and the journal.
use Rattle.std.proofs.Common.{◌≡◌, ◌≤◌, ◌+◌, ℕ, suc, List, [], ◌∷◌, ◌++◌, length, map, ℤ, arith, refl, sym, subst, ◌∙◌, ap, append_assoc, Option}
use Rattle.std.specs.Prelude.{IfSome}
use Rattle.std.specs.List.{AllByRecursion}
use Rattle.std.proofs.lemmas.List.{append-nil, length-map}
use Rattle.std.proofs.lemmas.List.Sums.{sum_by-cons}
use Rattle.ice_defs.specs.Steps.{branch_count}
use Rattle.ice_defs.specs.Set.{Weights}
use Rattle.ice_defs.specs.Bounds.{Bounds}
use Rattle.ice_defs.specs.Weighing.{lower_weights, weighted_weights, perturbed_weights}
use Rattle.ice_defs.specs.Sweep.{EarnsStep}
use Rattle.ice_defs.specs.Searched.{IsSpentSearch}
use Rattle.ice_defs.specs.declared.Group.TheVariants.{Final, Rival, Provisional, Without}
use Rattle.ice_defs.specs.Group.{start_of, empty_sets}
use Rattle.ice_defs.specs.Exchange.{Exchange, trees_of, exact_of, opening_bounds}
use Rattle.ice_defs.specs.Lawful.{IsExchange}
use Rattle.ice_defs.specs.Session.{Going}
use Rattle.ice_headline_laws.specs.Right.{bounds_after_rounds}
use Rattle.ice_defs.proofs.Lists.{all-append}
use Rattle.ice_defs.specs.Conditions.{AreBoundsOf, AreWeightsOf}
use Rattle.ice_bound.proofs.Modest.{lower_modest, weighted_modest, perturbed_modest}
use Rattle.ice_search.specs.Results.{proved_found, proved_spent}
use Rattle.ice_search.specs.declared.results.Found.{Found}
use Rattle.ice_search.specs.declared.results.Spent.{Spent}
use Rattle.ice_regret.specs.declared.lead.Regret.{Regret}
use Rattle.ice_vickrey.specs.Marginals.{proved_without, AreMarginalsFrom, branches_of}
use Rattle.ice_vickrey.specs.declared.marginal.Marginal.{Marginal}
use Rattle.ice_journal.specs.Records.{Record, version_2, session_kind}
use Rattle.ice_journal.specs.Records as line
use Rattle.ice_journal.specs.Ranges.{IsRecord}
use Rattle.ice_section.specs.Described.{section_records}
use Rattle.ice_section.proofs.Describing.{described_are_taken}
use Rattle.ice_journal_laws.specs.ShowingSession.{goings_in}
use Rattle.ice_journal_laws.specs.Earning.{EarnsWithouts}
use Rattle.ice_journal_laws.specs.Positions.{Position, before_final, before_rival, before_provisional, before_without, position_records, IsShownPosition, EarnsPosition, group_branches, position_branches}
use Rattle.ice_journal_laws.specs.SoFar.{IsSoFar}
use Rattle.ice_journal_laws.specs.Stops.{IsSpent}
use Rattle.ice_journal_laws.proofs.CarriedPosition.{Awaits, session_awaits}
use Rattle.ice_journal_laws.proofs.CarriedSpentSession.{IsWholeSearch, spent_rest_in, session_spent_so_far}
use Rattle.ice_journal_laws.proofs.CarriedIsSpent as carried
use Rattle.ice_round.specs.SessionAt.{SessionAt}
use Rattle.ice_settled.specs.Shown.{settlement_of}
use Rattle.ice_round.specs.Ends.{IsHaltOf, IsSpentAt, at_final, at_rival, at_without, at_provisional}
use Rattle.ice_settled.specs.declared.settled.Halt.{Halt}
use Rattle.ice_write_session.specs.Records.{spent_records}
use Rattle.ice_write_session.specs.Writable.{IsWritable, IsWritableRegret, AreWritableWithout, IsWritableHalt}
use Rattle.ice_session_laws.specs.Running.{IsRunning}
use Rattle.ice_session_laws.specs.Stops.{ComesTo, to_final, to_rival, to_provisional, to_without}
use Rattle.ice_session_laws.specs.Written.{run_records, IsSpentJournal}
use Rattle.ice_session_laws.proofs.Worth.{worth_is_total}
use Rattle.ice_session_laws.proofs.Found.{found_shown, found_worth, found_writable, spent_worth, spent_writable, spent_whole}
use Rattle.ice_session_laws.proofs.Settling.{settlement_shown, settlement_earned, final_may_be_written, regret_may_be_written}
use Rattle.ice_session_laws.proofs.Gaps.{session_gives_gap}
use Rattle.ice_session_laws.proofs.Closings.{withouts_shown, withouts_may_be_written}
use Rattle.ice_session_laws.proofs.Sessions.{run_are}

-- the groups before the search are shown and earned, and the search spent what they left
pub record StopsAt (s : SessionAt) (at : Position) (spent : Spent) : Type 0 where
  pub shown : IsShownPosition s.exchange s.number s.bounds at
  pub earned : EarnsPosition EarnsStep s.exchange s.bounds at
  pub whole : IsWholeSearch s.exchange (proved_spent spent)
  pub search : carried.IsSpentAt s.exchange s.bounds at (proved_spent spent) spent.bound
  pub branches : position_branches at + branch_count spent.log ≡ s.branches
  pub may_be_written : IsWritable (length (exact_of s.exchange)) (proved_spent spent)

-- what was found before may be written
pub record MayBeWritten (goods : ℕ) (best : Option Found) (regret : Option Regret) (provisional : Option Found) (ms : List Marginal) : Type 0 where
  pub final : IfSome best (λ best. IsWritable goods (proved_found best))
  pub regret_is : IfSome regret (IsWritableRegret goods)
  pub withouts : AreWritableWithout goods ms
  pub provisional_is : IfSome provisional (λ p. IsWritable goods (proved_found p))

pub record Stopped (s : SessionAt) (best : Option Found) (regret : Option Regret) (provisional : Option Found) (ms : List Marginal) (spent : Spent) : Type 0 where
  pub at : Position
  pub comes : ComesTo best regret provisional ms at
  pub stops : StopsAt s at spent
  pub found : MayBeWritten (length (exact_of s.exchange)) best regret provisional ms

branches_without : (ms : List Marginal) → group_branches (map proved_without ms) ≡ branches_of ms
branches_without [] = refl
branches_without (m ∷ ms) = omega (arith, branches_without ms, sum_by-cons (λ (x : Marginal). branch_count x.log) m ms)

module _ (s : SessionAt) (lawful : IsExchange s.exchange) (are : AreBoundsOf (trees_of s.exchange) s.bounds) where
  abbrev goods : ℕ
  goods = length (exact_of s.exchange)

  no_withouts : AreWritableWithout (length (exact_of s.exchange)) []
  no_withouts = record { few = omega arith; each = tt }

  lower_are : AreWeightsOf (trees_of s.exchange) (lower_weights s.bounds)
  lower_are = lower_modest (trees_of s.exchange) s.bounds are

  weighted_are : AreWeightsOf (trees_of s.exchange) (weighted_weights s.exchange.settings.weight s.bounds)
  weighted_are = weighted_modest s.exchange.settings.weight (trees_of s.exchange) s.bounds lawful.settings.weight are

  pub withouts_earned : (total : ℤ) (b : ℕ) (ms : List Marginal) → AreMarginalsFrom (record { exchange = s.exchange; bounds = s.bounds; total = total }) b ms
      → EarnsWithouts EarnsStep (trees_of s.exchange) (exact_of s.exchange) (lower_weights s.bounds) b (map proved_without ms)
  withouts_earned total b [] marginals = tt
  withouts_earned total b (m ∷ ms) (one, later) = (one.found.earned, withouts_earned total (suc b) ms later)

  pub stopped : (best : Option Found) (regret : Option Regret) (provisional : Option Found) (ms : List Marginal) (spent : Spent) → IsSpentAt s best regret provisional ms spent → Stopped s best regret provisional ms spent
  stopped _ _ _ _ _ (at_final {spent = spent} is) = record {
    at = before_final;
    comes = to_final;
    stops = record {
      shown = tt;
      earned = tt;
      whole = spent_whole s.exchange lawful (lower_weights s.bounds) lower_are (empty_sets (trees_of s.exchange)) Final (proved_spent spent) spent.bound is.spent is.written;
      search = is.spent;
      branches = omega (arith, is.branches);
      may_be_written = record {
        value = worth_is_total spent.value (spent_worth s.exchange lawful (lower_weights s.bounds) lower_are (empty_sets (trees_of s.exchange)) Final (proved_spent spent) spent.bound is.spent is.written);
        group = spent_writable s.exchange lawful (lower_weights s.bounds) lower_are (empty_sets (trees_of s.exchange)) Final (proved_spent spent) spent.bound is.spent is.written;
      };
    };
    found = record { final = tt; regret_is = tt; withouts = no_withouts; provisional_is = tt };
  }
  stopped _ _ _ _ _ (at_rival {best = best} {spent = spent} left found count is) =
      let ws : List Weights = perturbed_weights best.best s.bounds in
      let weights : AreWeightsOf (trees_of s.exchange) ws = perturbed_modest best.best (trees_of s.exchange) s.bounds are in
      record {
        at = before_rival (proved_found best);
        comes = to_rival;
        stops = record {
          shown = found_shown s.exchange lawful (lower_weights s.bounds) lower_are (empty_sets (trees_of s.exchange)) Final (proved_found best) found.found found.written tt;
          earned = found.found.earned;
          whole = spent_whole s.exchange lawful ws weights best.best Rival (proved_spent spent) spent.bound is.spent is.written;
          search = is.spent;
          branches = omega (arith, count, is.branches);
          may_be_written = record {
            value = worth_is_total spent.value (spent_worth s.exchange lawful ws weights best.best Rival (proved_spent spent) spent.bound is.spent is.written);
            group = spent_writable s.exchange lawful ws weights best.best Rival (proved_spent spent) spent.bound is.spent is.written;
          };
        };
        found = record {
          final = record {
            value = worth_is_total best.value (found_worth s.exchange lawful (lower_weights s.bounds) lower_are (empty_sets (trees_of s.exchange)) Final (proved_found best) found.found found.written);
            group = found_writable s.exchange lawful (lower_weights s.bounds) lower_are (empty_sets (trees_of s.exchange)) Final (proved_found best) found.found found.written;
          };
          regret_is = tt;
          withouts = no_withouts;
          provisional_is = tt;
        };
      }
  stopped _ _ _ _ _ (at_provisional {best = best} {regret = regret} {spent = spent} left goes_on settlement count is) =
      let ws : List Weights = weighted_weights s.exchange.settings.weight s.bounds in
      record {
        at = before_provisional (settlement_of best regret);
        comes = to_provisional;
        stops = record {
          shown = (goes_on, settlement_shown s lawful are best regret settlement);
          earned = settlement_earned s lawful are best regret settlement;
          whole = spent_whole s.exchange lawful ws weighted_are (empty_sets (trees_of s.exchange)) Provisional (proved_spent spent) spent.bound is.spent is.written;
          search = is.spent;
          branches = omega (arith, count, is.branches);
          may_be_written = record {
            value = worth_is_total spent.value (spent_worth s.exchange lawful ws weighted_are (empty_sets (trees_of s.exchange)) Provisional (proved_spent spent) spent.bound is.spent is.written);
            group = spent_writable s.exchange lawful ws weighted_are (empty_sets (trees_of s.exchange)) Provisional (proved_spent spent) spent.bound is.spent is.written;
          };
        };
        found = record {
          final = final_may_be_written s lawful are best regret settlement;
          regret_is = regret_may_be_written s lawful are best regret settlement;
          withouts = no_withouts;
          provisional_is = tt;
        };
      }
  stopped _ _ _ _ _ (at_without {best = best} {regret = regret} {done = done} {spent = spent} left closing settlement count is) =
      let ws : List Weights = lower_weights s.bounds in
      let same : length done ≡ length (map proved_without done) = sym (length-map done proved_without) in
      record {
        at = before_without (settlement_of best regret) (map proved_without done);
        comes = to_without;
        stops = record {
          shown = (closing, settlement_shown s lawful are best regret settlement, omega (arith, is.next, same), withouts_shown s lawful are best.value 0 done is.each);
          earned = (settlement_earned s lawful are best regret settlement, withouts_earned best.value 0 done is.each);
          whole = spent_whole s.exchange lawful ws lower_are (empty_sets (trees_of s.exchange)) (Without (length done)) (proved_spent spent) spent.bound is.spent.spent is.spent.written;
          search = subst (λ (k : ℕ). IsSpentSearch (trees_of s.exchange) (exact_of s.exchange) (lower_weights s.bounds) (start_of (trees_of s.exchange) (Without k)) (empty_sets (trees_of s.exchange)) (proved_spent spent) spent.bound) same is.spent.spent;
          branches = omega (arith, count, is.branches, branches_without done);
          may_be_written = record {
            value = worth_is_total spent.value (spent_worth s.exchange lawful ws lower_are (empty_sets (trees_of s.exchange)) (Without (length done)) (proved_spent spent) spent.bound is.spent.spent is.spent.written);
            group = spent_writable s.exchange lawful ws lower_are (empty_sets (trees_of s.exchange)) (Without (length done)) (proved_spent spent) spent.bound is.spent.spent is.spent.written;
          };
        };
        found = record {
          final = final_may_be_written s lawful are best regret settlement;
          regret_is = regret_may_be_written s lawful are best regret settlement;
          withouts = withouts_may_be_written s lawful are best.value done (omega (arith, is.next)) is.each;
          provisional_is = tt;
        };
      }

-- ---- the halt may be written

pub found_may_be_written : (s : SessionAt) (h : Halt) → IsHaltOf s h → s.number ≤ 20 → MayBeWritten (length (exact_of s.exchange)) h.best h.regret h.provisional h.marginals.items → IsWritableHalt h
found_may_be_written s h is few found =
    let here = subst (λ (x : Exchange). MayBeWritten (length (exact_of x)) h.best h.regret h.provisional h.marginals.items) (sym is.exchange) found in
    record { number = omega (arith, few, is.number); final = here.final; regret = here.regret_is; withouts = here.withouts; provisional = here.provisional_is }

-- ---- the journal

module _ (going : List Going) (s : SessionAt) (run : IsRunning going s) (at : Position) (spent : Spent) (stops : StopsAt s at spent) where
  abbrev goings : List Record
  goings = goings_in version_2 (length (exact_of s.exchange)) 0 going

  abbrev position : ℕ → List Record
  position k = position_records version_2 (length (exact_of s.exchange)) k at

  shown : IsShownPosition s.exchange (length going) (bounds_after_rounds s.exchange (opening_bounds s.exchange) going) at
  shown =
      subst (λ (b : List Bounds). IsShownPosition s.exchange (length going) b at) (sym run.bounds)
      (subst (λ (k : ℕ). IsShownPosition s.exchange k s.bounds at) (sym run.number) stops.shown)

  earned : EarnsPosition EarnsStep s.exchange (bounds_after_rounds s.exchange (opening_bounds s.exchange) going) at
  earned = subst (λ (b : List Bounds). EarnsPosition EarnsStep s.exchange b at) (sym run.bounds) stops.earned

  awaits : Awaits EarnsStep (section_records s.exchange ++ goings_in version_2 (length (exact_of s.exchange)) 0 going ++ position_records version_2 (length (exact_of s.exchange)) (length going) at) version_2 s.exchange
      (bounds_after_rounds s.exchange (opening_bounds s.exchange) going) at
  awaits = session_awaits EarnsStep described_are_taken version_2 s.exchange run.exchange going run.shown run.earned at shown earned

  number_is : position_records version_2 (length (exact_of s.exchange)) s.number at ≡ position_records version_2 (length (exact_of s.exchange)) (length going) at
  number_is = ap (λ (k : ℕ). position_records version_2 (length (exact_of s.exchange)) k at) (sym run.number)

  spent_so_far : AllByRecursion IsRecord (run_records s.exchange going ++ position_records version_2 (length (exact_of s.exchange)) (length going) at ++ spent_records s.exchange spent)
      → IsSoFar session_kind (run_records s.exchange going ++ position_records version_2 (length (exact_of s.exchange)) (length going) at ++ spent_records s.exchange spent)
  spent_so_far records =
      session_spent_so_far EarnsStep (section_records s.exchange ++ goings ++ position (length going)) s.exchange (bounds_after_rounds s.exchange (opening_bounds s.exchange) going) at awaits (proved_spent spent) spent.bound stops.whole
      (spent_rest_in version_2 (length (exact_of s.exchange)) (proved_spent spent)) [] (append-nil (spent_rest_in version_2 (length (exact_of s.exchange)) (proved_spent spent))) records

  grouped : section_records s.exchange ++ ((goings_in version_2 (length (exact_of s.exchange)) 0 going ++ position_records version_2 (length (exact_of s.exchange)) (length going) at) ++ spent_records s.exchange spent)
      ≡ section_records s.exchange ++ goings_in version_2 (length (exact_of s.exchange)) 0 going ++ position_records version_2 (length (exact_of s.exchange)) (length going) at ++ spent_records s.exchange spent
  grouped =
      sym (append_assoc (section_records s.exchange) (goings ++ position (length going)) (spent_records s.exchange spent))
      ∙ ap (λ (rs : List Record). rs ++ spent_records s.exchange spent) (sym (append_assoc (section_records s.exchange) goings (position (length going))))

  is_spent : IsSpent session_kind (run_records s.exchange going ++ position_records version_2 (length (exact_of s.exchange)) (length going) at ++ spent_records s.exchange spent)
  is_spent =
      subst (λ (rs : List Record). IsSpent session_kind (line.head version_2 session_kind ∷ rs)) grouped
      (carried.session_is_spent described_are_taken s.exchange run.exchange going run.shown run.earned at shown earned (proved_spent spent) spent.bound stops.whole.counts
      (subst (λ (b : List Bounds). carried.IsSpentAt s.exchange b at (proved_spent spent) spent.bound) (sym run.bounds) stops.search) (omega (arith, stops.branches, run.branches)))

  pub run_spends : AllByRecursion IsRecord (position_records version_2 (length (exact_of s.exchange)) s.number at) → AllByRecursion IsRecord (spent_records s.exchange spent)
      → IsSpentJournal (run_records s.exchange going ++ position_records version_2 (length (exact_of s.exchange)) s.number at ++ spent_records s.exchange spent)
  run_spends before behind =
      let all = all-append IsRecord (run_records s.exchange going ++ position s.number) (spent_records s.exchange spent) (all-append IsRecord (run_records s.exchange going) (position s.number) (run_are going s run) before) behind in
      subst (λ (rs : List Record). IsSpentJournal (run_records s.exchange going ++ rs ++ spent_records s.exchange spent)) (sym number_is) (record {
        so_far = spent_so_far (subst (λ (rs : List Record). AllByRecursion IsRecord (run_records s.exchange going ++ rs ++ spent_records s.exchange spent)) number_is all);
        spent = is_spent;
        gap = session_gives_gap (section_records s.exchange ++ goings ++ position (length going)) (proved_spent spent) spent.bound s.exchange (length going) (bounds_after_rounds s.exchange (opening_bounds s.exchange) going) at run.exchange awaits shown
            stops.whole.counts (subst (λ (b : List Bounds). carried.IsSpentAt s.exchange b at (proved_spent spent) spent.bound) (sym run.bounds) stops.search);
      })
