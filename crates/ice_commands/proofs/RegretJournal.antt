-- The journal that `regret` writes is one of which its contract speaks.
use Rattle.std.proofs.Common.{◌≡◌, ℕ, List, [], ◌∷◌, ◌++◌, length, ℤ, pos, ◌-ℤ◌, ◌≤ℤ◌, refl, sym, ◌∙◌, ap, subst, arith, append_assoc, Some, Option, Ok}
use Rattle.std.specs.Prelude.{IsSome}
use Rattle.std.specs.List.{AllByRecursion}
use Rattle.std.proofs.lemmas.Int.{ints}
use Rattle.std.proofs.lemmas.List.{append-nil}
use Rattle.std.proofs.lemmas.Option.{none-some}
use Rattle.std.proofs.Common.{◌⊎◌, inl, inr}
use Rattle.ice_edge.specs.declared.status.Status.{Status}
use Rattle.ice_edge.specs.declared.status.Status.TheVariants.{Done, Spent, NoMemory}
use Rattle.ice_defs.specs.Set.{Weights}
use Rattle.ice_defs.specs.Trade.{Assignment, IsFeasible, total_value}
use Rattle.ice_defs.specs.Bounds.{Bounds}
use Rattle.ice_defs.specs.Weighing.{lower_weights, perturbed_weights}
use Rattle.ice_defs.specs.Sweep.{EarnsStep}
use Rattle.ice_defs.specs.Log.{Passes}
use Rattle.ice_defs.specs.declared.Group.TheVariants.{Final, Rival}
use Rattle.ice_defs.specs.Group.{free_side}
use Rattle.ice_defs.specs.Exchange.{Exchange, trees_of, exact_of, opening_bounds, IsBetween}
use Rattle.ice_defs.specs.Lawful.{IsExchange}
use Rattle.ice_defs.specs.Session.{Proved, Regretted}
use Rattle.ice_headline_laws.specs.Right.{IsBestFound}
use Rattle.ice_defs.proofs.Lists.{all-append}
use Rattle.ice_defs.proofs.Starts.{meets_free_side}
use Rattle.ice_regret_laws.proofs.Perturbed.{perturbed_gives_regret}
use Rattle.ice_bound.proofs.Modest.{lower_modest, perturbed_modest}
use Rattle.ice_refute.specs.Code.{CountsGoods}
use Rattle.ice_refute.proofs.Refutes.{log_refutes}
use Rattle.ice_search.specs.declared.results.Found.{Found}
use Rattle.ice_search.specs.declared.results.Spent as results
use Rattle.ice_search.specs.Results.{AreWritten, proved_found, proved_spent, IsSpentBy}
use Rattle.ice_regret.specs.declared.lead.Regret.{Regret}
use Rattle.ice_regret.specs.Regretted.{lower_search, rival_search, proved_rival, IsRegretOf}
use Rattle.ice_journal.specs.Records.{Record, version_2, regret_kind, regret_end, spent_end}
use Rattle.ice_journal.specs.Records as line
use Rattle.ice_journal.specs.Ranges.{IsRecord}
use Rattle.ice_journal.specs.Journal.{bytes_of}
use Rattle.ice_section.specs.Described.{section_records}
use Rattle.ice_section.proofs.Describing.{described_are_records, described_are_taken}
use Rattle.ice_journal_laws.specs.declared.rule.Rule.TheVariants as rule
use Rattle.ice_journal_laws.specs.State.{at_group, State, begun}
use Rattle.ice_journal_laws.specs.Next.{go_to}
use Rattle.ice_journal_laws.specs.Checks.{FirstFailure}
use Rattle.ice_journal_laws.specs.Assigning.{section_state, section_of, exchange_state}
use Rattle.ice_journal_laws.specs.Carrying.{Carries}
use Rattle.ice_journal_laws.specs.Showing.{group_records, regretted_in, stated_of, IsShown, IsShownRegretted}
use Rattle.ice_journal_laws.specs.SoFar.{IsSoFar}
use Rattle.ice_journal_laws.specs.Stops.{IsSpent}
use Rattle.ice_journal_laws.specs.Theorems.{IsRightRegret}
use Rattle.ice_journal_laws.proofs.Carried.{carries_stopped}
use Rattle.ice_journal_laws.proofs.CarriedSection.{section_carries}
use Rattle.ice_journal_laws.proofs.CarriedRegret.{some_trees, regretted_carries, regretted_checks}
use Rattle.ice_journal_laws.proofs.CarriedVersions.{regretted_says}
use Rattle.ice_journal_laws.proofs.CarriedSoFar.{IsSoFarUnstopped, whole_so_far, whole_unstopped}
use Rattle.ice_journal_laws.proofs.CarriedSpentSession.{IsWholeSearch, spent_rest_in}
use Rattle.ice_journal_laws.proofs.CarriedSpent.{spent_stands, first_spent_stands}
use Rattle.ice_journal_laws.proofs.CarriedSpentRegret.{rival_awaits, final_spent_so_far, rival_spent_so_far}
use Rattle.ice_journal_laws.proofs.CarriedIsSpentRegret.{final_is_spent, rival_is_spent}
use Rattle.ice_bound.proofs.Living.{opening_are_bounds}
use Rattle.ice_journal_laws.proofs.Past.{settled_right}
use Rattle.ice_write.proofs.Groups.{group_are_records}
use Rattle.ice_write.proofs.Writable.{writable}
use Rattle.ice_write_session.specs.Records.{final_records, spent_records}
use Rattle.ice_write_session.specs.Writable.{IsWritable, IsWritableRegret}
use Rattle.ice_session_laws.proofs.Worth.{IsWorth, worth_is, worth_is_total}
use Rattle.ice_session_laws.specs.Branches.{enough_for_regret}
use Rattle.ice_session_laws.specs.BranchLaws.{FinalIsSpent, RivalIsSpent}
use Rattle.ice_session_laws.proofs.Gaps.{final_gives_gap, rival_gives_gap}
use Rattle.ice_session_laws.proofs.BranchRegrets.{spent_regret_has_few}
use Rattle.ice_command_parts.specs.Call.{Call, file_limit, OfFile}
use Rattle.ice_command_parts.specs.Files.{IsExchangeOf}
use Rattle.ice_command_parts.specs.Journals.{HasExchangeOf, HasFewerThan}
use Rattle.ice_commands.specs.RegretServed.{IsRegretText, of_journal, RegretAnswers}
use Rattle.ice_commands.specs.RegretJournal.{begun_records, ending_records, IsFinal, IsRegretJournal, begins, final_spent, has_final, rival_spent, is_whole}
use Rattle.ice_command_parts.proofs.Parts.{told_also}

-- ---- lists

regrouped : (a b c : List Record) (x y : Record) → (a ++ b) ++ (c ++ (x ∷ y ∷ [])) ≡ (a ++ ((b ++ c) ++ x ∷ [])) ++ y ∷ []
regrouped a b c x y =
    append_assoc a b (c ++ (x ∷ y ∷ []))
    ∙ ap (λ (rs : List Record). a ++ rs) (sym (append_assoc (b ++ c) (x ∷ []) (y ∷ []) ∙ append_assoc b c (x ∷ y ∷ [])))
    ∙ sym (append_assoc a ((b ++ c) ++ x ∷ []) (y ∷ []))

module _ (ex : Exchange) (lawful : IsExchange ex) where
  abbrev bounds : List Bounds
  bounds = opening_bounds ex

  abbrev goods : ℕ
  goods = length (exact_of ex)

  -- ---- shown groups

  shown_final : (left : ℕ) (f : Found) → IsFinal ex left f → IsShown (trees_of ex) (exact_of ex) (lower_weights (opening_bounds ex)) Final (proved_found f)
  shown_final left f is = record { feasible = is.found.found.attained.feasible; value = is.found.found.attained.has; left_out = tt; counts = is.found.written.counts; passes = is.found.found.passes }

  shown_rival : (chosen : Assignment) (r : Regret) → IsRegretOf ex (opening_bounds ex) chosen r → IsShown (trees_of ex) (exact_of ex) (perturbed_weights chosen (opening_bounds ex)) Rival (proved_rival r)
  shown_rival chosen r is = record { feasible = is.found.attained.feasible; value = is.found.attained.has; left_out = tt; counts = is.written.counts; passes = is.found.passes }

  best_found : (ws : List Weights) (p : Proved) → IsFeasible (trees_of ex) (exact_of ex) p.sets → total_value p.sets ws ≡ p.value → AllByRecursion (CountsGoods (length (exact_of ex))) p.log
      → Passes (trees_of ex) (exact_of ex) ws p.value (free_side (trees_of ex)) p.log → IsBestFound ex (opening_bounds ex) ws p
  best_found ws p feasible has counts passes = record {
    feasible = feasible;
    value = has;
    best = record {
      attained = (p.sets, feasible, has);
      bound = λ a other. log_refutes (trees_of ex) (exact_of ex) ws p.value (free_side (trees_of ex)) p.log a counts passes other (meets_free_side (trees_of ex) a);
    };
  }

  -- ---- ranges

  final_worth : (left : ℕ) (f : Found) → IsFinal ex left f → IsWorth f.value
  final_worth left f is = worth_is ex (lower_weights (opening_bounds ex)) f.best f.value lawful (lower_modest (trees_of ex) (opening_bounds ex) (opening_are_bounds ex lawful)) is.found.found.attained.feasible is.found.found.attained.has

  rival_worth : (chosen : Assignment) (r : Regret) → IsRegretOf ex (opening_bounds ex) chosen r → IsWorth r.value
  rival_worth chosen r is =
      worth_is ex (perturbed_weights chosen (opening_bounds ex)) r.rival r.value lawful (perturbed_modest chosen (trees_of ex) (opening_bounds ex) (opening_are_bounds ex lawful)) is.found.attained.feasible is.found.attained.has

  pub final_writable : (left : ℕ) (f : Found) → IsFinal ex left f → IsWritable (length (exact_of ex)) (proved_found f)
  final_writable left f is = record {
    value = worth_is_total f.value (final_worth left f is);
    group = writable ex (lower_weights (opening_bounds ex)) f.value (free_side (trees_of ex)) f.best f.log lawful is.found.found.attained.feasible is.found.found.passes is.found.written.counts is.found.written.ranged;
  }

  rival_writable : (chosen : Assignment) (r : Regret) → IsRegretOf ex (opening_bounds ex) chosen r → IsWritable (length (exact_of ex)) (proved_rival r)
  rival_writable chosen r is = record {
    value = worth_is_total r.value (rival_worth chosen r is);
    group = writable ex (perturbed_weights chosen (opening_bounds ex)) r.value (free_side (trees_of ex)) r.rival r.log lawful is.found.attained.feasible is.found.passes is.written.counts is.written.ranged;
  }

  pub first_spent_writable : (used : ℕ) (s : results.Spent) → IsSpentBy (lower_search ex (opening_bounds ex)) used s → IsWritable (length (exact_of ex)) (proved_spent s)
  first_spent_writable used s is = record {
    value = worth_is_total s.value (worth_is ex (lower_weights (opening_bounds ex)) s.found s.value lawful (lower_modest (trees_of ex) (opening_bounds ex) (opening_are_bounds ex lawful)) is.spent.attained.feasible is.spent.attained.has);
    group = writable ex (lower_weights (opening_bounds ex)) s.bound (free_side (trees_of ex)) s.found s.log lawful is.spent.attained.feasible is.spent.passes is.written.counts is.written.ranged;
  }

  pub second_spent_writable : (chosen : Assignment) (used : ℕ) (s : results.Spent) → IsSpentBy (rival_search ex (opening_bounds ex) chosen) used s → IsWritable (length (exact_of ex)) (proved_spent s)
  second_spent_writable chosen used s is = record {
    value = worth_is_total s.value (worth_is ex (perturbed_weights chosen (opening_bounds ex)) s.found s.value lawful (perturbed_modest chosen (trees_of ex) (opening_bounds ex) (opening_are_bounds ex lawful)) is.spent.attained.feasible is.spent.attained.has);
    group = writable ex (perturbed_weights chosen (opening_bounds ex)) s.bound (free_side (trees_of ex)) s.found s.log lawful is.spent.attained.feasible is.spent.passes is.written.counts is.written.ranged;
  }

  begun_are : AllByRecursion IsRecord (begun_records ex)
  begun_are = (tt, described_are_records ex lawful)

  final_are : (left : ℕ) (f : Found) → IsFinal ex left f → AllByRecursion IsRecord (final_records ex f)
  final_are left f is = group_are_records (line.final f.value) (length (exact_of ex)) f.best f.log (final_writable left f is).value (final_writable left f is).group

  -- the regret is no less than 0, by which the sets lead
  -- themselves, and the difference of the two values
  regret_is : (left : ℕ) (f : Found) (r : Regret) → IsFinal ex left f → IsRegretOf ex (opening_bounds ex) f.best r → IsBetween (pos 0) (pos 400000000000000) r.amount
  regret_is left f r final is =
      let final_is = final_worth left f final in
      let rival_is = rival_worth f.best r is in
      let own = is.regret.bound 1 (perturbed_weights f.best (opening_bounds ex)) f.best is.inside final.found.found.attained.feasible in
      let none : pos 0 ≤ℤ r.amount = omega (arith, ints, own) in
      (none, omega (arith, ints, is.difference, final.found.found.attained.has, final_is.0, rival_is.1))

  pub regret_writable : (left : ℕ) (f : Found) (r : Regret) → IsFinal ex left f → IsRegretOf ex (opening_bounds ex) f.best r → IsWritableRegret (length (exact_of ex)) r
  regret_writable left f r final is = record { rival = rival_writable f.best r is; amount = regret_is left f r final is }

  ending_are : (left : ℕ) (f : Found) (r : Regret) → IsFinal ex left f → IsRegretOf ex (opening_bounds ex) f.best r → AllByRecursion IsRecord (ending_records ex r)
  ending_are left f r final is =
      let rival = rival_writable f.best r is in
      all-append IsRecord (group_records version_2 (length (exact_of ex)) (line.rival r.value) (proved_rival r)) (line.regret r.amount ∷ line.end regret_end ∷ [])
      (group_are_records (line.rival r.value) (length (exact_of ex)) r.rival r.log rival.value rival.group)
      (regret_is left f r final is, (tt, tt))

  module _ (s : results.Spent) (written : AreWritten (length (exact_of ex)) s.log) (ws : List Weights) (feasible : IsFeasible (trees_of ex) (exact_of ex) s.found)
      (passes : Passes (trees_of ex) (exact_of ex) ws s.bound (free_side (trees_of ex)) s.log) where
    spent_are : IsRecord (line.spent s.value s.bound) → AllByRecursion IsRecord (spent_records ex s)
    spent_are fits =
        all-append IsRecord (group_records version_2 (length (exact_of ex)) (line.spent s.value s.bound) (proved_spent s)) (line.end spent_end ∷ [])
        (group_are_records (line.spent s.value s.bound) (length (exact_of ex)) s.found s.log fits (writable ex ws s.bound (free_side (trees_of ex)) s.found s.log lawful feasible passes written.counts written.ranged))
        (tt, tt)

    whole_search : IsWholeSearch ex (proved_spent s)
    whole_search = record { some = some_trees ex lawful; count = feasible.same_length; counts = written.counts; ws = ws; target = s.bound; start = free_side (trees_of ex); passes = passes }

  -- ---- the journal is begun

  begun_so_far : IsSoFarUnstopped regret_kind (begun_records ex)
  begun_so_far = whole_unstopped regret_kind (section_records ex) (section_state version_2 regret_kind 2 (section_of ex)) (section_carries described_are_taken version_2 regret_kind ex lawful) begun_are (λ e. cc)

  module _ (call : Call) (name : List ℕ) (told : OfFile call name file_limit (λ bytes. IsExchangeOf bytes (Ok ex))) where
    -- a journal that begins with the exchange has that of the file
    has_exchange : (journal rest : List Record) → journal ≡ begun_records ex ++ rest → HasExchangeOf call name regret_kind journal
    has_exchange journal rest e = told_also (call.before.holds name) file_limit (λ bytes. IsExchangeOf bytes (Ok ex)) _ (λ bytes is. (ex, is, inr (rest, e))) told

    unended : (journal rest : List Record) → IsSoFarUnstopped regret_kind journal → journal ≡ begun_records ex ++ rest → call.text ≡ bytes_of journal → IsRegretText call name call.text
    unended journal rest found e text =
        subst (IsRegretText call name) (sym text) (of_journal (record { so_far = found.so_far; exchange_is = has_exchange journal rest e }) found.unstopped)

    -- and fewer branches than would be enough, where a search is spent
    fewer : FinalIsSpent ex (opening_bounds ex) ⊎ RivalIsSpent ex (opening_bounds ex) → HasFewerThan call name enough_for_regret
    fewer spent = told_also (call.before.holds name) file_limit (λ bytes. IsExchangeOf bytes (Ok ex)) _ (λ bytes is. (ex, is, spent_regret_has_few ex (opening_bounds ex) spent)) told

    begun_answers : call.text ≡ bytes_of (begun_records ex) → RegretAnswers call name NoMemory
    begun_answers text = unended (begun_records ex) [] begun_so_far (sym (append-nil (begun_records ex))) text

    -- ---- the first search is spent

    module _ (s : results.Spent) (is : IsSpentBy (lower_search ex (opening_bounds ex)) ex.settings.branches s) (fits : IsRecord (line.spent s.value s.bound)) where
      first_records : AllByRecursion IsRecord (begun_records ex ++ spent_records ex s)
      first_records = all-append IsRecord (begun_records ex) (spent_records ex s) begun_are (spent_are s is.written (lower_weights (opening_bounds ex)) is.spent.attained.feasible is.spent.passes fits)

      first_so_far : IsSoFar regret_kind (begun_records ex ++ spent_records ex s)
      first_so_far =
          final_spent_so_far EarnsStep described_are_taken ex lawful (proved_spent s) s.bound (whole_search s is.written (lower_weights (opening_bounds ex)) is.spent.attained.feasible is.spent.passes)
          (spent_rest_in version_2 (length (exact_of ex)) (proved_spent s)) [] (append-nil (spent_rest_in version_2 (length (exact_of ex)) (proved_spent s))) first_records

      first_stop : (place : ℕ) × FirstFailure (begun_records ex ++ spent_records ex s) (Some (record { line = place; rule = rule.Closed }))
      first_stop =
          carries_stopped version_2 regret_kind (section_records ex) (spent_rest_in version_2 (length (exact_of ex)) (proved_spent s)) (line.spent s.value s.bound) (section_state version_2 regret_kind 2 (section_of ex))
          (section_carries described_are_taken version_2 regret_kind ex lawful) (λ n x f. absurd (none-some x f))
          (λ n. (refl, subst (λ (o : Option State). IsSome o) (sym (first_spent_stands version_2 ex s.value s.bound lawful n)) refl))

      first_spends : call.text ≡ bytes_of (begun_records ex ++ spent_records ex s) → RegretAnswers call name Spent
      first_spends text = record {
        journal = begun_records ex ++ spent_records ex s;
        written = record { lawful = first_records; spelled = text };
        so_far = record { so_far = first_so_far; exchange_is = has_exchange (begun_records ex ++ spent_records ex s) (spent_records ex s) refl };
        stop = first_stop;
        spent = final_is_spent described_are_taken ex lawful (proved_spent s) s.bound is.written.counts is.spent is.branches;
        gap = final_gives_gap ex lawful (proved_spent s) s.bound is.written.counts is.spent;
        few = fewer (inl (s, is));
      }

    -- ---- the final group is there

    module _ (left : ℕ) (f : Found) (final : IsFinal ex left f) where
      abbrev AtRival : State
      AtRival = record (exchange_state version_2 regret_kind 2 ex) { final = stated_of (proved_found f) }

      final_carries : Carries (begun version_2 regret_kind) (section_records ex ++ final_records ex f) (go_to (at_group Rival) (record (exchange_state version_2 regret_kind 2 ex) { final = stated_of (proved_found f) }))
      final_carries = (rival_awaits EarnsStep described_are_taken version_2 ex lawful (proved_found f) (shown_final left f final) final.found.found.earned).carries

      final_answers : call.text ≡ bytes_of (begun_records ex ++ final_records ex f) → RegretAnswers call name NoMemory
      final_answers text =
          unended (begun_records ex ++ final_records ex f) (final_records ex f)
          (whole_unstopped regret_kind (section_records ex ++ final_records ex f) (go_to (at_group Rival) AtRival) final_carries (all-append IsRecord (begun_records ex) (final_records ex f) begun_are (final_are left f final)) (λ e. cc))
          refl text

      -- ---- the second search is spent

      module _ (s : results.Spent) (is : IsSpentBy (rival_search ex (opening_bounds ex) f.best) left s) (fits : IsRecord (line.spent s.value s.bound)) where
        second_records : AllByRecursion IsRecord ((begun_records ex ++ final_records ex f) ++ spent_records ex s)
        second_records =
            all-append IsRecord (begun_records ex ++ final_records ex f) (spent_records ex s) (all-append IsRecord (begun_records ex) (final_records ex f) begun_are (final_are left f final))
            (spent_are s is.written (perturbed_weights f.best (opening_bounds ex)) is.spent.attained.feasible is.spent.passes fits)

        second_so_far : IsSoFar regret_kind ((begun_records ex ++ final_records ex f) ++ spent_records ex s)
        second_so_far =
            rival_spent_so_far EarnsStep described_are_taken ex lawful (proved_spent s) s.bound (whole_search s is.written (perturbed_weights f.best (opening_bounds ex)) is.spent.attained.feasible is.spent.passes)
            (proved_found f) (shown_final left f final) final.found.found.earned
            (spent_rest_in version_2 (length (exact_of ex)) (proved_spent s)) [] (append-nil (spent_rest_in version_2 (length (exact_of ex)) (proved_spent s))) second_records

        second_stop : (place : ℕ) × FirstFailure ((begun_records ex ++ final_records ex f) ++ spent_records ex s) (Some (record { line = place; rule = rule.Closed }))
        second_stop =
            carries_stopped version_2 regret_kind (section_records ex ++ final_records ex f) (spent_rest_in version_2 (length (exact_of ex)) (proved_spent s)) (line.spent s.value s.bound) (go_to (at_group Rival) AtRival)
            final_carries (λ n x f. absurd (none-some x f))
            (λ n. (refl, subst (λ (o : Option State). IsSome o) (sym (spent_stands AtRival Rival s.value s.bound n)) refl))

        second_spends : call.text ≡ bytes_of ((begun_records ex ++ final_records ex f) ++ spent_records ex s) → RegretAnswers call name Spent
        second_spends text = record {
          journal = (begun_records ex ++ final_records ex f) ++ spent_records ex s;
          written = record { lawful = second_records; spelled = text };
          so_far = record {
            so_far = second_so_far;
            exchange_is = has_exchange ((begun_records ex ++ final_records ex f) ++ spent_records ex s) (final_records ex f ++ spent_records ex s) (append_assoc (begun_records ex) (final_records ex f) (spent_records ex s));
          };
          stop = second_stop;
          spent = subst (IsSpent regret_kind) (sym (append_assoc (begun_records ex) (final_records ex f) (spent_records ex s)))
              (rival_is_spent described_are_taken ex lawful (proved_spent s) s.bound is.written.counts (proved_found f) (shown_final left f final) final.found.found.earned is.spent (omega (arith, final.branches, is.branches)));
          gap = rival_gives_gap ex lawful (proved_spent s) s.bound is.written.counts (proved_found f) (shown_final left f final) final.found.found.earned is.spent;
          few = fewer (inr (left, f, s, final.found, final.branches, is));
        }

      -- ---- the journal is whole

      module _ (r : Regret) (is : IsRegretOf ex (opening_bounds ex) f.best r) where
        abbrev Said : Regretted
        Said = record { exchange = ex; settlement = record { final = proved_found f; rival = proved_rival r; regret = r.amount } }

        abbrev Journal : List Record
        Journal = regretted_in version_2 Said

        amount_is : r.amount ≡ (r.value -ℤ f.value)
        amount_is = is.difference ∙ ap (λ (v : ℤ). r.value -ℤ v) final.found.found.attained.has

        shown : IsShownRegretted Said
        shown = record { exchange = lawful; settlement = record { final = shown_final left f final; rival = shown_rival f.best r is; regret = amount_is } }

        same_journal : (begun_records ex ++ final_records ex f) ++ ending_records ex r ≡ Journal
        same_journal = regrouped (begun_records ex) (final_records ex f) (group_records version_2 (length (exact_of ex)) (line.rival r.value) (proved_rival r)) (line.regret r.amount) (line.end regret_end)

        whole_records : AllByRecursion IsRecord Journal
        whole_records =
            subst (AllByRecursion IsRecord) same_journal
            (all-append IsRecord (begun_records ex ++ final_records ex f) (ending_records ex r) (all-append IsRecord (begun_records ex) (final_records ex f) begun_are (final_are left f final)) (ending_are left f r final is))

        settled : IsRightRegret Said
        settled = record {
          exchange = lawful;
          settled = settled_right perturbed_gives_regret ex (opening_bounds ex) Said.settlement (opening_are_bounds ex lawful) (record {
            final = best_found (lower_weights (opening_bounds ex)) (proved_found f) final.found.found.attained.feasible final.found.found.attained.has final.found.written.counts final.found.found.passes;
            rival = best_found (perturbed_weights f.best (opening_bounds ex)) (proved_rival r) is.found.attained.feasible is.found.attained.has is.written.counts is.found.passes;
            amount = amount_is;
          });
        }

        ends : call.text ≡ bytes_of ((begun_records ex ++ final_records ex f) ++ ending_records ex r) → RegretAnswers call name Done
        ends text = record {
          journal = Journal;
          said = Said;
          written = record { lawful = whole_records; spelled = text ∙ ap bytes_of same_journal };
          says = regretted_says Said shown;
          so_far = record {
            so_far = whole_so_far regret_kind _ _ (regretted_carries described_are_taken version_2 Said shown) whole_records;
            exchange_is = has_exchange Journal (final_records ex f ++ ending_records ex r) (sym same_journal ∙ append_assoc (begun_records ex) (final_records ex f) (ending_records ex r));
          };
          exchange_is = told;
          right = settled;
          checks = regretted_checks described_are_taken version_2 Said shown;
        }

    -- what is written answers the call
    pub regret_answers : (journal : List Record) (status : Status) → IsRegretJournal ex journal status → call.text ≡ bytes_of journal → RegretAnswers call name status
    regret_answers journal status begins text = begun_answers text
    regret_answers journal status (final_spent s is fits) text = first_spends s is fits text
    regret_answers journal status (has_final left f final) text = final_answers left f final text
    regret_answers journal status (rival_spent left f s final is fits) text = second_spends left f final s is fits text
    regret_answers journal status (is_whole left f r final is) text = ends left f final r is text
