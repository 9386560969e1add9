-- The journal of a session between two groups: what leads to such a place is unended.
use Rattle.std.proofs.Common.{◌≡◌, ◌≢◌, ℕ, cond, eqb, List, [], ◌∷◌, Option, Some, None, refl, subst}
use Rattle.std.specs.Prelude.{option_map}
use Rattle.std.specs.List.{AllByRecursion}
use Rattle.std.proofs.lemmas.Option.{none-some}
use Rattle.ice_defs.specs.Bound.{Multipliers}
use Rattle.ice_defs.specs.Steps.{Step, sides_after}
use Rattle.ice_defs.specs.Rows.{Certificate}
use Rattle.ice_defs.specs.Round.{Judged}
use Rattle.ice_journal.specs.Records.{Record, Version, version_1, version_2, session_kind, spent_end}
use Rattle.ice_journal.specs.Records as line
use Rattle.ice_journal.specs.Plain.{all_zero}
use Rattle.ice_journal.specs.Ranges.{IsRecord}
use Rattle.ice_journal_laws.specs.State.{Place, at_section, at_group, at_sets, at_log, at_regret, at_prices, at_accuracy, at_accuracy_rows, at_balance_rows, at_round, at_verdict, at_threshold, at_payment, at_spent_sets, at_spent_log, at_pool, at_end, done, State, begun, goods_at}
use Rattle.ice_journal_laws.specs.Fields.{step_in, multipliers_after}
use Rattle.ice_journal_laws.specs.Next.{next_at, to_line, go_to, after_step, open_after}
use Rattle.ice_journal_laws.specs.Progress.{passing, TakesOn, passes_on}
use Rattle.ice_journal_laws.specs.Carrying.{Carries}
use Rattle.ice_journal_laws.proofs.Carried.{TakesTo, leads_ordered}
use Rattle.ice_journal_laws.proofs.CarriedRound.{resting}
use Rattle.ice_journal_laws.proofs.CarriedSoFar.{whole_unstopped}
use Rattle.ice_session_laws.specs.Written.{IsBetweenGroups, IsUnended}

between_open : (p : Place) → IsBetweenGroups p → p ≢ done
between_open p between e = subst IsBetweenGroups e between

pub unended : (records : List Record) (t : State) → Carries (begun version_2 session_kind) records t → AllByRecursion IsRecord (line.head version_2 session_kind ∷ records) → IsBetweenGroups t.place
    → IsUnended (line.head version_2 session_kind ∷ records)
unended records t h lawful between =
    let found = whole_unstopped session_kind records t h lawful (between_open t.place between) in
    let (m, l) = h.leads 2 in
    record {
      so_far = found.so_far;
      unstopped = found.unstopped;
      groups = record { state = to_line m t; reached = leads_ordered (begun version_2 session_kind) (to_line m t) records l; between = between };
    }

-- ---- a settlement begins between groups

no_step : (v : Version) (goods : ℕ) (m : Multipliers) (k : ℕ) → step_in v goods m (line.settle k) ≡ None
no_step version_1 goods m k = refl
no_step version_2 goods m k = refl

settles_at : (s : State) (p : Place) (k : ℕ) (t : State) → option_map (to_line 1) (next_at s p (line.settle k)) ≡ Some t → IsBetweenGroups p
settles_at s at_section k t e = tt
settles_at s (at_group g) k t e = tt
settles_at s (at_sets g found) k t e = absurd (none-some t e)
settles_at s (at_log g found sides m) k t e =
    absurd (none-some t (subst (λ (o : Option Step). option_map (to_line 1) (option_map (λ x. after_step s g found (sides_after sides x) (multipliers_after m x)) o) ≡ Some t) (no_step s.version (goods_at s) m k) e))
settles_at s at_regret k t e = absurd (none-some t e)
settles_at s at_prices k t e = tt
settles_at s at_accuracy k t e = absurd (none-some t e)
settles_at s (at_accuracy_rows den rows) k t e = absurd (none-some t e)
settles_at s (at_balance_rows den rows) k t e = tt
settles_at s at_round k t e = tt
settles_at s (at_verdict x) k t e = absurd (none-some t e)
settles_at s at_threshold k t e = tt
settles_at s (at_payment b) k t e = absurd (none-some t e)
settles_at s (at_spent_sets n) k t e = absurd (none-some t e)
settles_at s (at_spent_log n) k t e =
    absurd (none-some t (subst (λ (o : Option Step). option_map (to_line 1) (option_map (λ x. go_to (cond (eqb (open_after x n) 0) (at_end spent_end) (at_spent_log (open_after x n))) s) o) ≡ Some t) (no_step s.version (goods_at s) (all_zero (goods_at s)) k) e))
settles_at s at_pool k t e = absurd (none-some t e)
settles_at s (at_end word) k t e = absurd (none-some t e)
settles_at s done k t e = absurd (none-some t e)

pub settles_between : (s t : State) (k : ℕ) → TakesTo s (line.settle k) t → IsBetweenGroups s.place
settles_between s t k h = by (h 0)
  where
    by : TakesOn (to_line 0 s) (line.settle k) (passing (to_line 1 t)) → IsBetweenGroups s.place
    by (passes_on list none holds is) = settles_at (to_line 0 s) s.place k (to_line 1 t) is

-- ---- so does a submission

pub rests_between : (c : Certificate) (judged : List Judged) → IsBetweenGroups (resting c judged)
rests_between c [] = tt
rests_between c (j ∷ later) = tt
