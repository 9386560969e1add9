-- What is answered where the records end.
use Rattle.std.proofs.Common.{◌≡◌, ℕ, Bool, true, false, cond, List, [], ◌∷◌, refl, sym, ◌∙◌, ap, subst}
use Rattle.std.specs.Prelude.{int_lt, Option, Some, None}
use Rattle.ice_journal.specs.Records.{Record, spent_end}
use Rattle.ice_journal.specs.Records as line
use Rattle.ice_journal.specs.Journal.{IsJournal}
use Rattle.ice_journal_laws.specs.declared.rule.Rule.{Rule}
use Rattle.ice_journal_laws.specs.declared.rule.Rule.TheVariants as rule
use Rattle.ice_journal_laws.specs.Fields.{is_end}
use Rattle.ice_journal_laws.specs.State.{State, begun}
use Rattle.ice_journal_laws.specs.Checks.{is_checked, IsChecked}
use Rattle.ice_journal_laws.specs.Progress.{Progress, nothing, other_kind, passing, failed, out_of_memory, TakesOn, passes_on, fails_at, list_fails_at}
use Rattle.ice_gap_laws.specs.Gap.{Gap, gap_in, at_gap_sets, with_target, is_in_group, GapProgress, checking, in_group, at_close, ended, no_gap, from_stop, unless_stopped, in_its_group, out_of_order, IsGapAfter, GapLeads, stays, goes}
use Rattle.ice_gap_laws.specs.Answers.{gap_answer, AnswersGap}
use Rattle.ice_gap_laws.specs.Laws.{GapEndIsAnswer}

-- ---- a journal of a kind that is checked has an answer

-- the head is read, and memory was left
abbrev IsRead : GapProgress → Type 0
IsRead (checking nothing) = ⊥
IsRead (checking other_kind) = ⊥
IsRead (checking out_of_memory) = ⊥
IsRead p = Unit {0}

stop_read : (s : State) (o : Option Gap) → IsRead (from_stop s o)
stop_read s None = tt
stop_read s (Some gap) = by (int_lt gap.value gap.bound)
  where
    by : (b : Bool) → IsRead (cond b (in_group gap (at_gap_sets gap s)) (no_gap s.line))
    by true = tt
    by false = tt

failed_read : (s : State) (r : Record) (x : Rule) (n : ℕ) → IsRead (unless_stopped (passing s) r (failed (record { line = n; rule = x })))
failed_read s r rule.Closed n = stop_read s (gap_in s r)
failed_read s r other n = tt

taken_read : (s : State) (r : Record) (q : Progress) → TakesOn s r q → IsRead (unless_stopped (passing s) r q)
taken_read s r q (passes_on list none holds is) = tt
taken_read s r q (fails_at {x = x} list first) = failed_read s r x _
taken_read s r q (list_fails_at {x = x} e fails) = failed_read s r x _

group_read : (gap : Gap) (s : State) (r : Record) (q : Progress) → TakesOn s r q → IsRead (in_its_group gap q)
group_read gap s r q (passes_on {after = after} list none holds is) = by (is_in_group after.place)
  where
    by : (b : Bool) → IsRead (cond b (in_group gap (with_target gap.bound after)) (at_close gap after.line))
    by true = tt
    by false = tt
group_read gap s r q (fails_at list first) = tt
group_read gap s r q (list_fails_at e fails) = tt

close_read : (gap : Gap) (n m : ℕ) (b : Bool) → IsRead (cond b (ended gap m) (out_of_order n))
close_read gap n m true = tt
close_read gap n m false = tt

read_on : (p : GapProgress) (r : Record) (q : GapProgress) → IsRead p → IsGapAfter p r q → IsRead q
read_on (checking nothing) r q h is = absurd h
read_on (checking other_kind) r q h is = absurd h
read_on (checking out_of_memory) r q h is = absurd h
read_on (checking (passing s)) r q h (x, is, e) = subst IsRead (sym e) (taken_read s r x is)
read_on (checking (failed failure)) r q h (x, is, e) = subst IsRead (sym (e ∙ ap checking is)) tt
read_on (in_group gap s) r q h (x, is, e) = subst IsRead (sym e) (group_read gap s r x is)
read_on (at_close gap n) r q h e = subst IsRead (sym e) (close_read gap n _ (is_end spent_end r))
read_on (ended gap n) r q h e = subst IsRead (sym e) tt
read_on (no_gap n) r q h e = subst IsRead (sym e) tt

read_all : (p q : GapProgress) (records : List Record) → IsRead p → GapLeads p records q → IsRead q
read_all p q [] h stays = h
read_all p q (r ∷ rest) h (goes {q = mine} is l) = read_all mine q rest (read_on p r mine h is) l

checked_read : (journal : List Record) (p : GapProgress) → IsChecked journal → GapLeads (checking nothing) journal p → IsRead p
checked_read [] p checked l = absurd checked
checked_read (line.head version kind ∷ rest) p checked (goes {q = mine} (q, is, e) l) =
    read_all mine p rest (subst IsRead (sym (e ∙ ap checking is)) (by (is_checked version kind) checked)) l
  where
    by : (b : Bool) → b ≡ true → IsRead (checking (cond b (passing (begun version kind)) other_kind))
    by true e = tt
    by false e = absurd cc
checked_read (other ∷ rest) p checked l = absurd checked

-- ---- the answer

gives : (bytes : List ℕ) (journal : List Record) (p : GapProgress) → IsJournal bytes journal → GapLeads (checking nothing) journal p → (q : GapProgress) → p ≡ q → AnswersGap bytes (gap_answer q)
gives bytes journal p is l (checking nothing) e = (journal, is, λ checked. subst IsRead e (checked_read journal p checked l))
gives bytes journal p is l (checking other_kind) e = (journal, is, λ checked. subst IsRead e (checked_read journal p checked l))
gives bytes journal p is l (checking out_of_memory) e = tt
gives bytes journal p is l (checking (passing s)) e = (journal, is, (p, l, ap gap_answer e))
gives bytes journal p is l (checking (failed failure)) e = (journal, is, (p, l, ap gap_answer e))
gives bytes journal p is l (in_group gap s) e = (journal, is, (p, l, ap gap_answer e))
gives bytes journal p is l (at_close gap n) e = (journal, is, (p, l, ap gap_answer e))
gives bytes journal p is l (ended gap n) e = (journal, is, (p, l, ap gap_answer e))
gives bytes journal p is l (no_gap n) e = (journal, is, (p, l, ap gap_answer e))

pub gap_end_is_answer : GapEndIsAnswer
gap_end_is_answer bytes journal p is l = gives bytes journal p is l p refl
