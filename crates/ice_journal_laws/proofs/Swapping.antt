-- Two submissions of different bidders, each with its verdict, may change places in a journal.
use Rattle.std.proofs.Common.{◌≡◌, ◌≢◌, ℕ, suc, Bool, true, false, cond, List, [], ◌∷◌, ◌++◌, refl, sym, ◌∙◌, subst}
use Rattle.std.specs.Prelude.{Option, Some, None, option_map}
use Rattle.ice_defs.specs.declared.Verdict.{Verdict}
use Rattle.ice_defs.specs.Round.{Submission, Judged, IsNextVerdict}
use Rattle.ice_defs.specs.Bound.{Multipliers}
use Rattle.ice_defs.specs.Session.{standings}
use Rattle.ice_defs.specs.declared.Group.TheVariants.{Assign, Final, Rival, Provisional, Without}
use Rattle.ice_round_laws.proofs.Names.{false_at_others, of_name_stays}
use Rattle.ice_round_laws.proofs.Others.{own_submissions_tell, others_swap}
use Rattle.ice_journal.specs.Records.{Record, Version, version_1, version_2, Kind, assign_kind, regret_kind, session_kind, exchange_kind, prices_kind}
use Rattle.ice_journal.specs.Records as line
use Rattle.ice_journal.specs.Plain.{all_zero}
use Rattle.ice_section.specs.Section.{may_end}
use Rattle.ice_journal_laws.specs.declared.rule.Rule.{Rule}
use Rattle.ice_journal_laws.specs.declared.rule.Rule.TheVariants as rule
use Rattle.ice_journal_laws.specs.Fields.{step_in}
use Rattle.ice_journal_laws.specs.State.{Place, at_section, at_group, at_sets, at_log, at_regret, at_prices, at_accuracy, at_accuracy_rows, at_balance_rows, at_round, at_verdict, at_threshold, at_payment, at_spent_sets, at_spent_log, at_pool, at_end, done, State, begun, exchange_at, settings_at, goods_at}
use Rattle.ice_journal_laws.specs.Next.{next, next_at, go_to, to_line, after_section, past_section}
use Rattle.ice_journal_laws.specs.Tests.{Fails, Holds}
use Rattle.ice_journal_laws.specs.Checks.{Tested, goes_on, Checks}
use Rattle.ice_journal_laws.specs.Progress.{EndsList}
use Rattle.ice_journal_laws.specs.Reordering.{Reordered, same, swapped, OrderOfRoundsIsFree, ReorderedIsMutual}
use Rattle.ice_journal_laws.proofs.Alike.{Step, passes_alike}

-- ---- where a submission may stand

abbrev TakesSubmissions : Place → Type 0
TakesSubmissions (at_balance_rows den rows) = Unit {0}
TakesSubmissions at_round = Unit {0}
TakesSubmissions other = ⊥

no_step : (version : Version) (goods : ℕ) (m : Multipliers) (x : Submission) → step_in version goods m (line.submit x) ≡ None
no_step version_1 goods m x = refl
no_step version_2 goods m x = refl

never : {X : Type 0} (f : X → State) (o : Option X) (t : State) → o ≡ None → option_map f o ≡ Some t → ⊥
never f None t e h = cc
never f (Some x) t e h = cc

of_section : (kind : Kind) (s t : State) (x : Submission) → after_section s kind (line.submit x) ≡ Some t → ⊥
of_section assign_kind s t x h = cc
of_section regret_kind s t x h = cc
of_section session_kind s t x h = cc
of_section exchange_kind s t x h = cc
of_section prices_kind s t x h = cc

takes : (place : Place) (s t : State) (x : Submission) → next_at s place (line.submit x) ≡ Some t → TakesSubmissions place
takes at_section s t x h = by (may_end s.section) h
  where
    by : (b : Bool) → cond b (after_section (past_section s) s.kind (line.submit x)) None ≡ Some t → ⊥
    by true h = of_section s.kind (past_section s) t x h
    by false h = cc
takes (at_group Assign) s t x h = absurd (cc)
takes (at_group Final) s t x h = absurd (cc)
takes (at_group Rival) s t x h = absurd (cc)
takes (at_group Provisional) s t x h = absurd (cc)
takes (at_group (Without b)) s t x h = absurd (cc)
takes (at_sets g found) s t x h = absurd (cc)
takes (at_log g found sides m) s t x h = never _ (step_in s.version (goods_at s) m (line.submit x)) t (no_step s.version (goods_at s) m x) h
takes at_regret s t x h = absurd (cc)
takes at_prices s t x h = absurd (cc)
takes at_accuracy s t x h = absurd (cc)
takes (at_accuracy_rows den rows) s t x h = absurd (cc)
takes (at_balance_rows den rows) s t x h = tt
takes at_round s t x h = tt
takes (at_verdict y) s t x h = absurd (cc)
takes at_threshold s t x h = absurd (cc)
takes (at_payment b) s t x h = absurd (cc)
takes (at_spent_sets taken) s t x h = absurd (cc)
takes (at_spent_log open_sides) s t x h = never _ (step_in s.version (goods_at s) (all_zero (goods_at s)) (line.submit x)) t (no_step s.version (goods_at s) (all_zero (goods_at s)) x) h
takes at_pool s t x h = absurd (cc)
takes (at_end word) s t x h = absurd (cc)
takes done s t x h = absurd (cc)

-- ---- a submission

abbrev submitted : State → Submission → State
submitted s x = to_line (suc s.line) (go_to (at_verdict x) s)

submit_next : (place : Place) (s : State) (x : Submission) → TakesSubmissions place → next (go_to place s) (line.submit x) ≡ Some (submitted s x)
submit_next (at_balance_rows den rows) s x takes = refl
submit_next at_round s x takes = refl
submit_next other s x takes = absurd takes

submit_fails : (place : Place) (s : State) (x : Submission) (r : Rule) → TakesSubmissions place → Fails r (go_to place s) (line.submit x) → ⊥
submit_fails (at_balance_rows den rows) s x rule.Closed takes f = let e : false ≡ true = f.0 in cc
submit_fails (at_balance_rows den rows) s x rule.Order takes f = let e : Some (submitted s x) ≡ None = f in cc
submit_fails (at_balance_rows den rows) s x rule.Exchange takes f = let e : at_balance_rows den rows ≡ at_section = f.0 in cc
submit_fails (at_balance_rows den rows) s x rule.Balance takes f = f.1
submit_fails (at_balance_rows den rows) s x other takes f = f
submit_fails at_round s x rule.Closed takes f = let e : false ≡ true = f.0 in cc
submit_fails at_round s x rule.Order takes f = let e : Some (submitted s x) ≡ None = f in cc
submit_fails at_round s x rule.Exchange takes f = let e : at_round ≡ at_section = f.0 in cc
submit_fails at_round s x other takes f = f
submit_fails place s x r takes f = absurd takes

submit_holds : (place : Place) (s : State) (x : Submission) → TakesSubmissions place → Holds (go_to place s) (line.submit x)
submit_holds (at_balance_rows den rows) s x takes = record { leaf = tt; violation = tt; list = λ last. tt; verdict = tt }
submit_holds at_round s x takes = record { leaf = tt; violation = tt; list = tt; verdict = tt }
submit_holds other s x takes = absurd takes

submit_ends : (place : Place) (s : State) (x y : Submission) → TakesSubmissions place → EndsList (go_to place s) (line.submit x) → EndsList (go_to place s) (line.submit y)
submit_ends (at_balance_rows den rows) s x y takes list = list
submit_ends at_round s x y takes list = list
submit_ends other s x y takes list = absurd takes

submit_step : (place : Place) (s : State) (x y : Submission) → TakesSubmissions place → EndsList (go_to place s) (line.submit x) → Step (go_to place s) (line.submit y) (submitted s y)
submit_step place s x y takes list = record {
  list = submit_ends place s x y takes list;
  none = λ r f. submit_fails place s y r takes f;
  holds = submit_holds place s y takes;
  is = submit_next place s y takes;
}

-- ---- a verdict

abbrev IsNext : State → Submission → Verdict → Type 0
IsNext s x v = IsNextVerdict s.prices (settings_at s).improve (standings (exchange_at s) s.bounds s.offered) s.judged x v

abbrev with_verdict : State → Submission → Verdict → State
with_verdict s x v = to_line (suc s.line) (go_to at_round (record s { judged = s.judged ++ record { submission = x; verdict = v } ∷ [] }))

verdict_fails : (s : State) (x : Submission) (v : Verdict) (r : Rule) → IsNext s x v → Fails r (go_to (at_verdict x) s) (line.verdict v) → ⊥
verdict_fails s x v rule.Closed is f = let e : false ≡ true = f.0 in cc
verdict_fails s x v rule.Order is f = let e : Some (with_verdict s x v) ≡ None = f in cc
verdict_fails s x v rule.Exchange is f = let e : at_verdict x ≡ at_section = f.0 in cc
verdict_fails s x v rule.Verdict is f = f is
verdict_fails s x v other is f = f

verdict_step : (s : State) (x : Submission) (v : Verdict) → IsNext s x v → Step (go_to (at_verdict x) s) (line.verdict v) (with_verdict s x v)
verdict_step s x v is = record {
  list = λ y e. tt;
  none = λ r f. verdict_fails s x v r is f;
  holds = record { leaf = tt; violation = tt; list = tt; verdict = is };
  is = refl;
}

-- ---- records that pass

abbrev Passes : State → List Record → Type 0
Passes s records = Tested s records None

-- a passing record, with what comes after it
first_step : (s : State) (r : Record) (rest : List Record) (t : State) → next s r ≡ Some t → Passes s (r ∷ rest) → Step s r t × Passes t rest
first_step s r rest t e (goes_on {after = after} list none holds is more) =
    let here : after ≡ t = some_same after t (sym is ∙ e) in
    (record { list = list; none = none; holds = holds; is = e }, subst (λ (u : State). Passes u rest) here more)
  where
    some_same : (u v : State) → Some u ≡ Some v → u ≡ v
    some_same u v e = cc

step_then : (s : State) (r : Record) (rest : List Record) (t : State) → Step s r t → Passes t rest → Passes s (r ∷ rest)
step_then s r rest t step more = goes_on step.list step.none step.holds step.is more

first_takes : (place : Place) (s : State) (x : Submission) (rest : List Record) → Passes (go_to place s) (line.submit x ∷ rest) → TakesSubmissions place
first_takes place s x rest (goes_on {after = after} list none holds is more) = by (next_at (go_to place s) place (line.submit x)) refl is
  where
    by : (o : Option State) → next_at (go_to place s) place (line.submit x) ≡ o → option_map (to_line (suc s.line)) o ≡ Some after → TakesSubmissions place
    by None e is = absurd (cc)
    by (Some t) e is = takes place (go_to place s) t x e

-- ---- two submissions

swap_at : (place : Place) (s : State) (a b : Submission) (v w : Verdict) (after : List Record) → a.name ≢ b.name → TakesSubmissions place
    → Passes (go_to place s) (line.submit a ∷ line.verdict v ∷ line.submit b ∷ line.verdict w ∷ after) → Passes (go_to place s) (line.submit b ∷ line.verdict w ∷ line.submit a ∷ line.verdict v ∷ after)
swap_at place s a b v w after apart takes pass =
    let (step_1, pass_1) = first_step (go_to place s) (line.submit a) (line.verdict v ∷ line.submit b ∷ line.verdict w ∷ after) (submitted s a) (submit_next place s a takes) pass in
    let (step_2, pass_2) = first_step (submitted s a) (line.verdict v) (line.submit b ∷ line.verdict w ∷ after) (judges s a v) refl pass_1 in
    let (step_3, pass_3) = first_step (judges s a v) (line.submit b) (line.verdict w ∷ after) (submitted (judges s a v) b) refl pass_2 in
    let (step_4, pass_4) = first_step (submitted (judges s a v) b) (line.verdict w) after (judges (judges s a v) b w) refl pass_3 in
    let next_b : IsNext s b w = without (record { submission = a; verdict = v }) b w (λ e. apart (sym e)) (step_4.holds).verdict in
    let next_a : IsNext (judges s b w) a v = after_other (record { submission = b; verdict = w }) a v apart (step_2.holds).verdict in
    let pass_after : Passes (judges (judges s b w) a v) after =
    passes_alike (judges (judges s a v) b w) after (both b w a v) (others_swap s.judged (record { submission = a; verdict = v }) (record { submission = b; verdict = w }) apart) pass_4 in
    step_then (go_to place s) (line.submit b) (line.verdict w ∷ line.submit a ∷ line.verdict v ∷ after) (submitted s b) (submit_step place s a b takes step_1.list)
    (step_then (submitted s b) (line.verdict w) (line.submit a ∷ line.verdict v ∷ after) (judges s b w) (verdict_step (submitted s b) b w next_b)
    (step_then (judges s b w) (line.submit a) (line.verdict v ∷ after) (submitted (judges s b w) a) (submit_step at_round (judges s b w) a a tt (λ y e. tt))
    (step_then (submitted (judges s b w) a) (line.verdict v) after (judges (judges s b w) a v) (verdict_step (submitted (judges s b w) a) a v next_a) pass_after)))
  where
    judges : State → Submission → Verdict → State
    judges t x y = with_verdict (submitted t x) x y

    both : Submission → Verdict → Submission → Verdict → List Judged
    both x y z u = (s.judged ++ record { submission = x; verdict = y } ∷ []) ++ record { submission = z; verdict = u } ∷ []

    without : (j : Judged) (x : Submission) (y : Verdict) → x.name ≢ j.submission.name
        → IsNextVerdict s.prices (settings_at s).improve (standings (exchange_at s) s.bounds s.offered) (s.judged ++ j ∷ []) x y → IsNext s x y
    without j x y n next = own_submissions_tell s.prices (settings_at s).improve (standings (exchange_at s) s.bounds s.offered) (s.judged ++ j ∷ []) s.judged x y
        (of_name_stays x.name s.judged j (false_at_others x.name j.submission.name n)) next

    after_other : (j : Judged) (x : Submission) (y : Verdict) → x.name ≢ j.submission.name
        → IsNext s x y → IsNextVerdict s.prices (settings_at s).improve (standings (exchange_at s) s.bounds s.offered) (s.judged ++ j ∷ []) x y
    after_other j x y n next = own_submissions_tell s.prices (settings_at s).improve (standings (exchange_at s) s.bounds s.offered) s.judged (s.judged ++ j ∷ []) x y
        (sym (of_name_stays x.name s.judged j (false_at_others x.name j.submission.name n))) next

swap_in : (s : State) (a b : Submission) (v w : Verdict) (after : List Record) → a.name ≢ b.name
    → Passes s (line.submit a ∷ line.verdict v ∷ line.submit b ∷ line.verdict w ∷ after) → Passes s (line.submit b ∷ line.verdict w ∷ line.submit a ∷ line.verdict v ∷ after)
swap_in s a b v w after apart pass = swap_at s.place s a b v w after apart (first_takes s.place s a (line.verdict v ∷ line.submit b ∷ line.verdict w ∷ after) pass) pass

-- ---- a journal

swap_after : (before : List Record) (s : State) (a b : Submission) (v w : Verdict) (after : List Record) → a.name ≢ b.name
    → Passes s (before ++ line.submit a ∷ line.verdict v ∷ line.submit b ∷ line.verdict w ∷ after) → Passes s (before ++ line.submit b ∷ line.verdict w ∷ line.submit a ∷ line.verdict v ∷ after)
swap_after [] s a b v w after apart pass = swap_in s a b v w after apart pass
swap_after (r ∷ before) s a b v w after apart (goes_on {after = t} list none holds is more) = goes_on list none holds is (swap_after before t a b v w after apart more)

swap_checks : (before : List Record) (a b : Submission) (v w : Verdict) (after : List Record) → a.name ≢ b.name
    → Checks (before ++ line.submit a ∷ line.verdict v ∷ line.submit b ∷ line.verdict w ∷ after) → Checks (before ++ line.submit b ∷ line.verdict w ∷ line.submit a ∷ line.verdict v ∷ after)
swap_checks [] a b v w after apart checks = absurd checks.0
swap_checks (line.head version kind ∷ before) a b v w after apart checks = (checks.0, swap_after before (begun version kind) a b v w after apart checks.1)
swap_checks (other ∷ before) a b v w after apart checks = absurd checks.0

reordered : {one other : List Record} → Reordered one other → Checks one → Checks other
reordered same checks = checks
reordered (swapped before after a b v w apart rest) checks = reordered rest (swap_checks before a b v w after apart checks)

pub order_of_rounds_is_free : OrderOfRoundsIsFree
order_of_rounds_is_free one other kind order checks = reordered order checks

-- ---- both ways

then : {one other last : List Record} → Reordered one other → Reordered other last → Reordered one last
then same order = order
then (swapped before after a b v w apart rest) order = swapped before after a b v w apart (then rest order)

back : {one other : List Record} → Reordered one other → Reordered other one
back same = same
back (swapped before after a b v w apart rest) = then (back rest) (swapped before after b a w v (λ e. apart (sym e)) same)

pub reordered_is_mutual : ReorderedIsMutual
reordered_is_mutual one other order = back order
