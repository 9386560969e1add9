-- States that differ only in the order of a round's submissions go on alike.
use Rattle.std.proofs.Common.{◌≡◌, ◌+◌, suc, Bool, true, false, cond, List, [], ◌∷◌, ◌++◌, length, ℤ, pos, ◌↔◌, refl, sym, ◌∙◌, ap, subst}
use Rattle.std.specs.Str.{bytes_eq}
use Rattle.std.specs.Prelude.{if◌then◌else◌, ◌==◌, slice_index_or, Option, Some, None, is_some, IfSome, IsSomeAnd, option_map, option_and_then, Result, Ok, Err}
use Rattle.ice_defs.specs.declared.Verdict.{Verdict}
use Rattle.ice_defs.specs.Bound.{Multipliers}
use Rattle.ice_defs.specs.Steps.{Side, sides_after}
use Rattle.ice_defs.specs.Rows.{Row}
use Rattle.ice_defs.specs.Round.{Submission, Judged, IsNextVerdict}
use Rattle.ice_defs.specs.Exchange.{names_of}
use Rattle.ice_defs.specs.Session.{standings}
use Rattle.ice_defs.specs.declared.Group.{Group}
use Rattle.ice_defs.specs.declared.Group.TheVariants.{Assign, Final, Rival, Provisional, Without}
use Rattle.ice_round_laws.specs.Laws.{SameOfEach}
use Rattle.ice_round_laws.proofs.Order.{same_bounds}
use Rattle.ice_round_laws.proofs.Others.{same_push, own_submissions_tell}
use Rattle.ice_journal.specs.Records.{Record, Kind, assign_kind, regret_kind, session_kind, exchange_kind, prices_kind, closed_end, spent_end, limit_end}
use Rattle.ice_journal.specs.Plain.{all_zero}
use Rattle.ice_journal.specs.Records as line
use Rattle.ice_section.specs.Section.{Section, SectionFault, order, count, no_good, maker, take_record, may_end}
use Rattle.ice_journal_laws.specs.Fields.{head_value, set_in, is_assign, settlement_in, is_spent, step_in, multipliers_after, amount_in, prices_in, is_limit, is_pool, accuracy_in, balance_in, row_in, verdict_in, threshold_in, payment_in, is_end, is_round_stop}
use Rattle.ice_journal_laws.specs.State.{Stated, Place, at_section, at_group, at_sets, at_log, at_regret, at_prices, at_accuracy, at_accuracy_rows, at_balance_rows, at_round, at_verdict, at_threshold, at_payment, at_spent_sets, at_spent_log, at_pool, at_end, done, State, exchange_at, settings_at, goods_at}
use Rattle.ice_journal_laws.specs.Next.{next, next_at, go_to, to_line, bidder_count, if_true, or_stop, may_have_row, with_row, from_head, after_sets, with_set, after_log, after_step, after_regret, to_balance, next_settlement, to_settlement, from_round, open_after, from_end, after_section, past_section, from_section}
use Rattle.ice_journal_laws.specs.declared.rule.Rule.{Rule}
use Rattle.ice_journal_laws.specs.declared.rule.Rule.TheVariants as rule
use Rattle.ice_journal_laws.specs.Tests.{Fails, IsOtherRegret, HasUnlawfulPrices, HasOtherViolation, FailsAccuracy, FailsBalance, IsOtherVerdict, IsOtherThreshold, IsOtherPayment, HasViolation, HasFullList, HasVerdict, Holds, ListHolds}
use Rattle.ice_journal_laws.specs.Checks.{Tested, passes, goes_on}
use Rattle.ice_journal_laws.specs.Progress.{EndsList}

-- ---- states alike

abbrev pub with_judged : List Judged → State → State
with_judged judged s = record s { judged = judged }

-- the one has the other's submissions of each name in their order, and all else is the same
abbrev pub AreAlike : State → State → Type 0
AreAlike s t = (judged : List Judged) × (t ≡ with_judged judged s) × SameOfEach s.judged judged

abbrev pub GoAlike : Option State → Option State → Type 0
GoAlike None None = Unit {0}
GoAlike None (Some t) = ⊥
GoAlike (Some s) None = ⊥
GoAlike (Some s) (Some t) = AreAlike s t

of_map : {X : Type 0} (f g : X → State) (o : Option X) → ((x : X) → AreAlike (f x) (g x)) → GoAlike (option_map f o) (option_map g o)
of_map f g None each = tt
of_map f g (Some x) each = each x

of_then : {X : Type 0} (f g : X → Option State) (o : Option X) → ((x : X) → GoAlike (f x) (g x)) → GoAlike (option_and_then f o) (option_and_then g o)
of_then f g None each = tt
of_then f g (Some x) each = each x

of_test : (b : Bool) (s t : State) → AreAlike s t → GoAlike (if_true b s) (if_true b t)
of_test true s t h = h
of_test false s t h = tt

of_stop : (b : Bool) (s t : State) (o u : Option State) → AreAlike s t → GoAlike o u → GoAlike (or_stop b s o) (or_stop b t u)
of_stop b s t None None h go = of_test b s t h
of_stop b s t None (Some u) h go = absurd go
of_stop b s t (Some o) None h go = absurd go
of_stop b s t (Some o) (Some u) h go = go

of_choice : (b : Bool) (o u v w : Option State) → GoAlike o v → GoAlike u w → GoAlike (cond b o u) (cond b v w)
of_choice true o u v w first second = first
of_choice false o u v w first second = second

of_states : (b : Bool) (s t u v : State) → AreAlike s u → AreAlike t v → AreAlike (cond b s t) (cond b u v)
of_states true s t u v first second = first
of_states false s t u v first second = second

-- ---- where they go

module _ (judged : List Judged) where
  abbrev Kept : State → Type 0
  Kept s = SameOfEach s.judged judged

  of_head : (s : State) (g : Group) (r : Record) (o : Option ℤ) → Kept s → GoAlike (from_head s g r o) (from_head (with_judged judged s) g r o)
  of_head s g r None same = of_test (is_spent r) (go_to (at_spent_sets 0) s) (go_to (at_spent_sets 0) (with_judged judged s)) (judged, refl, same)
  of_head s g r (Some value) same = (judged, refl, same)

  of_sets : (s : State) (g : Group) (found : Stated) → Kept s → AreAlike (after_sets s g found) (after_sets (with_judged judged s) g found)
  of_sets s Assign found same = (judged, refl, same)
  of_sets s Final found same = (judged, refl, same)
  of_sets s Rival found same = (judged, refl, same)
  of_sets s Provisional found same = (judged, refl, same)
  of_sets s (Without b) found same = (judged, refl, same)

  of_log : (s : State) (g : Group) (found : Stated) → Kept s → AreAlike (after_log s g found) (after_log (with_judged judged s) g found)
  of_log s Assign found same = (judged, refl, same)
  of_log s Final found same = (judged, refl, same)
  of_log s Rival found same = (judged, refl, same)
  of_log s Provisional found same = (judged, refl, same)
  of_log s (Without b) found same = (judged, refl, same)

  of_step : (s : State) (g : Group) (found : Stated) (sides : List Side) (m : Multipliers) → Kept s → AreAlike (after_step s g found sides m) (after_step (with_judged judged s) g found sides m)
  of_step s g found [] m same = of_log s g found same
  of_step s g found (side ∷ sides) m same = (judged, refl, same)

  of_regret : (s : State) (kind : Kind) → Kept s → AreAlike (after_regret s kind) (after_regret (with_judged judged s) kind)
  of_regret s session_kind same = (judged, refl, same)
  of_regret s other same = (judged, refl, same)

  of_row : (rows : List Row) (place : List Row → Place) (s : State) (r : Record) (o u : Option State) → Kept s → GoAlike o u → GoAlike (with_row rows place s r o) (with_row rows place (with_judged judged s) r u)
  of_row rows place s r None None same go =
      of_then (λ row. if_true (may_have_row rows) (go_to (place (rows ++ row ∷ [])) s)) (λ row. if_true (may_have_row rows) (go_to (place (rows ++ row ∷ [])) (with_judged judged s))) (row_in r)
      (λ row. of_test (may_have_row rows) (go_to (place (rows ++ row ∷ [])) s) (go_to (place (rows ++ row ∷ [])) (with_judged judged s)) (judged, refl, same))
  of_row rows place s r None (Some u) same go = absurd go
  of_row rows place s r (Some o) None same go = absurd go
  of_row rows place s r (Some o) (Some u) same go = go

  of_after : (s : State) (kind : Kind) (r : Record) → Kept s → GoAlike (after_section s kind r) (after_section (with_judged judged s) kind r)
  of_after s assign_kind r same =
      of_test (is_assign r) (go_to (at_sets Assign (record { value = pos 0; sets = [] })) s) (go_to (at_sets Assign (record { value = pos 0; sets = [] })) (with_judged judged s)) (judged, refl, same)
  of_after s regret_kind r same = of_head s Final r (head_value Final r) same
  of_after s session_kind r same =
      of_then (λ number. if_true (number == 0) (go_to (at_group Final) s)) (λ number. if_true (number == 0) (go_to (at_group Final) (with_judged judged s))) (settlement_in r)
      (λ number. of_test (number == 0) (go_to (at_group Final) s) (go_to (at_group Final) (with_judged judged s)) (judged, refl, same))
  of_after s exchange_kind r same = tt
  of_after s prices_kind r same = tt

  of_section : (s : State) (r : Record) (o : Result Section SectionFault) → Kept s → GoAlike (from_section s r o) (from_section (with_judged judged s) r o)
  of_section s r (Ok section) same = (judged, refl, same)
  of_section s r (Err order) same =
      of_choice (may_end s.section) (after_section (past_section s) s.kind r) None (after_section (past_section (with_judged judged s)) s.kind r) None (of_after (past_section s) s.kind r same) tt
  of_section s r (Err count) same = (judged, refl, same)
  of_section s r (Err no_good) same = (judged, refl, same)
  of_section s r (Err (maker number)) same = (judged, refl, same)

  -- the bounds that the round leaves are the same
  of_settled : (s : State) → Kept s → AreAlike (next_settlement s) (next_settlement (with_judged judged s))
  of_settled s same = ([], cc (same_bounds (standings (exchange_at s) s.bounds s.offered) s.judged judged same), λ name. refl)

  of_settlement : (s : State) (r : Record) → Kept s → GoAlike (to_settlement s r) (to_settlement (with_judged judged s) r)
  of_settlement s r same =
      of_then (λ number. if_true (number == suc s.number) (next_settlement s)) (λ number. if_true (number == suc s.number) (next_settlement (with_judged judged s))) (settlement_in r)
      (λ number. of_test (number == suc s.number) (next_settlement s) (next_settlement (with_judged judged s)) (of_settled s same))

  of_round : (s : State) (r : Record) → Kept s → GoAlike (from_round s r) (from_round (with_judged judged s) r)
  of_round s (line.submit x) same = (judged, refl, same)
  of_round s other same = of_settlement s other same

  of_verdict : (s : State) (x : Submission) (v : Verdict) → Kept s
      → AreAlike (go_to at_round (record s { judged = s.judged ++ record { submission = x; verdict = v } ∷ [] })) (go_to at_round (record s { judged = judged ++ record { submission = x; verdict = v } ∷ [] }))
  of_verdict s x v same = (judged ++ record { submission = x; verdict = v } ∷ [], refl, same_push s.judged judged (record { submission = x; verdict = v }) same)

  of_place : (s : State) (place : Place) (r : Record) → Kept s → GoAlike (next_at s place r) (next_at (with_judged judged s) place r)
  of_place s at_section r same = of_section s r (take_record s.section r) same
  of_place s (at_group g) r same = of_head s g r (head_value g r) same
  of_place s (at_sets g found) r same =
      of_map (λ x. if suc (length found.sets) == bidder_count s then after_sets s g (with_set found x) else go_to (at_sets g (with_set found x)) s)
      (λ x. if suc (length found.sets) == bidder_count s then after_sets (with_judged judged s) g (with_set found x) else go_to (at_sets g (with_set found x)) (with_judged judged s)) (set_in r)
      (λ x. of_states (suc (length found.sets) == bidder_count s) (after_sets s g (with_set found x)) (go_to (at_sets g (with_set found x)) s) (after_sets (with_judged judged s) g (with_set found x))
      (go_to (at_sets g (with_set found x)) (with_judged judged s)) (of_sets s g (with_set found x) same) (judged, refl, same))
  of_place s (at_log g found sides m) r same =
      of_map (λ x. after_step s g found (sides_after sides x) (multipliers_after m x)) (λ x. after_step (with_judged judged s) g found (sides_after sides x) (multipliers_after m x)) (step_in s.version (goods_at s) m r)
      (λ x. of_step s g found (sides_after sides x) (multipliers_after m x) same)
  of_place s at_regret r same =
      of_map (λ amount. after_regret (record s { regret = amount }) s.kind) (λ amount. after_regret (record (with_judged judged s) { regret = amount }) s.kind) (amount_in r)
      (λ amount. of_regret (record s { regret = amount }) s.kind same)
  of_place s at_prices r same =
      of_stop (is_limit r) (go_to at_pool s) (go_to at_pool (with_judged judged s)) (option_map (λ p. go_to at_accuracy (record s { prices = p })) (prices_in (goods_at s) r))
      (option_map (λ p. go_to at_accuracy (record (with_judged judged s) { prices = p })) (prices_in (goods_at s) r)) (judged, refl, same)
      (of_map (λ p. go_to at_accuracy (record s { prices = p })) (λ p. go_to at_accuracy (record (with_judged judged s) { prices = p })) (prices_in (goods_at s) r) (λ p. (judged, refl, same)))
  of_place s at_accuracy r same =
      of_map (λ a. go_to (at_accuracy_rows a.den []) (record s { violation = a.violation })) (λ a. go_to (at_accuracy_rows a.den []) (record (with_judged judged s) { violation = a.violation })) (accuracy_in r)
      (λ a. (judged, refl, same))
  of_place s (at_accuracy_rows den rows) r same =
      of_row rows (at_accuracy_rows den) s r (to_balance s r) (to_balance (with_judged judged s) r) same
      (of_map (λ d. go_to (at_balance_rows d []) s) (λ d. go_to (at_balance_rows d []) (with_judged judged s)) (balance_in r) (λ d. (judged, refl, same)))
  of_place s (at_balance_rows den rows) r same =
      of_stop (is_round_stop (s.number + 2) r) (go_to done s) (go_to done (with_judged judged s)) (with_row rows (at_balance_rows den) s r (from_round s r))
      (with_row rows (at_balance_rows den) (with_judged judged s) r (from_round (with_judged judged s) r)) (judged, refl, same)
      (of_row rows (at_balance_rows den) s r (from_round s r) (from_round (with_judged judged s) r) same (of_round s r same))
  of_place s at_round r same = of_round s r same
  of_place s (at_verdict x) r same =
      of_map (λ v. go_to at_round (record s { judged = s.judged ++ record { submission = x; verdict = v } ∷ [] }))
      (λ v. go_to at_round (record (with_judged judged s) { judged = judged ++ record { submission = x; verdict = v } ∷ [] })) (verdict_in r) (λ v. of_verdict s x v same)
  of_place s at_threshold r same =
      of_map (λ c. go_to (at_payment 0) (record s { cut = c.cut; surplus = c.surplus })) (λ c. go_to (at_payment 0) (record (with_judged judged s) { cut = c.cut; surplus = c.surplus })) (threshold_in r) (λ c. (judged, refl, same))
  of_place s (at_payment b) r same =
      of_then (λ p. if_true (bytes_eq p.name (slice_index_or (names_of (exchange_at s)) b [])) (go_to (if suc b == bidder_count s then at_end closed_end else at_payment (suc b)) s))
      (λ p. if_true (bytes_eq p.name (slice_index_or (names_of (exchange_at s)) b [])) (go_to (if suc b == bidder_count s then at_end closed_end else at_payment (suc b)) (with_judged judged s))) (payment_in r)
      (λ p. of_test (bytes_eq p.name (slice_index_or (names_of (exchange_at s)) b [])) (go_to (if suc b == bidder_count s then at_end closed_end else at_payment (suc b)) s)
      (go_to (if suc b == bidder_count s then at_end closed_end else at_payment (suc b)) (with_judged judged s)) (judged, refl, same))
  of_place s (at_spent_sets taken) r same =
      of_map (λ x. go_to (if suc taken == bidder_count s then at_spent_log 1 else at_spent_sets (suc taken)) s)
      (λ x. go_to (if suc taken == bidder_count s then at_spent_log 1 else at_spent_sets (suc taken)) (with_judged judged s)) (set_in r) (λ x. (judged, refl, same))
  of_place s (at_spent_log open_sides) r same =
      of_map (λ x. go_to (if open_after x open_sides == 0 then at_end spent_end else at_spent_log (open_after x open_sides)) s)
      (λ x. go_to (if open_after x open_sides == 0 then at_end spent_end else at_spent_log (open_after x open_sides)) (with_judged judged s)) (step_in s.version (goods_at s) (all_zero (goods_at s)) r) (λ x. (judged, refl, same))
  of_place s at_pool r same =
      of_choice (is_pool r) (Some s) (from_end s limit_end r) (Some (with_judged judged s)) (from_end (with_judged judged s) limit_end r) (judged, refl, same)
      (of_test (is_end limit_end r) (go_to done s) (go_to done (with_judged judged s)) (judged, refl, same))
  of_place s (at_end word) r same = of_test (is_end word r) (go_to done s) (go_to done (with_judged judged s)) (judged, refl, same)
  of_place s done r same = tt

-- ---- the tests

-- a record that passes every test, and the state after it
pub record Step (s : State) (r : Record) (after : State) : Type 0 where
  pub list : EndsList s r
  pub none : (x : Rule) → ¬ Fails x s r
  pub holds : Holds s r
  pub is : next s r ≡ Some after

-- alike states take a record to alike states
pub next_alike : (s : State) (judged : List Judged) (r : Record) (after : State) → SameOfEach s.judged judged → next s r ≡ Some after
    → (other : List Judged) × (next (with_judged judged s) r ≡ Some (with_judged other after)) × SameOfEach after.judged other
next_alike s judged r after same e = by (next_at s s.place r) (next_at (with_judged judged s) s.place r) (of_place judged s s.place r same) e
  where
    by : (o u : Option State) → GoAlike o u → option_map (to_line (suc s.line)) o ≡ Some after
        → (other : List Judged) × (option_map (to_line (suc s.line)) u ≡ Some (with_judged other after)) × SameOfEach after.judged other
    by None u go e = absurd (cc)
    by (Some o) None go e = absurd go
    by (Some o) (Some u) (other, is, own) e =
        let here : to_line (suc s.line) o ≡ after = cc in
        (other, ap (λ (t : State). Some (to_line (suc s.line) t)) is ∙ ap (λ (t : State). Some (with_judged other t)) here, subst (λ (t : State). SameOfEach t.judged other) here own)

-- the next verdict is the same
verdict_alike : (s : State) (judged : List Judged) (x : Submission) (v : Verdict) → SameOfEach s.judged judged
    → IsNextVerdict s.prices (settings_at s).improve (standings (exchange_at s) s.bounds s.offered) s.judged x v
    ↔ IsNextVerdict s.prices (settings_at s).improve (standings (exchange_at s) s.bounds s.offered) judged x v
verdict_alike s judged x v same = (
  λ next. own_submissions_tell s.prices (settings_at s).improve (standings (exchange_at s) s.bounds s.offered) s.judged judged x v (same x.name) next,
  λ next. own_submissions_tell s.prices (settings_at s).improve (standings (exchange_at s) s.bounds s.offered) judged s.judged x v (sym (same x.name)) next,
)

holds_alike : (s : State) (judged : List Judged) (place : Place) (r : Record) → SameOfEach s.judged judged → HasVerdict place s r → HasVerdict place (with_judged judged s) r
holds_alike s judged (at_verdict x) r same has = by (verdict_in r) has
  where
    by : (o : Option Verdict) → IfSome o (λ v. IsNextVerdict s.prices (settings_at s).improve (standings (exchange_at s) s.bounds s.offered) s.judged x v)
        → IfSome o (λ v. IsNextVerdict s.prices (settings_at s).improve (standings (exchange_at s) s.bounds s.offered) judged x v)
    by None has = tt
    by (Some v) has = (verdict_alike s judged x v same).0 has
holds_alike s judged other r same has = tt

fails_alike : (s : State) (judged : List Judged) (place : Place) (r : Record) → SameOfEach s.judged judged → IsOtherVerdict place (with_judged judged s) r → IsOtherVerdict place s r
fails_alike s judged (at_verdict x) r same fails = by (verdict_in r) fails
  where
    by : (o : Option Verdict) → IsSomeAnd o (λ v. ¬ IsNextVerdict s.prices (settings_at s).improve (standings (exchange_at s) s.bounds s.offered) judged x v)
        → IsSomeAnd o (λ v. ¬ IsNextVerdict s.prices (settings_at s).improve (standings (exchange_at s) s.bounds s.offered) s.judged x v)
    by None fails = fails
    by (Some v) fails = λ next. fails ((verdict_alike s judged x v same).0 next)
fails_alike s judged other r same fails = fails

-- what looks at the place first, and not at the judged submissions
module _ (s : State) (judged : List Judged) (r : Record) where
  regret_alike : (place : Place) → IsOtherRegret place (with_judged judged s) r → IsOtherRegret place s r
  regret_alike at_regret h = h
  regret_alike other h = h

  prices_alike : (place : Place) → HasUnlawfulPrices place (with_judged judged s) r → HasUnlawfulPrices place s r
  prices_alike at_prices h = h
  prices_alike other h = h

  violation_alike : (place : Place) → HasOtherViolation place (with_judged judged s) r → HasOtherViolation place s r
  violation_alike at_accuracy h = h
  violation_alike other h = h

  accuracy_alike : (place : Place) → FailsAccuracy place (with_judged judged s) r → FailsAccuracy place s r
  accuracy_alike (at_accuracy_rows den rows) h = h
  accuracy_alike other h = h

  balance_alike : (place : Place) → FailsBalance place (with_judged judged s) r → FailsBalance place s r
  balance_alike (at_balance_rows den rows) h = h
  balance_alike other h = h

  threshold_alike : (place : Place) → IsOtherThreshold place (with_judged judged s) r → IsOtherThreshold place s r
  threshold_alike at_threshold h = h
  threshold_alike other h = h

  payment_alike : (place : Place) → IsOtherPayment place (with_judged judged s) r → IsOtherPayment place s r
  payment_alike (at_payment b) h = h
  payment_alike other h = h

  has_violation_alike : (place : Place) → HasViolation place s r → HasViolation place (with_judged judged s) r
  has_violation_alike at_accuracy h = h
  has_violation_alike other h = h

  full_list_alike : (place : Place) → HasFullList place s r → HasFullList place (with_judged judged s) r
  full_list_alike (at_accuracy_rows den rows) h = h
  full_list_alike (at_balance_rows den rows) h = h
  full_list_alike other h = h

  list_alike : (place : Place) → ListHolds place s → ListHolds place (with_judged judged s)
  list_alike (at_accuracy_rows den rows) h = h
  list_alike (at_balance_rows den rows) h = h
  list_alike other h = h

none_alike : (s : State) (judged : List Judged) (r : Record) (after t : State) → SameOfEach s.judged judged → next s r ≡ Some after → next (with_judged judged s) r ≡ Some t
    → (x : Rule) → Fails x (with_judged judged s) r → Fails x s r
none_alike s judged r after t same is goes rule.Closed fails = (fails.0, ap (λ (o : Option State). is_some o) is)
none_alike s judged r after t same is goes rule.Order fails = let apart : Some t ≡ None = sym goes ∙ fails in absurd (cc)
none_alike s judged r after t same is goes rule.Verdict fails = fails_alike s judged s.place r same fails
none_alike s judged r after t same is goes rule.Regret fails = regret_alike s judged r s.place fails
none_alike s judged r after t same is goes rule.Prices fails = prices_alike s judged r s.place fails
none_alike s judged r after t same is goes rule.Violation fails = violation_alike s judged r s.place fails
none_alike s judged r after t same is goes rule.Accuracy fails = accuracy_alike s judged r s.place fails
none_alike s judged r after t same is goes rule.Balance fails = balance_alike s judged r s.place fails
none_alike s judged r after t same is goes rule.Threshold fails = threshold_alike s judged r s.place fails
none_alike s judged r after t same is goes rule.Payment fails = payment_alike s judged r s.place fails
none_alike s judged r after t same is goes other fails = fails

pub step_alike : (s : State) (judged : List Judged) (r : Record) (after : State) → SameOfEach s.judged judged → Step s r after
    → (other : List Judged) × Step (with_judged judged s) r (with_judged other after) × SameOfEach after.judged other
step_alike s judged r after same step =
    let (other, is, own) = next_alike s judged r after same step.is in (
      other,
      record {
        list = λ x ended. list_alike s judged r s.place (step.list x ended);
        none = λ x fails. step.none x (none_alike s judged r after (with_judged other after) same step.is is x fails);
        holds = record {
          leaf = (step.holds).leaf;
          violation = has_violation_alike s judged r s.place (step.holds).violation;
          list = full_list_alike s judged r s.place (step.holds).list;
          verdict = holds_alike s judged s.place r same (step.holds).verdict;
        };
        is = is;
      },
      own,
    )

-- records that pass at a state pass at one alike
pub passes_alike : (s : State) (records : List Record) (judged : List Judged) → SameOfEach s.judged judged → Tested s records None → Tested (with_judged judged s) records None
passes_alike s [] judged same (passes here) = passes here
passes_alike s (r ∷ rest) judged same (goes_on {after = after} list none holds is more) =
    let (other, step, own) = step_alike s judged r after same (record { list = list; none = none; holds = holds; is = is }) in
    goes_on step.list step.none step.holds step.is (passes_alike after rest other own more)
