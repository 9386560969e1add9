-- The kind of a journal stays that of its head.
use Rattle.std.proofs.Common.{◌≡◌, ◌+◌, ℕ, suc, Bool, true, false, cond, List, [], ◌∷◌, ◌++◌, length, ℤ, pos, refl, ◌∙◌, subst}
use Rattle.std.specs.Str.{bytes_eq}
use Rattle.std.specs.Prelude.{if◌then◌else◌, ◌==◌, slice_index_or, Option, Some, None, option_map, option_and_then, Result, Ok, Err}
use Rattle.ice_defs.specs.Bound.{Multipliers}
use Rattle.ice_defs.specs.Steps.{Side, sides_after}
use Rattle.ice_defs.specs.Rows.{Row}
use Rattle.ice_defs.specs.Exchange.{names_of}
use Rattle.ice_defs.specs.Session.{Payment}
use Rattle.ice_defs.specs.declared.Group.{Group}
use Rattle.ice_defs.specs.declared.Group.TheVariants.{Assign, Final, Rival, Provisional, Without}
use Rattle.ice_journal.specs.Records.{Record, Kind, assign_kind, regret_kind, session_kind, exchange_kind, prices_kind, closed_end, spent_end, limit_end}
use Rattle.ice_journal.specs.Plain.{all_zero}
use Rattle.ice_journal.specs.Records as line
use Rattle.ice_section.specs.Section.{Section, SectionFault, order, count, no_good, maker, take_record, may_end}
use Rattle.ice_journal_laws.specs.Fields.{head_value, set_in, is_assign, settlement_in, is_spent, step_in, multipliers_after, amount_in, prices_in, is_limit, is_pool, accuracy_in, balance_in, row_in, verdict_in, threshold_in, payment_in, is_end, is_round_stop}
use Rattle.ice_journal_laws.specs.State.{Stated, Place, at_section, at_group, at_sets, at_log, at_regret, at_prices, at_accuracy, at_accuracy_rows, at_balance_rows, at_round, at_verdict, at_threshold, at_payment, at_spent_sets, at_spent_log, at_pool, at_end, done, State, exchange_at, goods_at}
use Rattle.ice_journal_laws.specs.Next.{next, next_at, go_to, to_line, bidder_count, if_true, or_stop, may_have_row, with_row, from_head, after_sets, with_set, after_log, after_step, after_regret, to_balance, next_settlement, to_settlement, from_round, open_after, from_end, after_section, past_section, from_section}
use Rattle.ice_journal_laws.specs.Progress.{passing, passes_on, fails_at, list_fails_at, Leads, stays, goes}
use Rattle.ice_journal_laws.proofs.Leading.{failed_passes}

-- the state after, if there is one, is of this kind
abbrev Keeps : Kind → Option State → Type 0
Keeps kind None = Unit {0}
Keeps kind (Some s) = s.kind ≡ kind

of_map : {X : Type 0} (kind : Kind) (f : X → State) (o : Option X) → ((x : X) → (f x).kind ≡ kind) → Keeps kind (option_map f o)
of_map kind f None each = tt
of_map kind f (Some x) each = each x

of_then : {X : Type 0} (kind : Kind) (f : X → Option State) (o : Option X) → ((x : X) → Keeps kind (f x)) → Keeps kind (option_and_then f o)
of_then kind f None each = tt
of_then kind f (Some x) each = each x

of_test : (kind : Kind) (b : Bool) (s : State) → s.kind ≡ kind → Keeps kind (if_true b s)
of_test kind true s e = e
of_test kind false s e = tt

of_stop : (kind : Kind) (b : Bool) (s : State) (o : Option State) → s.kind ≡ kind → Keeps kind o → Keeps kind (or_stop b s o)
of_stop kind b s None e h = of_test kind b s e
of_stop kind b s (Some t) e h = h

of_head : (kind : Kind) (s : State) (g : Group) (r : Record) (o : Option ℤ) → s.kind ≡ kind → Keeps kind (from_head s g r o)
of_head kind s g r None e = of_test kind (is_spent r) (go_to (at_spent_sets 0) s) e
of_head kind s g r (Some value) e = e

of_sets : (s : State) (g : Group) (found : Stated) → (after_sets s g found).kind ≡ s.kind
of_sets s Assign found = refl
of_sets s Final found = refl
of_sets s Rival found = refl
of_sets s Provisional found = refl
of_sets s (Without b) found = refl

of_choice : (b : Bool) (s t : State) (kind : Kind) → s.kind ≡ kind → t.kind ≡ kind → (cond b s t).kind ≡ kind
of_choice true s t kind e f = e
of_choice false s t kind e f = f

of_log : (s : State) (g : Group) (found : Stated) → (after_log s g found).kind ≡ s.kind
of_log s Assign found = refl
of_log s Final found = refl
of_log s Rival found = refl
of_log s Provisional found = refl
of_log s (Without b) found = refl

of_step : (s : State) (g : Group) (found : Stated) (sides : List Side) (m : Multipliers) → (after_step s g found sides m).kind ≡ s.kind
of_step s g found [] m = of_log s g found
of_step s g found (side ∷ sides) m = refl

of_regret : (s : State) (kind : Kind) → (after_regret s kind).kind ≡ s.kind
of_regret s session_kind = refl
of_regret s other = refl

of_row : (kind : Kind) (rows : List Row) (place : List Row → Place) (s : State) (r : Record) (o : Option State) → s.kind ≡ kind → Keeps kind o → Keeps kind (with_row rows place s r o)
of_row kind rows place s r None e h =
    of_then kind (λ row. if_true (may_have_row rows) (go_to (place (rows ++ row ∷ [])) s)) (row_in r) (λ row. of_test kind (may_have_row rows) (go_to (place (rows ++ row ∷ [])) s) e)
of_row kind rows place s r (Some t) e h = h

of_after : (s : State) (kind : Kind) (r : Record) → Keeps s.kind (after_section s kind r)
of_after s assign_kind r = of_test s.kind (is_assign r) (go_to (at_sets Assign (record { value = pos 0; sets = [] })) s) refl
of_after s regret_kind r = of_head s.kind s Final r (head_value Final r) refl
of_after s session_kind r =
    of_then s.kind (λ number. if_true (number == 0) (go_to (at_group Final) s)) (settlement_in r) (λ number. of_test s.kind (number == 0) (go_to (at_group Final) s) refl)
of_after s exchange_kind r = tt
of_after s prices_kind r = tt

of_ended : (b : Bool) (s : State) (r : Record) → Keeps s.kind (cond b (after_section (past_section s) s.kind r) None)
of_ended true s r = of_after (past_section s) s.kind r
of_ended false s r = tt

of_section : (s : State) (r : Record) (o : Result Section SectionFault) → Keeps s.kind (from_section s r o)
of_section s r (Ok section) = refl
of_section s r (Err order) = of_ended (may_end s.section) s r
of_section s r (Err count) = refl
of_section s r (Err no_good) = refl
of_section s r (Err (maker number)) = refl

of_settlement : (s : State) (r : Record) → Keeps s.kind (to_settlement s r)
of_settlement s r = of_then s.kind (λ number. if_true (number == suc s.number) (next_settlement s)) (settlement_in r) (λ number. of_test s.kind (number == suc s.number) (next_settlement s) refl)

of_round : (s : State) (r : Record) → Keeps s.kind (from_round s r)
of_round s (line.submit x) = refl
of_round s other = of_settlement s other

of_payment : (s : State) (b : ℕ) (o : Option Payment)
    → Keeps s.kind (option_and_then (λ p. if_true (bytes_eq p.name (slice_index_or (names_of (exchange_at s)) b [])) (go_to (if suc b == bidder_count s then at_end closed_end else at_payment (suc b)) s)) o)
of_payment s b None = tt
of_payment s b (Some p) = of_test s.kind (bytes_eq p.name (slice_index_or (names_of (exchange_at s)) b [])) (go_to (if suc b == bidder_count s then at_end closed_end else at_payment (suc b)) s) refl

of_pool : (b : Bool) (s : State) (o : Option State) → Keeps s.kind o → Keeps s.kind (cond b (Some s) o)
of_pool true s o h = refl
of_pool false s o h = h

of_place : (s : State) (place : Place) (r : Record) → Keeps s.kind (next_at s place r)
of_place s at_section r = of_section s r (take_record s.section r)
of_place s (at_group g) r = of_head s.kind s g r (head_value g r) refl
of_place s (at_sets g found) r =
    of_map s.kind (λ x. if suc (length found.sets) == bidder_count s then after_sets s g (with_set found x) else go_to (at_sets g (with_set found x)) s) (set_in r)
    (λ x. of_choice (suc (length found.sets) == bidder_count s) (after_sets s g (with_set found x)) (go_to (at_sets g (with_set found x)) s) s.kind (of_sets s g (with_set found x)) refl)
of_place s (at_log g found sides m) r =
    of_map s.kind (λ x. after_step s g found (sides_after sides x) (multipliers_after m x)) (step_in s.version (goods_at s) m r) (λ x. of_step s g found (sides_after sides x) (multipliers_after m x))
of_place s at_regret r = of_map s.kind (λ amount. after_regret (record s { regret = amount }) s.kind) (amount_in r) (λ amount. of_regret (record s { regret = amount }) s.kind)
of_place s at_prices r =
    of_stop s.kind (is_limit r) (go_to at_pool s) (option_map (λ p. go_to at_accuracy (record s { prices = p })) (prices_in (goods_at s) r)) refl
    (of_map s.kind (λ p. go_to at_accuracy (record s { prices = p })) (prices_in (goods_at s) r) (λ p. refl))
of_place s at_accuracy r = of_map s.kind (λ a. go_to (at_accuracy_rows a.den []) (record s { violation = a.violation })) (accuracy_in r) (λ a. refl)
of_place s (at_accuracy_rows den rows) r = of_row s.kind rows (at_accuracy_rows den) s r (to_balance s r) refl (of_map s.kind (λ d. go_to (at_balance_rows d []) s) (balance_in r) (λ d. refl))
of_place s (at_balance_rows den rows) r =
    of_stop s.kind (is_round_stop (s.number + 2) r) (go_to done s) (with_row rows (at_balance_rows den) s r (from_round s r)) refl (of_row s.kind rows (at_balance_rows den) s r (from_round s r) refl (of_round s r))
of_place s at_round r = of_round s r
of_place s (at_verdict x) r = of_map s.kind (λ v. go_to at_round (record s { judged = s.judged ++ record { submission = x; verdict = v } ∷ [] })) (verdict_in r) (λ v. refl)
of_place s at_threshold r = of_map s.kind (λ c. go_to (at_payment 0) (record s { cut = c.cut; surplus = c.surplus })) (threshold_in r) (λ c. refl)
of_place s (at_payment b) r = of_payment s b (payment_in r)
of_place s (at_spent_sets taken) r = of_map s.kind (λ x. go_to (if suc taken == bidder_count s then at_spent_log 1 else at_spent_sets (suc taken)) s) (set_in r) (λ x. refl)
of_place s (at_spent_log open_sides) r =
    of_map s.kind (λ x. go_to (if open_after x open_sides == 0 then at_end spent_end else at_spent_log (open_after x open_sides)) s) (step_in s.version (goods_at s) (all_zero (goods_at s)) r) (λ x. refl)
of_place s at_pool r = of_pool (is_pool r) s (from_end s limit_end r) (of_test s.kind (is_end limit_end r) (go_to done s) refl)
of_place s (at_end word) r = of_test s.kind (is_end word r) (go_to done s) refl
of_place s done r = tt

next_keeps : (s : State) (r : Record) (after : State) → next s r ≡ Some after → after.kind ≡ s.kind
next_keeps s r after e = by (next_at s s.place r) (of_place s s.place r) e
  where
    by : (o : Option State) → Keeps s.kind o → option_map (to_line (suc s.line)) o ≡ Some after → after.kind ≡ s.kind
    by None h f = absurd cc
    by (Some t) h f = subst (Keeps s.kind) f h

-- where records that pass lead
pub leads_keep : (s t : State) (records : List Record) → Leads (passing s) records (passing t) → t.kind ≡ s.kind
leads_keep s t [] stays = refl
leads_keep s t (r ∷ rest) (goes (passes_on {after = after} list none holds is) l) = leads_keep after t rest l ∙ next_keeps s r after is
leads_keep s t (r ∷ rest) (goes (fails_at list f) l) = absurd (failed_passes _ rest t l)
leads_keep s t (r ∷ rest) (goes (list_fails_at e n) l) = absurd (failed_passes _ rest t l)
