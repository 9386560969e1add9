-- A journal behind its exchange keeps the exchange and its version.
use Rattle.std.proofs.Common.{◌≡◌, ◌+◌, ℕ, suc, Bool, true, false, cond, List, [], ◌∷◌, ◌++◌, length, ℤ, pos, refl}
use Rattle.std.specs.Str.{bytes_eq}
use Rattle.std.specs.Prelude.{if◌then◌else◌, ◌==◌, slice_index_or, Option, Some, None, option_map, option_and_then}
use Rattle.std.proofs.lemmas.Bool.{false≢true}
use Rattle.ice_defs.specs.Bound.{Multipliers}
use Rattle.ice_defs.specs.Steps.{Side, sides_after}
use Rattle.ice_defs.specs.Rows.{Row}
use Rattle.ice_defs.specs.Exchange.{names_of}
use Rattle.ice_defs.specs.Session.{Payment}
use Rattle.ice_defs.specs.declared.Group.{Group}
use Rattle.ice_defs.specs.declared.Group.TheVariants.{Assign, Final, Rival, Provisional, Without}
use Rattle.ice_journal.specs.Records.{Record, Kind, assign_kind, regret_kind, session_kind, exchange_kind, prices_kind, closed_end, spent_end, limit_end}
use Rattle.ice_journal.specs.Plain.{all_zero}
use Rattle.ice_journal.specs.Records as line
use Rattle.ice_journal_laws.specs.Fields.{head_value, set_in, is_assign, settlement_in, is_spent, step_in, multipliers_after, amount_in, prices_in, is_limit, is_pool, accuracy_in, balance_in, row_in, verdict_in, threshold_in, payment_in, is_end, is_round_stop}
use Rattle.ice_journal_laws.specs.State.{Stated, Place, at_section, at_group, at_sets, at_log, at_regret, at_prices, at_accuracy, at_accuracy_rows, at_balance_rows, at_round, at_verdict, at_threshold, at_payment, at_spent_sets, at_spent_log, at_pool, at_end, done, State, exchange_at, goods_at}
use Rattle.ice_journal_laws.specs.Next.{next_at, go_to, bidder_count, if_true, or_stop, may_have_row, with_row, from_head, after_sets, with_set, after_log, after_step, after_regret, to_balance, next_settlement, to_settlement, from_round, open_after, from_end, after_section}

abbrev pub is_past : Place → Bool
is_past at_section = false
is_past other = true

-- the exchange and the version are the same, and the exchange is complete
abbrev pub IsKept : State → State → Type 0
IsKept s t = (t.section ≡ s.section) × (t.version ≡ s.version) × (is_past t.place ≡ true)

abbrev pub Keeps : State → Option State → Type 0
Keeps s None = Unit {0}
Keeps s (Some t) = IsKept s t

of_map : {X : Type 0} (s : State) (f : X → State) (o : Option X) → ((x : X) → IsKept s (f x)) → Keeps s (option_map f o)
of_map s f None each = tt
of_map s f (Some x) each = each x

of_then : {X : Type 0} (s : State) (f : X → Option State) (o : Option X) → ((x : X) → Keeps s (f x)) → Keeps s (option_and_then f o)
of_then s f None each = tt
of_then s f (Some x) each = each x

of_test : (s : State) (b : Bool) (t : State) → IsKept s t → Keeps s (if_true b t)
of_test s true t e = e
of_test s false t e = tt

of_stop : (s : State) (b : Bool) (t : State) (o : Option State) → IsKept s t → Keeps s o → Keeps s (or_stop b t o)
of_stop s b t None e h = of_test s b t e
of_stop s b t (Some u) e h = h

of_head : (s : State) (g : Group) (r : Record) (o : Option ℤ) → Keeps s (from_head s g r o)
of_head s g r None = of_test s (is_spent r) (go_to (at_spent_sets 0) s) (refl, refl, refl)
of_head s g r (Some value) = (refl, refl, refl)

of_sets : (s : State) (g : Group) (found : Stated) → IsKept s (after_sets s g found)
of_sets s Assign found = (refl, refl, refl)
of_sets s Final found = (refl, refl, refl)
of_sets s Rival found = (refl, refl, refl)
of_sets s Provisional found = (refl, refl, refl)
of_sets s (Without b) found = (refl, refl, refl)

of_choice : (s : State) (b : Bool) (t u : State) → IsKept s t → IsKept s u → IsKept s (cond b t u)
of_choice s true t u e f = e
of_choice s false t u e f = f

-- one of two places behind the exchange
of_places : (s : State) (b : Bool) (p q : Place) → is_past p ≡ true → is_past q ≡ true → IsKept s (go_to (cond b p q) s)
of_places s true p q e f = (refl, refl, e)
of_places s false p q e f = (refl, refl, f)

of_log : (s : State) (g : Group) (found : Stated) → is_past s.place ≡ true → IsKept s (after_log s g found)
of_log s Assign found past = (refl, refl, past)
of_log s Final found past = (refl, refl, refl)
of_log s Rival found past = (refl, refl, refl)
of_log s Provisional found past = (refl, refl, refl)
of_log s (Without b) found past = by (suc b == bidder_count s)
  where
    by : (t : Bool) → IsKept s (go_to (cond t at_threshold (at_group (Without (suc b)))) (record s { withouts = s.withouts ++ found.value ∷ [] }))
    by true = (refl, refl, refl)
    by false = (refl, refl, refl)

of_step : (s : State) (g : Group) (found : Stated) (sides : List Side) (m : Multipliers) → is_past s.place ≡ true → IsKept s (after_step s g found sides m)
of_step s g found [] m past = of_log s g found past
of_step s g found (side ∷ sides) m past = (refl, refl, refl)

of_regret : (s : State) (amount : ℤ) (kind : Kind) → IsKept s (after_regret (record s { regret = amount }) kind)
of_regret s amount session_kind = by _
  where
    by : (t : Bool) → IsKept s (go_to (cond t (at_group (Without 0)) (at_group Provisional)) (record s { regret = amount }))
    by true = (refl, refl, refl)
    by false = (refl, refl, refl)
of_regret s amount other = (refl, refl, refl)

of_row : (s : State) (rows : List Row) (place : List Row → Place) (r : Record) (o : Option State) → ((after : List Row) → is_past (place after) ≡ true) → Keeps s o → Keeps s (with_row rows place s r o)
of_row s rows place r None past h =
    of_then s (λ row. if_true (may_have_row rows) (go_to (place (rows ++ row ∷ [])) s)) (row_in r) (λ row. of_test s (may_have_row rows) (go_to (place (rows ++ row ∷ [])) s) (refl, refl, past (rows ++ row ∷ [])))
of_row s rows place r (Some t) past h = h

pub of_after : (s : State) (kind : Kind) (r : Record) → Keeps s (after_section s kind r)
of_after s assign_kind r = of_test s (is_assign r) (go_to (at_sets Assign (record { value = pos 0; sets = [] })) s) (refl, refl, refl)
of_after s regret_kind r = of_head s Final r (head_value Final r)
of_after s session_kind r =
    of_then s (λ number. if_true (number == 0) (go_to (at_group Final) s)) (settlement_in r) (λ number. of_test s (number == 0) (go_to (at_group Final) s) (refl, refl, refl))
of_after s exchange_kind r = tt
of_after s prices_kind r = tt

of_settlement : (s : State) (r : Record) → Keeps s (to_settlement s r)
of_settlement s r = of_then s (λ number. if_true (number == suc s.number) (next_settlement s)) (settlement_in r) (λ number. of_test s (number == suc s.number) (next_settlement s) (refl, refl, refl))

of_round : (s : State) (r : Record) → Keeps s (from_round s r)
of_round s (line.submit x) = (refl, refl, refl)
of_round s other = of_settlement s other

of_payment : (s : State) (b : ℕ) (o : Option Payment)
    → Keeps s (option_and_then (λ p. if_true (bytes_eq p.name (slice_index_or (names_of (exchange_at s)) b [])) (go_to (if suc b == bidder_count s then at_end closed_end else at_payment (suc b)) s)) o)
of_payment s b None = tt
of_payment s b (Some p) =
    of_test s (bytes_eq p.name (slice_index_or (names_of (exchange_at s)) b [])) (go_to (if suc b == bidder_count s then at_end closed_end else at_payment (suc b)) s)
    (of_places s (suc b == bidder_count s) (at_end closed_end) (at_payment (suc b)) refl refl)

of_pool : (b : Bool) (s : State) (o : Option State) → is_past s.place ≡ true → Keeps s o → Keeps s (cond b (Some s) o)
of_pool true s o past h = (refl, refl, past)
of_pool false s o past h = h

-- whatever stands behind the exchange
pub keeps : (s : State) (place : Place) (r : Record) → is_past place ≡ true → is_past s.place ≡ true → Keeps s (next_at s place r)
keeps s at_section r past at = absurd (false≢true past)
keeps s (at_group g) r past at = of_head s g r (head_value g r)
keeps s (at_sets g found) r past at =
    of_map s (λ x. if suc (length found.sets) == bidder_count s then after_sets s g (with_set found x) else go_to (at_sets g (with_set found x)) s) (set_in r)
    (λ x. of_choice s (suc (length found.sets) == bidder_count s) (after_sets s g (with_set found x)) (go_to (at_sets g (with_set found x)) s) (of_sets s g (with_set found x)) (refl, refl, refl))
keeps s (at_log g found sides m) r past at =
    of_map s (λ x. after_step s g found (sides_after sides x) (multipliers_after m x)) (step_in s.version (goods_at s) m r) (λ x. of_step s g found (sides_after sides x) (multipliers_after m x) at)
keeps s at_regret r past at = of_map s (λ amount. after_regret (record s { regret = amount }) s.kind) (amount_in r) (λ amount. of_regret s amount s.kind)
keeps s at_prices r past at =
    of_stop s (is_limit r) (go_to at_pool s) (option_map (λ p. go_to at_accuracy (record s { prices = p })) (prices_in (goods_at s) r)) (refl, refl, refl)
    (of_map s (λ p. go_to at_accuracy (record s { prices = p })) (prices_in (goods_at s) r) (λ p. (refl, refl, refl)))
keeps s at_accuracy r past at = of_map s (λ a. go_to (at_accuracy_rows a.den []) (record s { violation = a.violation })) (accuracy_in r) (λ a. (refl, refl, refl))
keeps s (at_accuracy_rows den rows) r past at =
    of_row s rows (at_accuracy_rows den) r (to_balance s r) (λ after. refl) (of_map s (λ d. go_to (at_balance_rows d []) s) (balance_in r) (λ d. (refl, refl, refl)))
keeps s (at_balance_rows den rows) r past at =
    of_stop s (is_round_stop (s.number + 2) r) (go_to done s) (with_row rows (at_balance_rows den) s r (from_round s r)) (refl, refl, refl)
    (of_row s rows (at_balance_rows den) r (from_round s r) (λ after. refl) (of_round s r))
keeps s at_round r past at = of_round s r
keeps s (at_verdict x) r past at = of_map s (λ v. go_to at_round (record s { judged = s.judged ++ record { submission = x; verdict = v } ∷ [] })) (verdict_in r) (λ v. (refl, refl, refl))
keeps s at_threshold r past at = of_map s (λ c. go_to (at_payment 0) (record s { cut = c.cut; surplus = c.surplus })) (threshold_in r) (λ c. (refl, refl, refl))
keeps s (at_payment b) r past at = of_payment s b (payment_in r)
keeps s (at_spent_sets taken) r past at =
    of_map s (λ x. go_to (if suc taken == bidder_count s then at_spent_log 1 else at_spent_sets (suc taken)) s) (set_in r) (λ x. of_places s (suc taken == bidder_count s) (at_spent_log 1) (at_spent_sets (suc taken)) refl refl)
keeps s (at_spent_log open_sides) r past at =
    of_map s (λ x. go_to (if open_after x open_sides == 0 then at_end spent_end else at_spent_log (open_after x open_sides)) s) (step_in s.version (goods_at s) (all_zero (goods_at s)) r)
    (λ x. of_places s (open_after x open_sides == 0) (at_end spent_end) (at_spent_log (open_after x open_sides)) refl refl)
keeps s at_pool r past at = of_pool (is_pool r) s (from_end s limit_end r) at (of_test s (is_end limit_end r) (go_to done s) (refl, refl, refl))
keeps s (at_end word) r past at = of_test s (is_end word r) (go_to done s) (refl, refl, refl)
keeps s done r past at = tt
