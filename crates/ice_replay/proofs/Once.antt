-- A session states the regret of each settlement once.
use Rattle.std.proofs.Common.{◌≡◌, ◌<◌, ◌+◌, ℕ, suc, Bool, true, false, cond, List, [], ◌∷◌, ◌++◌, length, ℤ, pos, refl, sym, ◌∙◌, ap, subst, arith}
use Rattle.std.specs.Str.{bytes_eq}
use Rattle.std.specs.Prelude.{if◌then◌else◌, ◌==◌, slice_index_or, Option, Some, None, option_map, option_and_then, Result, Ok, Err}
use Rattle.std.proofs.lemmas.Bool.{false≢true}
use Rattle.std.proofs.lemmas.Option.{none-some, same_Some}
use Rattle.ice_defs.specs.Bound.{Multipliers}
use Rattle.ice_defs.specs.Steps.{Side, sides_after}
use Rattle.ice_defs.specs.Rows.{Row}
use Rattle.ice_defs.specs.Exchange.{names_of}
use Rattle.ice_defs.specs.Session.{Payment, closes}
use Rattle.ice_defs.specs.declared.Group.{Group}
use Rattle.ice_defs.specs.declared.Group.TheVariants.{Assign, Final, Rival, Provisional, Without}
use Rattle.ice_journal.specs.Records.{Record, Kind, assign_kind, regret_kind, session_kind, exchange_kind, prices_kind, closed_end, spent_end, limit_end}
use Rattle.ice_journal.specs.Plain.{all_zero}
use Rattle.ice_journal.specs.Records as line
use Rattle.ice_section.specs.Section.{Section, SectionFault, order, count, no_good, maker, take_record, may_end}
use Rattle.ice_journal_laws.specs.Fields.{head_value, set_in, is_assign, settlement_in, is_spent, step_in, multipliers_after, amount_in, prices_in, is_limit, is_pool, accuracy_in, balance_in, row_in, verdict_in, threshold_in, payment_in, is_end, is_round_stop}
use Rattle.ice_journal_laws.specs.State.{Stated, Place, at_section, at_group, at_sets, at_log, at_regret, at_prices, at_accuracy, at_accuracy_rows, at_balance_rows, at_round, at_verdict, at_threshold, at_payment, at_spent_sets, at_spent_log, at_pool, at_end, done, State, exchange_at, settings_at, goods_at}
use Rattle.ice_journal_laws.specs.Next.{next, next_at, go_to, to_line, bidder_count, if_true, or_stop, may_have_row, with_row, from_head, after_sets, with_set, after_log, after_step, after_regret, to_balance, next_settlement, to_settlement, from_round, open_after, from_end, after_section, past_section, from_section, after_all}
use Rattle.ice_replay.specs.Settlements.{Settles}
use Rattle.ice_replay.proofs.Coming.{head_is, rest_is}

-- behind the regret of its settlement
abbrev is_late_group : Group → Bool
is_late_group Assign = false
is_late_group Final = false
is_late_group Rival = false
is_late_group Provisional = true
is_late_group (Without b) = true

abbrev is_late : Place → Bool
is_late at_section = false
is_late (at_group g) = is_late_group g
is_late (at_sets g found) = is_late_group g
is_late (at_log g found sides m) = is_late_group g
is_late at_regret = false
is_late other = true

-- ---- one record

-- the settlement stays, and what stands behind its regret still does; or the next one begins
pub data Goes (s : State) (late : Bool) (t : State) : Type 0 where
  in_settlement : t.number ≡ s.number → (late ≡ true → is_late t.place ≡ true) → Goes s late t
  to_next : t.number ≡ suc s.number → Goes s late t

early : (s t : State) → t.number ≡ s.number → Goes s false t
early s t e = in_settlement e (λ late. absurd (false≢true late))

-- the state after, if there is one, is such
abbrev Keeps : (State → Type 0) → Option State → Type 0
Keeps P None = Unit {0}
Keeps P (Some t) = P t

module _ (P : State → Type 0) where
  of_map : {X : Type 0} (f : X → State) (o : Option X) → ((x : X) → P (f x)) → Keeps P (option_map f o)
  of_map f None each = tt
  of_map f (Some x) each = each x

  of_then : {X : Type 0} (f : X → Option State) (o : Option X) → ((x : X) → Keeps P (f x)) → Keeps P (option_and_then f o)
  of_then f None each = tt
  of_then f (Some x) each = each x

  of_test : (b : Bool) (t : State) → P t → Keeps P (if_true b t)
  of_test true t e = e
  of_test false t e = tt

  of_stop : (b : Bool) (t : State) (o : Option State) → P t → Keeps P o → Keeps P (or_stop b t o)
  of_stop b t None e h = of_test b t e
  of_stop b t (Some u) e h = h

  of_row : (rows : List Row) (place : List Row → Place) (s : State) (r : Record) (o : Option State) → ((row : Row) → P (go_to (place (rows ++ row ∷ [])) s)) → Keeps P o → Keeps P (with_row rows place s r o)
  of_row rows place s r None each h = of_then (λ row. if_true (may_have_row rows) (go_to (place (rows ++ row ∷ [])) s)) (row_in r) (λ row. of_test (may_have_row rows) (go_to (place (rows ++ row ∷ [])) s) (each row))
  of_row rows place s r (Some t) each h = h

  of_choice : (b : Bool) (t u : State) → P t → P u → P (cond b t u)
  of_choice true t u e f = e
  of_choice false t u e f = f

  of_pool : (b : Bool) (t : State) (o : Option State) → P t → Keeps P o → Keeps P (cond b (Some t) o)
  of_pool true t o e h = e
  of_pool false t o e h = h

  of_line : (n : ℕ) (o : Option State) → ((t : State) → P t → P (to_line n t)) → Keeps P o → Keeps P (option_map (to_line n) o)
  of_line n None each h = tt
  of_line n (Some t) each h = each t h

late_choice : (b : Bool) (p q : Place) → is_late p ≡ true → is_late q ≡ true → is_late (cond b p q) ≡ true
late_choice true p q e f = e
late_choice false p q e f = f

-- somewhere behind the regret
late_at : (s : State) (late : Bool) (p : Place) → is_late p ≡ true → Goes s late (go_to p s)
late_at s late p e = in_settlement refl (λ was. e)

of_head : (s : State) (g : Group) (r : Record) (o : Option ℤ) → Keeps (Goes s (is_late_group g)) (from_head s g r o)
of_head s g r None = of_test (Goes s (is_late_group g)) (is_spent r) (go_to (at_spent_sets 0) s) (late_at s (is_late_group g) (at_spent_sets 0) refl)
of_head s g r (Some value) = in_settlement refl (λ late. late)

of_sets : (s : State) (g : Group) (found : Stated) → Goes s (is_late_group g) (after_sets s g found)
of_sets s Assign found = in_settlement refl (λ late. refl)
of_sets s Final found = in_settlement refl (λ late. late)
of_sets s Rival found = in_settlement refl (λ late. late)
of_sets s Provisional found = in_settlement refl (λ late. late)
of_sets s (Without b) found = in_settlement refl (λ late. late)

of_log : (s : State) (g : Group) (found : Stated) → Goes s (is_late_group g) (after_log s g found)
of_log s Assign found = early s s refl
of_log s Final found = early s (after_log s Final found) refl
of_log s Rival found = early s (after_log s Rival found) refl
of_log s Provisional found = in_settlement refl (λ late. refl)
of_log s (Without b) found = in_settlement refl (λ late. late_choice (suc b == bidder_count s) at_threshold (at_group (Without (suc b))) refl refl)

of_step : (s : State) (g : Group) (found : Stated) (sides : List Side) (m : Multipliers) → Goes s (is_late_group g) (after_step s g found sides m)
of_step s g found [] m = of_log s g found
of_step s g found (side ∷ sides) m = in_settlement refl (λ late. late)

regret_late : (s : State) (kind : Kind) → is_late (after_regret s kind).place ≡ true
regret_late s session_kind = late_choice (closes (settings_at s) s.number s.regret) (at_group (Without 0)) (at_group Provisional) refl refl
regret_late s other = refl

regret_number : (s : State) (kind : Kind) → (after_regret s kind).number ≡ s.number
regret_number s session_kind = refl
regret_number s other = refl

of_after : (s : State) (kind : Kind) (r : Record) → Keeps (Goes s false) (after_section s kind r)
of_after s assign_kind r = of_test (Goes s false) (is_assign r) (go_to (at_sets Assign (record { value = pos 0; sets = [] })) s) (early s (go_to (at_sets Assign (record { value = pos 0; sets = [] })) s) refl)
of_after s regret_kind r = of_head s Final r (head_value Final r)
of_after s session_kind r =
    of_then (Goes s false) (λ number. if_true (number == 0) (go_to (at_group Final) s)) (settlement_in r)
    (λ number. of_test (Goes s false) (number == 0) (go_to (at_group Final) s) (early s (go_to (at_group Final) s) refl))
of_after s exchange_kind r = tt
of_after s prices_kind r = tt

-- the bounds of the opening change no number
as_ended : (s t : State) → Goes (past_section s) false t → Goes s false t
as_ended s t (in_settlement e late) = in_settlement e late
as_ended s t (to_next e) = to_next e

all_ended : (s : State) (o : Option State) → Keeps (Goes (past_section s) false) o → Keeps (Goes s false) o
all_ended s None h = tt
all_ended s (Some t) h = as_ended s t h

of_ended : (b : Bool) (s : State) (r : Record) → Keeps (Goes s false) (cond b (after_section (past_section s) s.kind r) None)
of_ended true s r = all_ended s (after_section (past_section s) s.kind r) (of_after (past_section s) s.kind r)
of_ended false s r = tt

of_section : (s : State) (r : Record) (o : Result Section SectionFault) → Keeps (Goes s false) (from_section s r o)
of_section s r (Ok section) = early s (record s { section = section }) refl
of_section s r (Err order) = of_ended (may_end s.section) s r
of_section s r (Err count) = early s s refl
of_section s r (Err no_good) = early s s refl
of_section s r (Err (maker number)) = early s s refl

of_settlement : (s : State) (r : Record) → Keeps (Goes s true) (to_settlement s r)
of_settlement s r = of_then (Goes s true) (λ number. if_true (number == suc s.number) (next_settlement s)) (settlement_in r) (λ number. of_test (Goes s true) (number == suc s.number) (next_settlement s) (to_next refl))

of_round : (s : State) (r : Record) → Keeps (Goes s true) (from_round s r)
of_round s (line.submit x) = late_at s true (at_verdict x) refl
of_round s other = of_settlement s other

of_payment : (s : State) (b : ℕ) (o : Option Payment)
    → Keeps (Goes s true) (option_and_then (λ p. if_true (bytes_eq p.name (slice_index_or (names_of (exchange_at s)) b [])) (go_to (if suc b == bidder_count s then at_end closed_end else at_payment (suc b)) s)) o)
of_payment s b None = tt
of_payment s b (Some p) =
    of_test (Goes s true) (bytes_eq p.name (slice_index_or (names_of (exchange_at s)) b [])) (go_to (if suc b == bidder_count s then at_end closed_end else at_payment (suc b)) s)
    (late_at s true (if suc b == bidder_count s then at_end closed_end else at_payment (suc b)) (late_choice (suc b == bidder_count s) (at_end closed_end) (at_payment (suc b)) refl refl))

of_place : (s : State) (p : Place) (r : Record) → s.place ≡ p → Keeps (Goes s (is_late p)) (next_at s p r)
of_place s at_section r is = of_section s r (take_record s.section r)
of_place s (at_group g) r is = of_head s g r (head_value g r)
of_place s (at_sets g found) r is =
    of_map (Goes s (is_late_group g)) (λ x. if suc (length found.sets) == bidder_count s then after_sets s g (with_set found x) else go_to (at_sets g (with_set found x)) s) (set_in r)
    (λ x. of_choice (Goes s (is_late_group g)) (suc (length found.sets) == bidder_count s) (after_sets s g (with_set found x)) (go_to (at_sets g (with_set found x)) s) (of_sets s g (with_set found x)) (in_settlement refl (λ late. late)))
of_place s (at_log g found sides m) r is =
    of_map (Goes s (is_late_group g)) (λ x. after_step s g found (sides_after sides x) (multipliers_after m x)) (step_in s.version (goods_at s) m r) (λ x. of_step s g found (sides_after sides x) (multipliers_after m x))
of_place s at_regret r is =
    of_map (Goes s false) (λ amount. after_regret (record s { regret = amount }) s.kind) (amount_in r)
    (λ amount. early s (after_regret (record s { regret = amount }) s.kind) (regret_number (record s { regret = amount }) s.kind))
of_place s at_prices r is =
    of_stop (Goes s true) (is_limit r) (go_to at_pool s) (option_map (λ p. go_to at_accuracy (record s { prices = p })) (prices_in (goods_at s) r)) (late_at s true at_pool refl)
    (of_map (Goes s true) (λ p. go_to at_accuracy (record s { prices = p })) (prices_in (goods_at s) r) (λ p. in_settlement refl (λ late. refl)))
of_place s at_accuracy r is = of_map (Goes s true) (λ a. go_to (at_accuracy_rows a.den []) (record s { violation = a.violation })) (accuracy_in r) (λ a. in_settlement refl (λ late. refl))
of_place s (at_accuracy_rows den rows) r is =
    of_row (Goes s true) rows (at_accuracy_rows den) s r (to_balance s r) (λ row. late_at s true (at_accuracy_rows den (rows ++ row ∷ [])) refl)
    (of_map (Goes s true) (λ d. go_to (at_balance_rows d []) s) (balance_in r) (λ d. late_at s true (at_balance_rows d []) refl))
of_place s (at_balance_rows den rows) r is =
    of_stop (Goes s true) (is_round_stop (s.number + 2) r) (go_to done s) (with_row rows (at_balance_rows den) s r (from_round s r)) (late_at s true done refl)
    (of_row (Goes s true) rows (at_balance_rows den) s r (from_round s r) (λ row. late_at s true (at_balance_rows den (rows ++ row ∷ [])) refl) (of_round s r))
of_place s at_round r is = of_round s r
of_place s (at_verdict x) r is =
    of_map (Goes s true) (λ v. go_to at_round (record s { judged = s.judged ++ record { submission = x; verdict = v } ∷ [] })) (verdict_in r) (λ v. in_settlement refl (λ late. refl))
of_place s at_threshold r is = of_map (Goes s true) (λ c. go_to (at_payment 0) (record s { cut = c.cut; surplus = c.surplus })) (threshold_in r) (λ c. in_settlement refl (λ late. refl))
of_place s (at_payment b) r is = of_payment s b (payment_in r)
of_place s (at_spent_sets taken) r is =
    of_map (Goes s true) (λ x. go_to (if suc taken == bidder_count s then at_spent_log 1 else at_spent_sets (suc taken)) s) (set_in r)
    (λ x. late_at s true (if suc taken == bidder_count s then at_spent_log 1 else at_spent_sets (suc taken)) (late_choice (suc taken == bidder_count s) (at_spent_log 1) (at_spent_sets (suc taken)) refl refl))
of_place s (at_spent_log sides) r is =
    of_map (Goes s true) (λ x. go_to (if open_after x sides == 0 then at_end spent_end else at_spent_log (open_after x sides)) s) (step_in s.version (goods_at s) (all_zero (goods_at s)) r)
    (λ x. late_at s true (if open_after x sides == 0 then at_end spent_end else at_spent_log (open_after x sides)) (late_choice (open_after x sides == 0) (at_end spent_end) (at_spent_log (open_after x sides)) refl refl))
of_place s at_pool r is =
    of_pool (Goes s true) (is_pool r) s (from_end s limit_end r) (in_settlement refl (λ late. ap is_late is)) (of_test (Goes s true) (is_end limit_end r) (go_to done s) (late_at s true done refl))
of_place s (at_end word) r is = of_test (Goes s true) (is_end word r) (go_to done s) (late_at s true done refl)
of_place s done r is = tt

on_line : (s t : State) (late : Bool) (n : ℕ) → Goes s late t → Goes s late (to_line n t)
on_line s t late n (in_settlement e h) = in_settlement e h
on_line s t late n (to_next e) = to_next e

goes_next : (s t : State) (r : Record) → next s r ≡ Some t → Goes s (is_late s.place) t
goes_next s t r e =
    subst (Keeps (Goes s (is_late s.place))) e
    (of_line (Goes s (is_late s.place)) (suc s.line) (next_at s s.place r) (λ u h. on_line s u (is_late s.place) (suc s.line) h) (of_place s s.place r refl))

-- ---- the records behind a regret

-- behind the regret of the settlement with this number
pub data IsPast (number : ℕ) (s : State) : Type 0 where
  in_it : is_late s.place ≡ true → s.number ≡ number → IsPast number s
  behind_it : number < s.number → IsPast number s

past_next : (number : ℕ) (s t : State) (r : Record) → IsPast number s → next s r ≡ Some t → IsPast number t
past_next number s t r past e = by (goes_next s t r e) past
  where
    by : Goes s (is_late s.place) t → IsPast number s → IsPast number t
    by (in_settlement same late) (in_it here is) = in_it (late here) (same ∙ is)
    by (in_settlement same late) (behind_it far) = behind_it (omega (arith, same, far))
    by (to_next one_more) (in_it here is) = behind_it (omega (arith, one_more, is))
    by (to_next one_more) (behind_it far) = behind_it (omega (arith, one_more, far))

past_all : (number : ℕ) (s t : State) (records : List Record) → IsPast number s → after_all s records ≡ Some t → IsPast number t
past_all number s t [] past e = subst (IsPast number) (same_Some s t e) past
past_all number s t (r ∷ records) past e = by (next s r) refl (λ u f past_u g. past_all number u t records past_u g) e
  where
    by : (o : Option State) → next s r ≡ o → ((u : State) → next s r ≡ Some u → IsPast number u → after_all u records ≡ Some t → IsPast number t) → option_and_then (λ u. after_all u records) o ≡ Some t → IsPast number t
    by None at later f = absurd (none-some t f)
    by (Some u) at later f = later u at (past_next number s u r past at) f

past_regret : (number : ℕ) (s : State) → IsPast number s → s.place ≡ at_regret → s.number ≡ number → ⊥
past_regret number s (in_it here is) place same = false≢true (sym (ap is_late place) ∙ here)
past_regret number s (behind_it far) place same = absurd (omega (arith, far, same))

regret_passes : (s t : State) (r : Record) → s.place ≡ at_regret → next s r ≡ Some t → IsPast s.number t
regret_passes s t r place e =
    subst (Keeps (IsPast s.number)) (sym (ap (λ (p : Place). option_map (to_line (suc s.line)) (next_at s p r)) place) ∙ e)
    (of_line (IsPast s.number) (suc s.line) (next_at s at_regret r) (λ u h. on_any u h)
    (of_map (IsPast s.number) (λ amount. after_regret (record s { regret = amount }) s.kind) (amount_in r)
    (λ amount. in_it (regret_late (record s { regret = amount }) s.kind) (regret_number (record s { regret = amount }) s.kind))))
  where
    on_any : (u : State) → IsPast s.number u → IsPast s.number (to_line (suc s.line) u)
    on_any u (in_it here is) = in_it here is
    on_any u (behind_it far) = behind_it far

-- the records behind the first of two parts
second_part : (s t u : State) (first second : List Record) → after_all s first ≡ Some t → after_all s (first ++ second) ≡ Some u → after_all t second ≡ Some u
second_part s t u [] second e f = subst (λ (x : State). after_all x second ≡ Some u) (same_Some s t e) f
second_part s t u (r ∷ first) second e f = by (next s r) (λ x g h. second_part x t u first second g h) e f
  where
    by : (o : Option State) → ((x : State) → after_all x first ≡ Some t → after_all x (first ++ second) ≡ Some u → after_all t second ≡ Some u) → option_and_then (λ x. after_all x first) o ≡ Some t → option_and_then (λ x. after_all x (first ++ second)) o ≡ Some u
        → after_all t second ≡ Some u
    by None later g h = absurd (none-some t g)
    by (Some x) later g h = later x g h

-- no second regret of the settlement follows
no_other : (number : ℕ) (s t u : State) (r : Record) (first mid : List Record) → after_all s first ≡ Some t → t.place ≡ at_regret → t.number ≡ number → after_all s (first ++ r ∷ mid) ≡ Some u → u.place ≡ at_regret → u.number ≡ number → ⊥
no_other number s t u r first mid e place is f place_u is_u = by (next t r) refl (second_part s t u first (r ∷ mid) e f)
  where
    by : (o : Option State) → next t r ≡ o → option_and_then (λ x. after_all x mid) o ≡ Some u → ⊥
    by None at g = none-some u g
    by (Some x) at g = past_regret number u (past_all number x u mid (subst (λ (n : ℕ). IsPast n x) is (regret_passes t x r place at)) g) place_u is_u

-- ---- two places in one list

pub data Placed (xs ys : List Record) (x y : Record) (after later : List Record) : Type 0 where
  same : xs ≡ ys → x ≡ y → after ≡ later → Placed xs ys x y after later
  first : (mid : List Record) → ys ≡ xs ++ x ∷ mid → Placed xs ys x y after later
  second : (mid : List Record) → xs ≡ ys ++ y ∷ mid → Placed xs ys x y after later

placed : (xs ys : List Record) (x y : Record) (after later : List Record) → xs ++ x ∷ after ≡ ys ++ y ∷ later → Placed xs ys x y after later
placed [] [] x y after later e = same refl (head_is x y after later e) (rest_is x y after later e)
placed [] (b ∷ ys) x y after later e = first ys (ap (λ (a : Record). a ∷ ys) (sym (head_is x b after (ys ++ y ∷ later) e)))
placed (a ∷ xs) [] x y after later e = second xs (ap (λ (b : Record). b ∷ xs) (head_is a y (xs ++ x ∷ after) later e))
placed (a ∷ xs) (b ∷ ys) x y after later e = by (placed xs ys x y after later (rest_is a b (xs ++ x ∷ after) (ys ++ y ∷ later) e)) (head_is a b (xs ++ x ∷ after) (ys ++ y ∷ later) e)
  where
    by : Placed xs ys x y after later → a ≡ b → Placed (a ∷ xs) (b ∷ ys) x y after later
    by (same e1 e2 e3) h = same (ap (λ (r : Record). r ∷ xs) h ∙ ap (λ (l : List Record). b ∷ l) e1) e2 e3
    by (first mid e1) h = first mid (ap (λ (r : Record). r ∷ ys) (sym h) ∙ ap (λ (l : List Record). a ∷ l) e1)
    by (second mid e1) h = second mid (ap (λ (r : Record). r ∷ xs) h ∙ ap (λ (l : List Record). b ∷ l) e1)

-- ---- the settlement

pub record AreSame {number : ℕ} {s : State} {records : List Record} (x y : Settles number s records) : Type 0 where
  pub state : x.state ≡ y.state
  pub amount : x.amount ≡ y.amount
  pub rest : x.rest ≡ y.rest

amount_is : (a b : ℤ) → line.regret a ≡ line.regret b → a ≡ b
amount_is a b e = cc

pub one_settlement : (number : ℕ) (s : State) (records : List Record) (x y : Settles number s records) → AreSame x y
one_settlement number s records x y = by (placed x.before y.before (line.regret x.amount) (line.regret y.amount) x.rest y.rest (sym x.stands ∙ y.stands))
  where
    by : Placed x.before y.before (line.regret x.amount) (line.regret y.amount) x.rest y.rest → AreSame x y
    by (same before amount rest) = record {
      state = same_Some x.state y.state (sym x.reached ∙ ap (after_all s) before ∙ y.reached);
      amount = amount_is x.amount y.amount amount;
      rest = rest;
    }
    by (first mid before) = absurd (no_other number s x.state y.state (line.regret x.amount) x.before mid x.reached x.place x.number_is (sym (ap (after_all s) before) ∙ y.reached) y.place y.number_is)
    by (second mid before) = absurd (no_other number s y.state x.state (line.regret y.amount) y.before mid y.reached y.place y.number_is (sym (ap (after_all s) before) ∙ x.reached) x.place x.number_is)
