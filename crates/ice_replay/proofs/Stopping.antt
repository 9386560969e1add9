-- Where a stop leads: behind it neither a regret nor prices come.
use Rattle.std.proofs.Common.{◌≡◌, ◌+◌, ℕ, suc, Bool, true, false, cond, List, [], ◌∷◌, ℤ, refl, sym, ◌∙◌, ap, subst}
use Rattle.std.specs.Prelude.{◌==◌, Option, Some, None, option_map, option_and_then}
use Rattle.std.proofs.lemmas.Bool.{false≢true}
use Rattle.std.proofs.lemmas.Option.{none-some}
use Rattle.ice_defs.specs.Bound.{Multipliers}
use Rattle.ice_defs.specs.PricingLimit.{Stage, LimitKind}
use Rattle.ice_defs.specs.declared.Group.TheVariants.{Assign, Final, Rival, Provisional, Without}
use Rattle.ice_journal.specs.Records.{Record, Version, version_1, version_2, Kind, assign_kind, regret_kind, session_kind, exchange_kind, prices_kind, open_end, spent_end, limit_end}
use Rattle.ice_journal.specs.Records as line
use Rattle.ice_journal.specs.Plain.{all_zero}
use Rattle.ice_section.specs.Section.{may_end}
use Rattle.ice_journal_laws.specs.Fields.{is_pool, is_round_stop, is_end, set_in, prices_in, step_in}
use Rattle.ice_journal_laws.specs.State.{Place, at_section, at_group, at_log, at_regret, at_prices, at_balance_rows, at_spent_sets, at_spent_log, at_pool, at_end, done, State, goods_at}
use Rattle.ice_journal_laws.specs.Next.{next, next_at, go_to, to_line, bidder_count, if_true, after_section, past_section, open_after, after_all}
use Rattle.ice_journal_laws.specs.Tests.{IsStop}
use Rattle.ice_check_records.specs.Due.{is_prices_place}
use Rattle.ice_replay.specs.Settlements.{prices_from}

-- behind a stop
abbrev pub is_stopped : Place → Bool
is_stopped (at_spent_sets taken) = true
is_stopped (at_spent_log sides) = true
is_stopped at_pool = true
is_stopped (at_end word) = true
is_stopped done = true
is_stopped other = false

pub stopped_regret : (p : Place) → is_stopped p ≡ true → p ≡ at_regret → ⊥
stopped_regret p stopped e = false≢true (sym (ap is_stopped e) ∙ stopped)

stopped_prices : (p : Place) → is_stopped p ≡ true → is_prices_place p ≡ false
stopped_prices (at_spent_sets taken) e = refl
stopped_prices (at_spent_log sides) e = refl
stopped_prices at_pool e = refl
stopped_prices (at_end word) e = refl
stopped_prices done e = refl
stopped_prices other e = absurd (false≢true e)

-- the state after, if there is one, is behind a stop
abbrev pub IsBehind : Option State → Type 0
IsBehind None = Unit {0}
IsBehind (Some s) = is_stopped s.place ≡ true

of_map : {X : Type 0} (f : X → State) (o : Option X) → ((x : X) → is_stopped (f x).place ≡ true) → IsBehind (option_map f o)
of_map f None each = tt
of_map f (Some x) each = each x

of_test : (b : Bool) (s : State) → is_stopped s.place ≡ true → IsBehind (if_true b s)
of_test true s e = e
of_test false s e = tt

of_none : (o : Option State) → o ≡ None → IsBehind o
of_none None e = tt
of_none (Some s) e = absurd (none-some s (sym e))

of_choice : (b : Bool) (p q : Place) → is_stopped p ≡ true → is_stopped q ≡ true → is_stopped (cond b p q) ≡ true
of_choice true p q e f = e
of_choice false p q e f = f

of_pool : (b : Bool) (s t : State) (c : Bool) → is_stopped s.place ≡ true → is_stopped t.place ≡ true → IsBehind (cond b (Some s) (if_true c t))
of_pool true s t c e f = e
of_pool false s t c e f = of_test c t f

-- ---- behind a stop all stays so

stays_at : (s : State) (p : Place) (r : Record) → is_stopped s.place ≡ true → is_stopped p ≡ true → IsBehind (next_at s p r)
stays_at s (at_spent_sets taken) r e stopped =
    of_map (λ x. go_to (cond (suc taken == bidder_count s) (at_spent_log 1) (at_spent_sets (suc taken))) s) (set_in r)
    (λ x. of_choice (suc taken == bidder_count s) (at_spent_log 1) (at_spent_sets (suc taken)) refl refl)
stays_at s (at_spent_log sides) r e stopped =
    of_map (λ x. go_to (cond (open_after x sides == 0) (at_end spent_end) (at_spent_log (open_after x sides))) s) (step_in s.version (goods_at s) (all_zero (goods_at s)) r)
    (λ x. of_choice (open_after x sides == 0) (at_end spent_end) (at_spent_log (open_after x sides)) refl refl)
stays_at s at_pool r e stopped = of_pool (is_pool r) s (go_to done s) (is_end limit_end r) e refl
stays_at s (at_end word) r e stopped = of_test (is_end word r) (go_to done s) refl
stays_at s done r e stopped = tt
stays_at s other r e stopped = absurd (false≢true stopped)

-- the next line changes no place
of_line : (n : ℕ) (o : Option State) → IsBehind o → IsBehind (option_map (to_line n) o)
of_line n None h = tt
of_line n (Some s) h = h

pub stays_behind : (s : State) (r : Record) → is_stopped s.place ≡ true → IsBehind (next s r)
stays_behind s r e = of_line (suc s.line) (next_at s s.place r) (stays_at s s.place r e e)

pub all_stay : (s t : State) (records : List Record) → is_stopped s.place ≡ true → after_all s records ≡ Some t → is_stopped t.place ≡ true
all_stay s t [] e is = subst (λ (o : Option State). IsBehind o) is e
all_stay s t (r ∷ records) e is = by (next s r) (λ after. all_stay after t records) (stays_behind s r e) is
  where
    by : (o : Option State) → ((after : State) → is_stopped after.place ≡ true → after_all after records ≡ Some t → is_stopped t.place ≡ true) → IsBehind o → option_and_then (λ after. after_all after records) o ≡ Some t
        → is_stopped t.place ≡ true
    by None later h f = absurd (none-some t f)
    by (Some after) later h f = later after h f

pub no_prices_behind : (s : State) (more : List Record) → is_stopped s.place ≡ true → prices_from s more ≡ None
no_prices_behind s [] e = refl
no_prices_behind s (r ∷ more) e =
    ap (λ (b : Bool). cond b (prices_in (goods_at s) r) (option_and_then (λ after. prices_from after more) (next s r))) (stopped_prices s.place e)
    ∙ by (next s r) (λ after. no_prices_behind after more) (stays_behind s r e)
  where
    by : (o : Option State) → ((after : State) → is_stopped after.place ≡ true → prices_from after more ≡ None) → IsBehind o → option_and_then (λ after. prices_from after more) o ≡ None
    by None later h = refl
    by (Some after) later h = later after h

-- ---- the first record of a stop

abbrev is_first : Record → Bool
is_first (line.spent value bound) = true
is_first (line.limit stage kind violation den) = true
is_first (line.end open_end) = true
is_first (line.refused file number place) = true
is_first (line.unread file) = true
is_first other = false

no_step : (v : Version) (goods : ℕ) (m : Multipliers) (r : Record) → is_first r ≡ true → step_in v goods m r ≡ None
no_step version_1 goods m r first = by r first
  where
    by : (r : Record) → is_first r ≡ true → step_in version_1 goods m r ≡ None
    by (line.step x) e = absurd (false≢true e)
    by other e = refl
no_step version_2 goods m r first = by r first
  where
    by : (r : Record) → is_first r ≡ true → step_in version_2 goods m r ≡ None
    by (line.step x) e = absurd (false≢true e)
    by (line.near changes) e = absurd (false≢true e)
    by other e = refl

module _ (s : State) where
  spent_opens : (value bound : ℤ) (kind : Kind) (b : Bool) → IsBehind (cond b (after_section (past_section s) kind (line.spent value bound)) None)
  spent_opens value bound kind false = tt
  spent_opens value bound assign_kind true = tt
  spent_opens value bound regret_kind true = refl
  spent_opens value bound session_kind true = tt
  spent_opens value bound exchange_kind true = tt
  spent_opens value bound prices_kind true = tt

  spent_stops : (p : Place) (value bound : ℤ) → IsBehind (next_at s p (line.spent value bound))
  spent_stops at_section value bound = spent_opens value bound s.kind (may_end s.section)
  spent_stops (at_group Assign) value bound = refl
  spent_stops (at_group Final) value bound = refl
  spent_stops (at_group Rival) value bound = refl
  spent_stops (at_group Provisional) value bound = refl
  spent_stops (at_group (Without b)) value bound = refl
  spent_stops (at_log g found sides m) value bound = of_none _ (ap (option_map _) (no_step s.version (goods_at s) m (line.spent value bound) refl))
  spent_stops (at_spent_log sides) value bound = of_none _ (ap (option_map _) (no_step s.version (goods_at s) (all_zero (goods_at s)) (line.spent value bound) refl))
  spent_stops other value bound = tt

  limit_opens : (stage : Stage) (limit : LimitKind) (violation : ℤ) (den : ℕ) (kind : Kind) (b : Bool) → IsBehind (cond b (after_section (past_section s) kind (line.limit stage limit violation den)) None)
  limit_opens stage limit violation den kind false = tt
  limit_opens stage limit violation den assign_kind true = tt
  limit_opens stage limit violation den regret_kind true = tt
  limit_opens stage limit violation den session_kind true = tt
  limit_opens stage limit violation den exchange_kind true = tt
  limit_opens stage limit violation den prices_kind true = tt

  limit_stops : (p : Place) (stage : Stage) (limit : LimitKind) (violation : ℤ) (den : ℕ) → IsBehind (next_at s p (line.limit stage limit violation den))
  limit_stops at_section stage limit violation den = limit_opens stage limit violation den s.kind (may_end s.section)
  limit_stops (at_group Assign) stage limit violation den = tt
  limit_stops (at_group Final) stage limit violation den = tt
  limit_stops (at_group Rival) stage limit violation den = tt
  limit_stops (at_group Provisional) stage limit violation den = tt
  limit_stops (at_group (Without b)) stage limit violation den = tt
  limit_stops (at_log g found sides m) stage limit violation den = of_none _ (ap (option_map _) (no_step s.version (goods_at s) m (line.limit stage limit violation den) refl))
  limit_stops (at_spent_log sides) stage limit violation den = of_none _ (ap (option_map _) (no_step s.version (goods_at s) (all_zero (goods_at s)) (line.limit stage limit violation den) refl))
  limit_stops at_prices stage limit violation den = refl
  limit_stops other stage limit violation den = tt

  open_opens : (kind : Kind) (b : Bool) → IsBehind (cond b (after_section (past_section s) kind (line.end open_end)) None)
  open_opens kind false = tt
  open_opens assign_kind true = tt
  open_opens regret_kind true = tt
  open_opens session_kind true = tt
  open_opens exchange_kind true = tt
  open_opens prices_kind true = tt

  open_stops : (p : Place) → IsBehind (next_at s p (line.end open_end))
  open_stops at_section = open_opens s.kind (may_end s.section)
  open_stops (at_group Assign) = tt
  open_stops (at_group Final) = tt
  open_stops (at_group Rival) = tt
  open_stops (at_group Provisional) = tt
  open_stops (at_group (Without b)) = tt
  open_stops (at_log g found sides m) = of_none _ (ap (option_map _) (no_step s.version (goods_at s) m (line.end open_end) refl))
  open_stops (at_spent_log sides) = of_none _ (ap (option_map _) (no_step s.version (goods_at s) (all_zero (goods_at s)) (line.end open_end) refl))
  open_stops (at_balance_rows den rows) = refl
  open_stops (at_end word) = of_test (is_end word (line.end open_end)) (go_to done s) refl
  open_stops other = tt

  refused_opens : (file number : ℕ) (name : List ℕ) (kind : Kind) (b : Bool) → IsBehind (cond b (after_section (past_section s) kind (line.refused file number name)) None)
  refused_opens file number name kind false = tt
  refused_opens file number name assign_kind true = tt
  refused_opens file number name regret_kind true = tt
  refused_opens file number name session_kind true = tt
  refused_opens file number name exchange_kind true = tt
  refused_opens file number name prices_kind true = tt

  refused_stops : (p : Place) (file number : ℕ) (name : List ℕ) → IsBehind (next_at s p (line.refused file number name))
  refused_stops at_section file number name = refused_opens file number name s.kind (may_end s.section)
  refused_stops (at_group Assign) file number name = tt
  refused_stops (at_group Final) file number name = tt
  refused_stops (at_group Rival) file number name = tt
  refused_stops (at_group Provisional) file number name = tt
  refused_stops (at_group (Without b)) file number name = tt
  refused_stops (at_log g found sides m) file number name = of_none _ (ap (option_map _) (no_step s.version (goods_at s) m (line.refused file number name) refl))
  refused_stops (at_spent_log sides) file number name = of_none _ (ap (option_map _) (no_step s.version (goods_at s) (all_zero (goods_at s)) (line.refused file number name) refl))
  refused_stops (at_balance_rows den rows) file number name = of_test (is_round_stop (s.number + 2) (line.refused file number name)) (go_to done s) refl
  refused_stops other file number name = tt

  unread_opens : (file : ℕ) (kind : Kind) (b : Bool) → IsBehind (cond b (after_section (past_section s) kind (line.unread file)) None)
  unread_opens file kind false = tt
  unread_opens file assign_kind true = tt
  unread_opens file regret_kind true = tt
  unread_opens file session_kind true = tt
  unread_opens file exchange_kind true = tt
  unread_opens file prices_kind true = tt

  unread_stops : (p : Place) (file : ℕ) → IsBehind (next_at s p (line.unread file))
  unread_stops at_section file = unread_opens file s.kind (may_end s.section)
  unread_stops (at_group Assign) file = tt
  unread_stops (at_group Final) file = tt
  unread_stops (at_group Rival) file = tt
  unread_stops (at_group Provisional) file = tt
  unread_stops (at_group (Without b)) file = tt
  unread_stops (at_log g found sides m) file = of_none _ (ap (option_map _) (no_step s.version (goods_at s) m (line.unread file) refl))
  unread_stops (at_spent_log sides) file = of_none _ (ap (option_map _) (no_step s.version (goods_at s) (all_zero (goods_at s)) (line.unread file) refl))
  unread_stops (at_balance_rows den rows) file = of_test (is_round_stop (s.number + 2) (line.unread file)) (go_to done s) refl
  unread_stops other file = tt

  pub stops : (r : Record) → IsStop s r → IsBehind (next s r)
  stops (line.spent value bound) stop = of_line (suc s.line) _ (spent_stops s.place value bound)
  stops (line.limit stage kind violation den) stop = of_line (suc s.line) _ (limit_stops s.place stage kind violation den)
  stops (line.end open_end) stop = of_line (suc s.line) _ (open_stops s.place)
  stops (line.end word) stop = absurd (false≢true stop.0)
  stops (line.refused file number place) stop = of_line (suc s.line) _ (refused_stops s.place file number place)
  stops (line.unread file) stop = of_line (suc s.line) _ (unread_stops s.place file)
  stops other stop = absurd (false≢true stop.0)
