-- Records that lead on, each of whose steps has a property.
use Rattle.std.proofs.Common.{◌≡◌, ℕ, suc, true, List, [], ◌∷◌, ◌++◌, length, map, Result, Ok, refl, sym, subst, inl, inr}
use Rattle.std.specs.Prelude.{Option, Some, None, option_map, IfSome}
use Rattle.std.specs.List.{AllByRecursion}
use Rattle.ice_defs.specs.declared.Mark.TheVariants.{Never}
use Rattle.ice_defs.specs.Trade.{Assignment}
use Rattle.ice_defs.specs.Bound.{Multipliers}
use Rattle.ice_defs.specs.Steps.{Step, branch, leaf, dead, Side, with_mark, sides_after, steps_with_sides}
use Rattle.ice_defs.specs.Log.{Fault, Reads, ends, branches, stops, is_fixed, has_sign, is_dead_leaf, closes, is_above, is_dead, is_alive, Passes}
use Rattle.ice_defs.specs.declared.Group.{Group}
use Rattle.ice_refute.specs.Code.{CountsGoods}
use Rattle.ice_refute.specs.Passing.{PassesAt}
use Rattle.ice_journal.specs.Records.{Record, Version, version_1, version_2}
use Rattle.ice_journal.specs.Records as line
use Rattle.ice_journal_laws.specs.Fields.{step_in, multipliers_after}
use Rattle.ice_journal_laws.specs.State.{Place, Stated, at_log, State, trees_at, exact_at, goods_at, weights_at}
use Rattle.ice_journal_laws.specs.Next.{next, to_line, go_to, after_log, after_step}
use Rattle.ice_journal_laws.specs.Tests.{Taken, taken_step, is_valued}
use Rattle.ice_journal_laws.specs.Progress.{passing, TakesOn, passes_on, fails_at, list_fails_at, Leads, stays, goes}
use Rattle.ice_journal_laws.specs.Carrying.{Carries}
use Rattle.ice_journal_laws.specs.Showing.{step_record, step_records}
use Rattle.ice_journal_laws.specs.StepsTaken.{EachTaken, Earns}
use Rattle.ice_journal_laws.proofs.Single.{some_same}
use Rattle.ice_journal_laws.proofs.Leading.{failed_passes}
use Rattle.ice_journal_laws.proofs.Spelled.{stated_as}
use Rattle.ice_journal_laws.proofs.Carried.{carries_none, carries_join}
use Rattle.ice_journal_laws.proofs.CarriedLog.{step_takes, passing_log_carries}

-- a record of no log
abbrev pub IsNoStep : Record → Type 0
IsNoStep (line.step x) = ⊥
IsNoStep (line.near changes) = ⊥
IsNoStep other = Unit {0}

no_step : (v : Version) (goods : ℕ) (m : Multipliers) (r : Record) → IsNoStep r → step_in v goods m r ≡ None
no_step v goods m (line.step x) h = absurd h
no_step v goods m (line.near changes) h = absurd h
no_step version_1 goods m other h = refl
no_step version_2 goods m other h = refl

-- what a record that passes makes of the state
takes_next : (s t : State) (r : Record) → TakesOn s r (passing t) → next s r ≡ Some t
takes_next s t r (passes_on list none holds is) = is

module _ (P : State → Taken → Type 0) where
  taken_join : (s t : State) (a b : List Record) → Leads (passing s) a (passing t) → EachTaken P s a → EachTaken P t b → EachTaken P s (a ++ b)
  taken_join s t [] b stays h k = k
  taken_join s t (r ∷ a) b (goes (passes_on {after = after} list none holds is) l) h k =
      (h.0, λ other e. subst (λ (u : State). EachTaken P u (a ++ b)) (some_same (next s r) after other is e) (taken_join after t a b l (h.1 after is) k))
  taken_join s t (r ∷ a) b (goes (fails_at list f) l) h k = absurd (failed_passes _ a t l)
  taken_join s t (r ∷ a) b (goes (list_fails_at e n) l) h k = absurd (failed_passes _ a t l)

  takes_none : (s : State) (p : Place) (r : Record) → IsNoStep r → IfSome (taken_step s p r) (P s)
  takes_none s (at_log g found (side ∷ sides) m) r h =
      subst (λ (o : Option Step). IfSome (option_map (λ x. let t : Taken = record { group = g; target = found.value; side = side; before = m; step = x } in t) o) (P s)) (sym (no_step s.version (goods_at s) m r h)) tt
  takes_none s other r h = tt

  taken_none : (s : State) (records : List Record) → AllByRecursion IsNoStep records → EachTaken P s records
  taken_none s [] h = tt
  taken_none s (r ∷ rest) h = (takes_none s s.place r h.0, λ after e. taken_none after rest h.1)

  -- ---- joining

  pub earns_none : (s : State) → Earns P s [] s
  earns_none s = record { carries = carries_none s; taken = λ n. tt }

  pub earns_join : (s t u : State) (a b : List Record) → Earns P s a t → Earns P t b u → Earns P s (a ++ b) u
  earns_join s t u a b x y = record {
    carries = carries_join s t u a b x.carries y.carries;
    taken = λ n. let (m, l) = x.carries.leads n in taken_join (to_line n s) (to_line m t) a b l (x.taken n) (y.taken m);
  }

  -- records of no log
  pub earns_quiet : (s t : State) (a : List Record) → Carries s a t → AllByRecursion IsNoStep a → Earns P s a t
  earns_quiet s t a h none = record { carries = h; taken = λ n. taken_none (to_line n s) a none }

  pub sets_quiet : (sets : Assignment) → AllByRecursion IsNoStep (map line.set sets)
  sets_quiet [] = tt
  sets_quiet (x ∷ sets) = (tt, sets_quiet sets)

  -- ---- a log

  module _ (s : State) (g : Group) (found : Stated) (valued : is_valued g ≡ true) (Q : Side → Step → Type 0)
      (give : (n : ℕ) (others : List Side) (side : Side) (m : Multipliers) (x : Step) → Q side x → P (to_line n (go_to (at_log g found (side ∷ others) m) s)) (record { group = g; target = found.value; side = side; before = m; step = x })) where
    abbrev Counts : List Step → Type 0
    Counts log = AllByRecursion (CountsGoods (goods_at s)) log

    -- each of these steps has the property at its side
    abbrev Each : List Side → List Step → Type 0
    Each sides log = AllByRecursion (λ p. Q p.0 p.1) (steps_with_sides sides log)

    abbrev GoesOn : List Side → List Step → Type 0
    GoesOn others left = (m : Multipliers) → length m ≡ goods_at s → Counts left → Each others left → (n : ℕ) → EachTaken P (to_line n (after_step s g found others m)) (step_records s.version m left)

    one_taken : (side : Side) (others : List Side) (m : Multipliers) (x : Step) (rest : List Record) (n : ℕ) → length m ≡ goods_at s → CountsGoods (goods_at s) x → PassesAt (trees_at s) (exact_at s) (weights_at s g) found.value side x → Q side x
        → EachTaken P (to_line (suc n) (after_step s g found (sides_after (side ∷ others) x) (multipliers_after m x))) rest → EachTaken P (to_line n (after_step s g found (side ∷ others) m)) (step_record s.version m x ∷ rest)
    one_taken side others m x rest n count counts passes q more = (
      subst (λ (o : Option Step). IfSome (option_map (λ y. let t : Taken = record { group = g; target = found.value; side = side; before = m; step = y } in t) o) (P (to_line n (go_to (at_log g found (side ∷ others) m) s))))
          (sym (subst (λ (k : ℕ). step_in s.version k m (step_record s.version m x) ≡ Some x) count (stated_as s.version m x (subst (λ (k : ℕ). CountsGoods k x) (sym count) counts)))) (give n others side m x q),
      λ after e.
          subst (λ (u : State). EachTaken P u rest)
          (some_same (next (to_line n (after_step s g found (side ∷ others) m)) (step_record s.version m x)) (to_line (suc n) (after_step s g found (sides_after (side ∷ others) x) (multipliers_after m x))) after
          (takes_next (to_line n (after_step s g found (side ∷ others) m)) (to_line (suc n) (after_step s g found (sides_after (side ∷ others) x) (multipliers_after m x))) (step_record s.version m x) (step_takes s g found valued side others m x count counts passes n)) e) more,
    )

    left_same : (rest left : List Step) → (let o : Result (List Step) Fault = Ok rest in o) ≡ Ok left → rest ≡ left
    left_same rest left e = cc

    closed : (rest left : List Step) (others : List Side) (m : Multipliers) → (let o : Result (List Step) Fault = Ok rest in o) ≡ Ok left → length m ≡ goods_at s → Counts rest → Each others rest → GoesOn others left
        → (n : ℕ) → EachTaken P (to_line n (after_step s g found others m)) (step_records s.version m rest)
    closed rest left others m e count counts each on =
        subst (λ (l : List Step). Counts l → Each others l → (n : ℕ) → EachTaken P (to_line n (after_step s g found others m)) (step_records s.version m l)) (sym (left_same rest left e)) (on m count) counts each

    log_taken : {side : Side} {log : List Step} {end : Result (List Step) Fault} → Reads (trees_at s) (exact_at s) (weights_at s g) found.value side log end
        → (left : List Step) → end ≡ Ok left → (others : List Side) (m : Multipliers) → length m ≡ goods_at s → Counts log → Each (side ∷ others) log → GoesOn others left
        → (n : ℕ) → EachTaken P (to_line n (after_step s g found (side ∷ others) m)) (step_records s.version m log)
    log_taken ends left e others m count counts each on n = absurd cc
    log_taken (branches {side = side} {b = b} {n = k} {rest = rest} {left = mid} free must never) left e others m count counts each on n =
        one_taken side others m (branch b k) (step_records s.version m rest) n count tt free each.0
        (log_taken must mid refl (with_mark side b k Never ∷ others) m count counts.1 each.1 (λ m' count' counts' each' n'. log_taken never left e others m' count' counts' each' on n') (suc n))
    log_taken (stops free must) left e others m count counts each on n = absurd cc
    log_taken (is_fixed none) left e others m count counts each on n = absurd cc
    log_taken (has_sign wrong) left e others m count counts each on n = absurd cc
    log_taken (is_dead_leaf {side = side} {m = new} {rest = rest} signs none) left e others m count counts each on n =
        one_taken side others m (leaf new) (step_records s.version new rest) n count counts.0 (signs, inl none) each.0 (closed rest left others new e counts.0 counts.1 each.1 on (suc n))
    log_taken (closes {side = side} {m = new} {rest = rest} {v = v} signs bound low) left e others m count counts each on n =
        one_taken side others m (leaf new) (step_records s.version new rest) n count counts.0 (signs, inr (v, bound, low)) each.0 (closed rest left others new e counts.0 counts.1 each.1 on (suc n))
    log_taken (is_above signs bound high) left e others m count counts each on n = absurd cc
    log_taken (is_dead {side = side} {b = b} {rest = rest} is) left e others m count counts each on n =
        one_taken side others m (dead b) (step_records s.version m rest) n count tt is each.0 (closed rest left others m e count counts.1 each.1 on (suc n))
    log_taken (is_alive none) left e others m count counts each on n = absurd cc

    pub log_earns : (start : Side) (log : List Step) (m : Multipliers) → length m ≡ goods_at s → Counts log → Each (start ∷ []) log → Passes (trees_at s) (exact_at s) (weights_at s g) found.value start log
        → Earns P (go_to (at_log g found (start ∷ []) m) s) (step_records s.version m log) (after_log s g found)
    log_earns start log m count counts each passes = record {
      carries = passing_log_carries s g found valued start log m count counts passes;
      taken = log_taken passes [] refl [] m count counts each (λ m' count' counts' each' n. tt);
    }
