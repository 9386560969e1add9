-- The log of a group, written step after step.
use Rattle.std.proofs.Common.{◌≡◌, ℕ, suc, true, List, [], ◌∷◌, length, Result, Ok, refl, sym, subst, arith, inl, inr}
use Rattle.std.specs.List.{AllByRecursion}
use Rattle.std.proofs.lemmas.Bool.{false≢true}
use Rattle.ice_defs.specs.declared.Mark.TheVariants.{Never}
use Rattle.ice_defs.specs.Bound.{Multipliers}
use Rattle.ice_defs.specs.Steps.{Step, branch, leaf, dead, Side, with_mark, sides_after}
use Rattle.ice_defs.specs.Log.{Fault, Reads, ends, branches, stops, is_fixed, has_sign, is_dead_leaf, closes, is_above, is_dead, is_alive, Passes}
use Rattle.ice_defs.specs.declared.Group.{Group}
use Rattle.ice_defs.specs.declared.Group.TheVariants.{Assign, Final, Rival, Provisional, Without}
use Rattle.ice_refute.specs.Code.{CountsGoods}
use Rattle.ice_refute.specs.Passing.{PassesAt}
use Rattle.ice_journal_laws.specs.State.{Place, Stated, at_log, State, trees_at, exact_at, goods_at, weights_at}
use Rattle.ice_journal_laws.specs.Fields.{multipliers_after}
use Rattle.ice_journal_laws.specs.Next.{to_line, go_to, after_log, after_step}
use Rattle.ice_journal_laws.specs.Tests.{is_valued}
use Rattle.ice_journal_laws.specs.Progress.{passing, TakesOn}
use Rattle.ice_journal_laws.specs.Carrying.{Carries}
use Rattle.ice_journal_laws.specs.Showing.{step_record, step_records}
use Rattle.ice_journal_laws.proofs.Walking.{record_passes}
use Rattle.ice_journal_laws.proofs.Spelled.{stated_as, not_misstating}
use Rattle.ice_journal_laws.proofs.Carried.{TakesTo, carries_none, carries_then}

-- what comes after the log doesn't look at the place before
after_log_same : (k n : ℕ) (p : Place) (s : State) (g : Group) (found : Stated) → is_valued g ≡ true → to_line k (after_log (go_to p (to_line n s)) g found) ≡ to_line k (after_log s g found)
after_log_same k n p s Assign found v = absurd (false≢true v)
after_log_same k n p s Final found v = refl
after_log_same k n p s Rival found v = refl
after_log_same k n p s Provisional found v = refl
after_log_same k n p s (Without b) found v = refl

after_step_same : (k n : ℕ) (p : Place) (s : State) (g : Group) (found : Stated) (sides : List Side) (m : Multipliers) → is_valued g ≡ true
    → to_line k (after_step (go_to p (to_line n s)) g found sides m) ≡ to_line k (after_step s g found sides m)
after_step_same k n p s g found [] m v = after_log_same k n p s g found v
after_step_same k n p s g found (side ∷ sides) m v = refl

module _ (s : State) (g : Group) (found : Stated) (valued : is_valued g ≡ true) where
  -- one step
  pub step_takes : (side : Side) (others : List Side) (m : Multipliers) (x : Step) → length m ≡ goods_at s → CountsGoods (goods_at s) x → PassesAt (trees_at s) (exact_at s) (weights_at s g) found.value side x
      → TakesTo (after_step s g found (side ∷ others) m) (step_record s.version m x) (after_step s g found (sides_after (side ∷ others) x) (multipliers_after m x))
  step_takes side others m x count counts passes n =
      subst (λ (t : State). TakesOn (go_to (at_log g found (side ∷ others) m) (to_line n s)) (step_record s.version m x) (passing t))
      (after_step_same (suc n) n (at_log g found (side ∷ others) m) s g found (sides_after (side ∷ others) x) (multipliers_after m x) valued)
      (record_passes (to_line n s) g found (side ∷ others) (sides_after (side ∷ others) x) m (multipliers_after m x) (step_record s.version m x) (omega arith) count (record {
        step = x;
        stated = stated_as s.version m x (subst (λ (k : ℕ). CountsGoods k x) (sym count) counts);
        near = not_misstating s.version m x (subst (λ (k : ℕ). CountsGoods k x) (sym count) counts);
        passes = passes;
        sides_are = refl;
        multipliers_are = refl;
      }))

  abbrev Counts : List Step → Type 0
  Counts log = AllByRecursion (CountsGoods (goods_at s)) log

  -- what goes on behind these steps, whatever the last multipliers were
  abbrev GoesOn : List Side → List Step → State → Type 0
  GoesOn others left t = (m : Multipliers) → length m ≡ goods_at s → Counts left → Carries (after_step s g found others m) (step_records s.version m left) t

  left_same : (rest left : List Step) → (let o : Result (List Step) Fault = Ok rest in o) ≡ Ok left → rest ≡ left
  left_same rest left e = cc

  closed : (x : Step) (rest left : List Step) (side : Side) (others : List Side) (m m_then : Multipliers) (t : State) → (let o : Result (List Step) Fault = Ok rest in o) ≡ Ok left → length m_then ≡ goods_at s → Counts rest → GoesOn others left t
      → Carries (after_step s g found others m_then) (step_records s.version m_then rest) t
  closed x rest left side others m m_then t e count counts on =
      subst (λ (l : List Step). Counts l → Carries (after_step s g found others m_then) (step_records s.version m_then l) t) (sym (left_same rest left e)) (on m_then count) counts

  -- the first side is read, and the rest goes on
  log_carries : {side : Side} {log : List Step} {end : Result (List Step) Fault} → Reads (trees_at s) (exact_at s) (weights_at s g) found.value side log end
      → (left : List Step) → end ≡ Ok left → (others : List Side) (m : Multipliers) → length m ≡ goods_at s → Counts log → (t : State) → GoesOn others left t
      → Carries (after_step s g found (side ∷ others) m) (step_records s.version m log) t
  log_carries ends left e others m count counts t on = absurd cc
  log_carries (branches {side = side} {b = b} {n = n} {rest = rest} {left = mid} free must never) left e others m count counts t on =
      carries_then (after_step s g found (side ∷ others) m) (after_step s g found (sides_after (side ∷ others) (branch b n)) m) t (step_record s.version m (branch b n)) (step_records s.version m rest)
      (step_takes side others m (branch b n) count tt free)
      (log_carries must mid refl (with_mark side b n Never ∷ others) m count counts.1 t (λ m' count' counts'. log_carries never left e others m' count' counts' t on))
  log_carries (stops free must) left e others m count counts t on = absurd cc
  log_carries (is_fixed none) left e others m count counts t on = absurd cc
  log_carries (has_sign wrong) left e others m count counts t on = absurd cc
  log_carries (is_dead_leaf {side = side} {m = new} {rest = rest} signs none) left e others m count counts t on =
      carries_then (after_step s g found (side ∷ others) m) (after_step s g found others new) t (step_record s.version m (leaf new)) (step_records s.version new rest)
      (step_takes side others m (leaf new) count counts.0 (signs, inl none))
      (closed (leaf new) rest left side others m new t e counts.0 counts.1 on)
  log_carries (closes {side = side} {m = new} {rest = rest} {v = v} signs bound low) left e others m count counts t on =
      carries_then (after_step s g found (side ∷ others) m) (after_step s g found others new) t (step_record s.version m (leaf new)) (step_records s.version new rest)
      (step_takes side others m (leaf new) count counts.0 (signs, inr (v, bound, low)))
      (closed (leaf new) rest left side others m new t e counts.0 counts.1 on)
  log_carries (is_above signs bound high) left e others m count counts t on = absurd cc
  log_carries (is_dead {side = side} {b = b} {rest = rest} is) left e others m count counts t on =
      carries_then (after_step s g found (side ∷ others) m) (after_step s g found others m) t (step_record s.version m (dead b)) (step_records s.version m rest)
      (step_takes side others m (dead b) count tt is)
      (closed (dead b) rest left side others m m t e count counts.1 on)
  log_carries (is_alive none) left e others m count counts t on = absurd cc

  -- a whole log, from its start
  pub passing_log_carries : (start : Side) (log : List Step) (m : Multipliers) → length m ≡ goods_at s → Counts log → Passes (trees_at s) (exact_at s) (weights_at s g) found.value start log
      → Carries (go_to (at_log g found (start ∷ []) m) s) (step_records s.version m log) (after_log s g found)
  passing_log_carries start log m count counts passes = log_carries passes [] refl [] m count counts (after_log s g found) (λ m' count' counts'. carries_none (after_log s g found))
