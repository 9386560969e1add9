-- What a record of a log makes of the tests, in any group.
use Rattle.std.proofs.Common.{◌≡◌, ◌<◌, ℕ, suc, Bool, false, List, [], ◌∷◌, length, Any, refl, sym, ◌∙◌, ap, subst, arith, inl, inr, ℤ}
use Rattle.std.specs.Prelude.{◌+◌, ◌||◌, Option, Some, None, option_map, IsSomeAnd, IfSome, IfErr, Result, Ok, Err}
use Rattle.std.proofs.lemmas.Bool.{false≢true}
use Rattle.std.proofs.lemmas.Option.{none-some}
use Rattle.ice_defs.specs.Tree.{Tree}
use Rattle.ice_defs.specs.Set.{Weights}
use Rattle.ice_defs.specs.Bound.{Multipliers}
use Rattle.ice_defs.specs.Derived.{goods_alone}
use Rattle.ice_defs.specs.Steps.{Step, branch, leaf, dead, Side, sides_after}
use Rattle.ice_defs.specs.Log.{Fault, above, is_above, is_dead_leaf, closes}
use Rattle.ice_defs.specs.declared.Group.{Group}
use Rattle.ice_refute.specs.Passing.{PassesAt, HasFault}
use Rattle.ice_refute.specs.Waiting.{first_side}
use Rattle.ice_refute.specs.declared.fault.StepFault.{StepFault}
use Rattle.ice_refute.specs.declared.fault.StepFault.TheVariants.{Fixed, Sign, Above, NotDead}
use Rattle.ice_refute.proofs.Same.{Reads-same}
use Rattle.ice_journal.specs.Records.{Record, Version, version_1, version_2}
use Rattle.ice_journal.specs.Records as line
use Rattle.ice_journal_laws.specs.declared.rule.Rule.{Rule}
use Rattle.ice_journal_laws.specs.declared.rule.Rule.TheVariants as rule
use Rattle.ice_journal_laws.specs.State.{Stated, at_log, State, trees_at, exact_at, goods_at, weights_at}
use Rattle.ice_journal_laws.specs.Fields.{step_in, changes_in, multipliers_after, is_spent, is_limit, is_round_stop}
use Rattle.ice_journal_laws.specs.Next.{next, to_line, go_to, after_step}
use Rattle.ice_journal_laws.specs.Tests.{Fails, place_of, Taken, OfStep, IsNoChange, HasSign, IsFixed, IsAbove, IsAlive, IsClosing}
use Rattle.ice_journal_laws.specs.Progress.{passing, failed, TakesOn, passes_on, fails_at}
use Rattle.ice_journal_laws.specs.Stepping.{rule_of_fault, FailsAt, IsMisstating, PassesStep, FailsStep, no_step, is_misstated, has_fault}
use Rattle.ice_journal_laws.proofs.Places.{fails_order}

-- a step is no stop
no_stop : (v : Version) (goods k : ℕ) (m : Multipliers) (r : Record) (x : Step) → step_in v goods m r ≡ Some x → (is_spent r || is_limit r || is_round_stop k r) ≡ false
no_stop v goods k m (line.step s) x e = refl
no_stop v goods k m (line.near changes) x e = refl
no_stop version_1 goods k m other x e = absurd (none-some x e)
no_stop version_2 goods k m other x e = absurd (none-some x e)

module _ (s : State) (g : Group) (found : Stated) (side : Side) (others : List Side) (m : Multipliers) (r : Record) where
  abbrev Before : State
  Before = go_to (at_log g found (side ∷ others) m) s

  abbrev taken : Step → Taken
  taken x = record { group = g; target = found.value; side = side; before = m; step = x }

  -- the record is this step
  abbrev IsStated : Step → Type 0
  IsStated x = step_in s.version (goods_at s) m r ≡ Some x

  abbrev IsNear : Type 0
  IsNear = IsSomeAnd (changes_in s.version r) (Any (IsNoChange (goods_at s) m))

  of_step : (P : Taken → Type 0) (x : Step) → IsStated x → OfStep Before r P → P (taken x)
  of_step P x e h = subst (λ (o : Option Step). IsSomeAnd (option_map taken o) P) e h

  to_step : (P : Taken → Type 0) (x : Step) → IsStated x → P (taken x) → OfStep Before r P
  to_step P x e h = subst (λ (o : Option Step). IsSomeAnd (option_map taken o) P) (sym e) h

  -- the tests that a step may fail
  data StepFailure (x : Step) : Rule → Type 0 where
    by_near : IsNear → StepFailure x rule.Near
    by_sign : HasSign s x → StepFailure x rule.Sign
    by_fixed : IsFixed s side x → StepFailure x rule.Fixed
    by_above : IsAbove s (taken x) x → StepFailure x rule.Above
    by_alive : IsAlive s side x → StepFailure x rule.Alive

  next_is : (x : Step) → IsStated x → next Before r ≡ Some (to_line (suc s.line) (after_step Before g found (sides_after (side ∷ others) x) (multipliers_after m x)))
  next_is x e = ap (λ (o : Option Step). option_map (to_line (suc s.line)) (option_map (λ y. after_step Before g found (sides_after (side ∷ others) y) (multipliers_after m y)) o)) e

  step_failure : (x : Step) → IsStated x → (y : Rule) → Fails y Before r → StepFailure x y
  step_failure x e rule.Closed h = absurd (false≢true (sym (no_stop s.version (goods_at s) (s.number + 2) m r x e) ∙ h.0))
  step_failure x e rule.Order h = absurd (none-some _ (sym h ∙ next_is x e))
  step_failure x e rule.Exchange h = absurd (let at = h.0 in cc)
  step_failure x e rule.Near h = by_near (of_step (λ t. IsSomeAnd (changes_in s.version r) (Any (IsNoChange (goods_at s) t.before))) x e h)
  step_failure x e rule.Sign h = by_sign (of_step (λ t. HasSign Before t.step) x e h)
  step_failure x e rule.Fixed h = by_fixed (of_step (λ t. IsFixed Before t.side t.step) x e h)
  step_failure x e rule.Above h = by_above (of_step (λ t. IsAbove Before t t.step) x e h)
  step_failure x e rule.Alive h = by_alive (of_step (λ t. IsAlive Before t.side t.step) x e h)
  step_failure x e other h = absurd h

  fails_step : (x : Step) (y : Rule) → IsStated x → Fails y Before r → ((z : Rule) → StepFailure x z → place_of z < place_of y → ⊥) → TakesOn Before r (failed (record { line = s.line; rule = y }))
  fails_step x y e h least = fails_at (λ z f. absurd (none-some z f)) (h, λ z l f. least z (step_failure x e z f) l)

  -- a change is none
  step_misstated : (x : Step) → IsStated x → IsNear → TakesOn Before r (failed (record { line = s.line; rule = rule.Near }))
  step_misstated x e near = fails_step x rule.Near e (to_step (λ t. IsSomeAnd (changes_in s.version r) (Any (IsNoChange (goods_at s) t.before))) x e near) least
    where
      least : (z : Rule) → StepFailure x z → place_of z < 11 → ⊥
      least z (by_near h) l = omega (arith, l)
      least z (by_sign h) l = omega (arith, l)
      least z (by_fixed h) l = omega (arith, l)
      least z (by_above h) l = omega (arith, l)
      least z (by_alive h) l = omega (arith, l)

  -- a step has a fault at its side
  step_at_fault : (x : Step) (why : StepFault) → IsStated x → ¬ IsNear → HasFault (trees_at s) (exact_at s) (weights_at s g) found.value side x why → TakesOn Before r (failed (record { line = s.line; rule = rule_of_fault why }))
  step_at_fault (branch b n) Fixed e near h = fails_step (branch b n) rule.Fixed e (to_step (λ t. IsFixed Before t.side t.step) (branch b n) e h) least
    where
      least : (z : Rule) → StepFailure (branch b n) z → place_of z < 13 → ⊥
      least z (by_near f) l = near f
      least z (by_sign f) l = f
      least z (by_fixed f) l = omega (arith, l)
      least z (by_above f) l = f
      least z (by_alive f) l = f
  step_at_fault (leaf n) Sign e near h = fails_step (leaf n) rule.Sign e (to_step (λ t. HasSign Before t.step) (leaf n) e h) least
    where
      least : (z : Rule) → StepFailure (leaf n) z → place_of z < 12 → ⊥
      least z (by_near f) l = near f
      least z (by_sign f) l = omega (arith, l)
      least z (by_fixed f) l = f
      least z (by_above f) l = omega (arith, l)
      least z (by_alive f) l = f
  step_at_fault (leaf n) (Above v) e near (signs, bound, high) = fails_step (leaf n) rule.Above e (to_step (λ t. IsAbove Before t t.step) (leaf n) e (v, bound, high)) least
    where
      least : (z : Rule) → StepFailure (leaf n) z → place_of z < 14 → ⊥
      least z (by_near f) l = near f
      least z (by_sign f) l = signs f
      least z (by_fixed f) l = f
      least z (by_above f) l = omega (arith, l)
      least z (by_alive f) l = f
  step_at_fault (dead b) NotDead e near h = fails_step (dead b) rule.Alive e (to_step (λ t. IsAlive Before t.side t.step) (dead b) e h) least
    where
      least : (z : Rule) → StepFailure (dead b) z → place_of z < 15 → ⊥
      least z (by_near f) l = near f
      least z (by_sign f) l = f
      least z (by_fixed f) l = f
      least z (by_above f) l = f
      least z (by_alive f) l = omega (arith, l)
  step_at_fault x other e near h = absurd h

  not_above : (n : Multipliers) → PassesAt (trees_at s) (exact_at s) (weights_at s g) found.value side (leaf n) → IsAbove s (taken (leaf n)) (leaf n) → ⊥
  not_above n (signs, inl is_dead) (v, bound, high) = apart (Reads-same goods_alone (trees_at s) (exact_at s) (weights_at s g) found.value (is_above {rest = []} signs bound high) (is_dead_leaf signs is_dead))
    where
      apart : (let o : Result (List Step) Fault = Err (above (leaf n ∷ []) v) in o) ≡ Ok [] → ⊥
      apart e = cc
  not_above n (signs, inr (w, fits, low)) (v, bound, high) = apart (Reads-same goods_alone (trees_at s) (exact_at s) (weights_at s g) found.value (is_above {rest = []} signs bound high) (closes signs fits low))
    where
      apart : (let o : Result (List Step) Fault = Err (above (leaf n ∷ []) v) in o) ≡ Ok [] → ⊥
      apart e = cc

  passes_none : (x : Step) → ¬ IsNear → PassesAt (trees_at s) (exact_at s) (weights_at s g) found.value side x → (z : Rule) → StepFailure x z → ⊥
  passes_none x near passes z (by_near h) = near h
  passes_none (branch b n) near free z (by_fixed h) = h free
  passes_none (branch b n) near free z (by_sign h) = h
  passes_none (branch b n) near free z (by_above h) = h
  passes_none (branch b n) near free z (by_alive h) = h
  passes_none (leaf n) near passes z (by_fixed h) = h
  passes_none (leaf n) near passes z (by_sign h) = passes.0 h
  passes_none (leaf n) near passes z (by_above h) = not_above n passes h
  passes_none (leaf n) near passes z (by_alive h) = h
  passes_none (dead b) near is z (by_fixed h) = h
  passes_none (dead b) near is z (by_sign h) = h
  passes_none (dead b) near is z (by_above h) = h
  passes_none (dead b) near is z (by_alive h) = h is

  closing : (x : Step) → PassesAt (trees_at s) (exact_at s) (weights_at s g) found.value side x → IsClosing Before (taken x) x
  closing (branch b n) h = tt
  closing (leaf n) h = h.1
  closing (dead b) h = tt

  step_passes : (x : Step) → IsStated x → ¬ IsNear → PassesAt (trees_at s) (exact_at s) (weights_at s g) found.value side x
      → TakesOn Before r (passing (to_line (suc s.line) (after_step Before g found (sides_after (side ∷ others) x) (multipliers_after m x))))
  step_passes x e near h =
      passes_on (λ z f. absurd (none-some z f)) (λ z f. passes_none x near h z (step_failure x e z f))
      (record { leaf = subst (λ (o : Option Step). IfSome (option_map taken o) (λ t. IsClosing Before t t.step)) (sym e) (closing x h); violation = tt; list = tt; verdict = tt })
      (next_is x e)

  no_step_fails : step_in s.version (goods_at s) m r ≡ None → TakesOn Before r (failed (record { line = s.line; rule = rule.Order }))
  no_step_fails e = fails_order Before r refl (ap (λ (o : Option Step). option_map (to_line (suc s.line)) (option_map (λ y. after_step Before g found (sides_after (side ∷ others) y) (multipliers_after m y)) o)) e)

-- ---- with the sides and the multipliers of a walk

module _ (s : State) (g : Group) (found : Stated) where
  pub record_fails : (sides : List Side) (m : Multipliers) (r : Record) (y : Rule) → 0 < length sides → length m ≡ goods_at s → FailsStep (trees_at s) (exact_at s) (weights_at s g) found.value s.version sides m r y
      → TakesOn (go_to (at_log g found sides m) s) r (failed (record { line = s.line; rule = y }))
  record_fails [] m r y some count h = absurd (omega arith)
  record_fails (side ∷ others) m r y some count (no_step e) = no_step_fails s g found side others m r (subst (λ k. step_in s.version k m r ≡ None) count e)
  record_fails (side ∷ others) m r y some count (is_misstated {x = x} e near) =
      step_misstated s g found side others m r x (subst (λ k. step_in s.version k m r ≡ Some x) count e) (subst (λ k. IsSomeAnd (changes_in s.version r) (Any (IsNoChange k m))) count near)
  record_fails (side ∷ others) m r y some count (has_fault {x = x} why e near h) =
      step_at_fault s g found side others m r x why (subst (λ k. step_in s.version k m r ≡ Some x) count e) (λ f. near (subst (λ k. IsSomeAnd (changes_in s.version r) (Any (IsNoChange k m))) (sym count) f)) h

  pub record_passes : (sides sides_then : List Side) (m m_then : Multipliers) (r : Record) → 0 < length sides → length m ≡ goods_at s → PassesStep (trees_at s) (exact_at s) (weights_at s g) found.value s.version sides m r sides_then m_then
      → TakesOn (go_to (at_log g found sides m) s) r (passing (to_line (suc s.line) (after_step (go_to (at_log g found sides m) s) g found sides_then m_then)))
  record_passes [] sides_then m m_then r some count h = absurd (omega arith)
  record_passes (side ∷ others) sides_then m m_then r some count h =
      subst (λ (n : Multipliers). TakesOn Now r (passing (to_line (suc s.line) (after_step Now g found sides_then n)))) (sym h.multipliers_are)
      (subst (λ (l : List Side). TakesOn Now r (passing (to_line (suc s.line) (after_step Now g found l (multipliers_after m h.step))))) (sym h.sides_are)
      (step_passes s g found side others m r h.step (subst (λ k. step_in s.version k m r ≡ Some h.step) count h.stated) (λ f. h.near (subst (λ k. IsSomeAnd (changes_in s.version r) (Any (IsNoChange k m))) (sym count) f)) h.passes))
    where
      Now : State
      Now = go_to (at_log g found (side ∷ others) m) s

-- a step that has a fault at its side
pub fault_fails : (ts : List Tree) (exact : List Bool) (ws : List Weights) (target : ℤ) (v : Version) (sides : List Side) (m : Multipliers) (r : Record) (x : Step) (result : Result (Unit {0}) Rule)
    → step_in v (length m) m r ≡ Some x → ¬ IsMisstating v m r → IfErr result (FailsAt ts exact ws target (first_side sides) x) → IfErr result (FailsStep ts exact ws target v sides m r)
fault_fails ts exact ws target v sides m r x (Ok u) e near h = tt
fault_fails ts exact ws target v sides m r x (Err y) e near h = subst (FailsStep ts exact ws target v sides m r) (sym h.rule_is) (has_fault h.why e near h.fault)
