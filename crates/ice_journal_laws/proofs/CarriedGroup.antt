-- A group, written whole: its head, its sets and its log.
use Rattle.std.proofs.Common.{◌≡◌, ◌<◌, ◌+◌, ℕ, suc, Bool, true, false, cond, [], ◌∷◌, ◌++◌, length, map, ℤ, refl, sym, ◌∙◌, ap, subst, arith}
use Rattle.std.specs.Prelude.{◌||◌, Option, Some, None, option_map}
use Rattle.std.proofs.lemmas.Bool.{false≢true, eq-eqb}
use Rattle.std.proofs.lemmas.Option.{none-some}
use Rattle.std.proofs.lemmas.List.{length-replicate}
use Rattle.ice_defs.specs.Trade.{Assignment}
use Rattle.ice_defs.specs.declared.Group.{Group}
use Rattle.ice_defs.specs.declared.Group.TheVariants.{Assign, Final, Rival, Provisional, Without}
use Rattle.ice_defs.specs.Group.{start_of}
use Rattle.ice_defs.specs.Session.{Proved}
use Rattle.ice_journal.specs.Records as line
use Rattle.ice_journal.specs.Plain.{all_zero}
use Rattle.ice_journal_laws.specs.declared.rule.Rule.{Rule}
use Rattle.ice_journal_laws.specs.declared.rule.Rule.TheVariants as rule
use Rattle.ice_journal_laws.specs.Fields.{head_value, is_spent, is_limit, is_round_stop}
use Rattle.ice_journal_laws.specs.State.{Stated, at_group, at_sets, at_log, State, trees_at, exact_at, goods_at, weights_at}
use Rattle.ice_journal_laws.specs.Next.{next, to_line, go_to, from_head, after_sets, after_log}
use Rattle.ice_journal_laws.specs.Tests.{Fails, is_valued}
use Rattle.ice_journal_laws.specs.Progress.{passing, TakesOn, passes_on}
use Rattle.ice_journal_laws.specs.Carrying.{Carries}
use Rattle.ice_journal_laws.specs.Showing.{head_of_group, step_records, group_records, stated_of, IsShown}
use Rattle.ice_journal_laws.proofs.Carried.{TakesTo, carries_join, carries_then}
use Rattle.ice_journal_laws.proofs.CarriedSets.{sets_carry}
use Rattle.ice_journal_laws.proofs.CarriedLog.{passing_log_carries}

-- the value in the head of a group
pub head_says : (g : Group) (value : ℤ) → is_valued g ≡ true → head_value g (head_of_group g value) ≡ Some value
head_says Assign value v = absurd (false≢true v)
head_says Final value v = refl
head_says Rival value v = refl
head_says Provisional value v = refl
head_says (Without b) value v = ap (λ (t : Bool). cond t (Some value) None) (eq-eqb b b refl)

no_stop : (g : Group) (value : ℤ) (k : ℕ) → (is_spent (head_of_group g value) || is_limit (head_of_group g value) || is_round_stop k (head_of_group g value)) ≡ false
no_stop Assign value k = refl
no_stop Final value k = refl
no_stop Rival value k = refl
no_stop Provisional value k = refl
no_stop (Without b) value k = refl

-- a head
head_takes_on : (s : State) (g : Group) (value : ℤ) → is_valued g ≡ true
    → TakesOn (go_to (at_group g) s) (head_of_group g value) (passing (to_line (suc s.line) (go_to (at_sets g (record { value = value; sets = [] })) s)))
head_takes_on s g value v = passes_on (λ z e. absurd (none-some z e)) quiet (record { leaf = tt; violation = tt; list = tt; verdict = tt }) is
  where
    is : next (go_to (at_group g) s) (head_of_group g value) ≡ Some (to_line (suc s.line) (go_to (at_sets g (record { value = value; sets = [] })) s))
    is = ap (λ (o : Option ℤ). option_map (to_line (suc s.line)) (from_head (go_to (at_group g) s) g (head_of_group g value) o)) (head_says g value v)

    quiet : (z : Rule) → ¬ Fails z (go_to (at_group g) s) (head_of_group g value)
    quiet rule.Closed h = false≢true (sym (no_stop g value (s.number + 2)) ∙ h.0)
    quiet rule.Order h = none-some _ (sym h ∙ is)
    quiet rule.Exchange h = absurd (let at = h.0 in cc)
    quiet other h = h

pub head_takes : (s : State) (g : Group) (value : ℤ) → is_valued g ≡ true → TakesTo (go_to (at_group g) s) (head_of_group g value) (go_to (at_sets g (record { value = value; sets = [] })) s)
head_takes s g value v n = head_takes_on (to_line n s) g value v

-- where the sets are all there, the log begins
pub begins_log : (s : State) (g : Group) (found : Stated) → is_valued g ≡ true → after_sets s g found ≡ go_to (at_log g found (start_of (trees_at s) g ∷ []) (all_zero (goods_at s))) s
begins_log s Assign found v = absurd (false≢true v)
begins_log s Final found v = refl
begins_log s Rival found v = refl
begins_log s Provisional found v = refl
begins_log s (Without b) found v = refl

-- the sets behind a head
pub all_sets_carry : (s : State) (g : Group) (p : Proved) → is_valued g ≡ true → 0 < length (trees_at s) → IsShown (trees_at s) (exact_at s) (weights_at s g) g p
    → Carries (go_to (at_sets g (record { value = p.value; sets = [] })) s) (map line.set p.sets) (go_to (at_log g (stated_of p) (start_of (trees_at s) g ∷ []) (all_zero (goods_at s))) s)
all_sets_carry s g p v some is = by p.sets refl
  where
    by : (sets : Assignment) → sets ≡ p.sets → Carries (go_to (at_sets g (record { value = p.value; sets = [] })) s) (map line.set sets) (go_to (at_log g (stated_of p) (start_of (trees_at s) g ∷ []) (all_zero (goods_at s))) s)
    by [] e = absurd (omega (arith, some, is.feasible.same_length, ap length e))
    by (x ∷ rest) e =
        subst (λ (t : State). Carries (go_to (at_sets g (record { value = p.value; sets = [] })) s) (map line.set (x ∷ rest)) t) (begins_log s g (stated_of p) v)
        (sets_carry s g p.value p.sets is.feasible (λ valued. is.value) is.left_out [] rest x e)

-- the sets and the log
pub rest_carries : (s : State) (g : Group) (p : Proved) → is_valued g ≡ true → 0 < length (trees_at s) → IsShown (trees_at s) (exact_at s) (weights_at s g) g p
    → Carries (go_to (at_sets g (record { value = p.value; sets = [] })) s) (map line.set p.sets ++ step_records s.version (all_zero (goods_at s)) p.log) (after_log s g (stated_of p))
rest_carries s g p v some is =
    carries_join (go_to (at_sets g (record { value = p.value; sets = [] })) s) (go_to (at_log g (stated_of p) (start_of (trees_at s) g ∷ []) (all_zero (goods_at s))) s) (after_log s g (stated_of p)) (map line.set p.sets) (step_records s.version (all_zero (goods_at s)) p.log)
    (all_sets_carry s g p v some is)
    (passing_log_carries s g (stated_of p) v (start_of (trees_at s) g) p.log (all_zero (goods_at s)) (length-replicate (goods_at s) _) is.counts is.passes)

pub group_carries : (s : State) (g : Group) (p : Proved) → is_valued g ≡ true → 0 < length (trees_at s) → IsShown (trees_at s) (exact_at s) (weights_at s g) g p
    → Carries (go_to (at_group g) s) (group_records s.version (goods_at s) (head_of_group g p.value) p) (after_log s g (stated_of p))
group_carries s g p v some is =
    carries_then (go_to (at_group g) s) (go_to (at_sets g (record { value = p.value; sets = [] })) s) (after_log s g (stated_of p)) (head_of_group g p.value) (map line.set p.sets ++ step_records s.version (all_zero (goods_at s)) p.log)
    (head_takes s g p.value v) (rest_carries s g p v some is)
