-- The record of a step says that step, and changes nothing that is so already.
use Rattle.std.proofs.Common.{◌≡◌, ℕ, zero, suc, Bool, true, false, cond, List, [], ◌∷◌, ◌++◌, length, map, Any, ℤ, pos, refl, sym, ◌∙◌, ap, subst, arith, ◌⊎◌, inl, inr, length-append, append_assoc}
use Rattle.std.specs.Prelude.{◌&&◌, int_le, Some, None}
use Rattle.std.proofs.lemmas.Bool.{eq-eqb}
use Rattle.std.proofs.lemmas.Int.{ints}
use Rattle.std.proofs.Math.Seq.{get_or-append_seam}
use Rattle.ice_defs.specs.Bound.{Multipliers}
use Rattle.ice_defs.specs.Steps.{Step, branch, leaf, dead}
use Rattle.ice_refute.specs.Code.{CountsGoods}
use Rattle.ice_journal.specs.Records.{Version, version_1, version_2, Change}
use Rattle.ice_journal.specs.Records as line
use Rattle.ice_journal.specs.Plain.{changes_from}
use Rattle.ice_journal.proofs.Packed.{leaf_back}
use Rattle.ice_journal_laws.specs.Fields.{step_in, multipliers_after}
use Rattle.ice_journal_laws.specs.Tests.{IsNoChange}
use Rattle.ice_journal_laws.specs.Stepping.{IsMisstating}
use Rattle.ice_journal_laws.specs.Showing.{step_record, step_records}

-- in version 1 the steps stand as they are
pub steps_plain : (m : Multipliers) (log : List Step) → step_records version_1 m log ≡ map line.step log
steps_plain m [] = refl
steps_plain m (x ∷ log) = ap (λ rs. line.step x ∷ rs) (steps_plain (multipliers_after m x) log)

pub stated_as : (v : Version) (m : Multipliers) (x : Step) → CountsGoods (length m) x → step_in v (length m) m (step_record v m x) ≡ Some x
stated_as version_1 m (branch b n) h = refl
stated_as version_1 m (leaf new) h = ap (λ (b : Bool). cond b (Some (leaf new)) None) (eq-eqb (length new) (length m) h)
stated_as version_1 m (dead b) h = refl
stated_as version_2 m (branch b n) h = refl
stated_as version_2 m (leaf new) h = ap (λ (k : Multipliers). Some (leaf k)) (leaf_back m new (sym h))
stated_as version_2 m (dead b) h = refl

-- ---- changes

any_first : (P : Change → Type 0) (c : Change) (cs : List Change) → Any P (c ∷ cs) → P c ⊎ Any P cs
any_first P c cs (zero, x, l, e, p) = inl (subst P (sym e) p)
any_first P c cs (suc k, x, l, e, p) = inr (k, x, omega (arith, l), e, p)

any_none : (P : Change → Type 0) → Any P [] → ⊥
any_none P (k, x, l, e, p) = omega (arith, l)

differ : (a b : ℤ) (t : Bool) → (int_le a b && int_le b a) ≡ t → t ≡ false → a ≡ b → ⊥
differ a b t e is same = grind (arith, ints)

abbrev IsNone : Multipliers → List Change → Type 0
IsNone m changes = Any (IsNoChange (length m) m) changes

front_changes : (front old new : List ℤ) → length old ≡ length new → IsNone (front ++ old) (changes_from (length front) old new) → ⊥
front_changes front [] [] same h = any_none _ h
front_changes front [] (b ∷ new) same h = absurd (omega (arith, same))
front_changes front (a ∷ old) [] same h = absurd (omega (arith, same))
front_changes front (a ∷ old) (b ∷ new) same h =
    by (int_le a b && int_le b a) refl h
    (λ f. front_changes (front ++ a ∷ []) old new (omega (arith, same))
    (subst (λ (m : Multipliers). IsNone m (changes_from (length (front ++ a ∷ [])) old new)) (sym (append_assoc front (a ∷ []) old))
    (subst (λ (k : ℕ). IsNone (front ++ a ∷ old) (changes_from k old new)) (omega (arith, length-append front (a ∷ []))) f)))
  where
    here : (int_le a b && int_le b a) ≡ false → IsNoChange (length (front ++ a ∷ old)) (front ++ a ∷ old) (record { good = length front; multiplier = b }) → ⊥
    here e (inl past) = omega (arith, past, length-append front (a ∷ old))
    here e (inr is) = differ a b (int_le a b && int_le b a) refl e (sym (get_or-append_seam front a old (pos 0)) ∙ is)

    by : (t : Bool) → (int_le a b && int_le b a) ≡ t → IsNone (front ++ a ∷ old) (cond t (changes_from (suc (length front)) old new) (record { good = length front; multiplier = b } ∷ changes_from (suc (length front)) old new))
        → (IsNone (front ++ a ∷ old) (changes_from (suc (length front)) old new) → ⊥) → ⊥
    by true e f later = later f
    by false e f later = either (any_first _ _ _ f)
      where
        either : IsNoChange (length (front ++ a ∷ old)) (front ++ a ∷ old) (record { good = length front; multiplier = b }) ⊎ IsNone (front ++ a ∷ old) (changes_from (suc (length front)) old new) → ⊥
        either (inl p) = here e p
        either (inr q) = later q

pub not_misstating : (v : Version) (m : Multipliers) (x : Step) → CountsGoods (length m) x → ¬ IsMisstating v m (step_record v m x)
not_misstating version_1 m x h f = f
not_misstating version_2 m (branch b n) h f = f
not_misstating version_2 m (leaf new) h f = front_changes [] m new (sym h) f
not_misstating version_2 m (dead b) h f = f
