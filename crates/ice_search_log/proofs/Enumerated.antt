-- Where an assignment is feasible and meets a side, there is a best one: there are finitely many.
use Rattle.std.proofs.Common.{ℕ, zero, suc, ◌<◌, ◌≡◌, Bool, true, false, List, [], ◌∷◌, ◌++◌, length, map, ℤ, pos, ◌≤ℤ◌, refl, arith, ◌⊎◌, inl, inr}
use Rattle.std.specs.List.{AllByRecursion}
use Rattle.std.proofs.lemmas.Int.{ints, by_lt_z}
use Rattle.std.proofs.lemmas.Bool.{cases_eq, cases_Bool, both_ways}
use Rattle.ice_defs.specs.declared.Mark.{Mark}
use Rattle.ice_defs.specs.declared.Mark.TheVariants.{Free, Must, Never}
use Rattle.ice_defs.specs.Tree.{Tree}
use Rattle.ice_defs.specs.Set.{NodeSet, has, IsSatisfied}
use Rattle.ice_defs.specs.SetFault.{is_satisfied}
use Rattle.ice_defs.specs.Fixing.{Agrees, mark_of, Meets}
use Rattle.ice_defs.specs.Trade.{Assignment, tree_of, set_of, fixing_of, total_units, total_value, is_exact, IsCovered, IsFeasible, MeetsAll, IsBest}
use Rattle.ice_defs.specs.Steps.{Side}
use Rattle.ice_defs.proofs.Decided.{IsDecided, decided_below, decided_covered}
use Rattle.ice_defs.proofs.Lists.{all-first, all-last, map-all}
use Rattle.ice_tree.proofs.Satisfied.{is_satisfied-Decides}
use Rattle.ice_search_log.specs.Laws.{BestIsThere}

decided_agrees : (mark : Mark) (inside : Bool) → IsDecided (Agrees mark inside)
decided_agrees Free inside = inl tt
decided_agrees Must inside = by (cases_Bool inside)
  where
    by : (inside ≡ true) ⊎ (inside ≡ false) → IsDecided (Agrees Must inside)
    by (inl e) = inl e
    by (inr e) = inr (λ h. both_ways inside e h)
decided_agrees Never inside = by (cases_Bool inside)
  where
    by : (inside ≡ true) ⊎ (inside ≡ false) → IsDecided (Agrees Never inside)
    by (inl e) = inr (λ h. both_ways inside h e)
    by (inr e) = inl e

decided_satisfied : (t : Tree) (s : NodeSet) → IsDecided (IsSatisfied t s)
decided_satisfied t s = by (cases_Bool (is_satisfied t s))
  where
    by : (is_satisfied t s ≡ true) ⊎ (is_satisfied t s ≡ false) → IsDecided (IsSatisfied t s)
    by (inl e) = inl ((is_satisfied-Decides t s).0 e)
    by (inr e) = inr (λ is. both_ways (is_satisfied t s) e ((is_satisfied-Decides t s).1 is))

module _ (ts : List Tree) (exact : List Bool) (side : Side) where
  abbrev MayBe : Assignment → Type 0
  MayBe a = IsFeasible ts exact a × MeetsAll a side

  decided_may : (a : Assignment) → IsDecided (MayBe a)
  decided_may a =
      by (cases_eq (length a) (length ts)) (decided_below (λ b. IsSatisfied (tree_of ts b) (set_of a b)) (length ts) (λ b. decided_satisfied (tree_of ts b) (set_of a b)))
      (decided_below (λ g. IsCovered (is_exact exact g) (total_units ts a g) (pos 0)) (length exact) (λ g. decided_covered (is_exact exact g) (total_units ts a g) (pos 0)))
      (decided_below (λ b. Meets (set_of a b) (fixing_of side b)) (length a)
      (λ b. decided_below (λ n. Agrees (mark_of (fixing_of side b) n) (has (set_of a b) n)) (length (set_of a b)) (λ n. decided_agrees (mark_of (fixing_of side b) n) (has (set_of a b) n))))
    where
      by : (length a ≡ length ts) ⊎ (length a ≡ length ts → ⊥) → IsDecided ((b : ℕ) → b < length ts → IsSatisfied (tree_of ts b) (set_of a b))
          → IsDecided ((g : ℕ) → g < length exact → IsCovered (is_exact exact g) (total_units ts a g) (pos 0)) → IsDecided (MeetsAll a side) → IsDecided (MayBe a)
      by (inl size) (inl sets) (inl goods) (inl meets) = inl (record { same_length = size; satisfied = sets; balanced = goods }, meets)
      by (inr refuted) sets goods meets = inr (λ is. refuted (is.0).same_length)
      by (inl size) (inr refuted) goods meets = inr (λ is. refuted (is.0).satisfied)
      by (inl size) (inl sets) (inr refuted) meets = inr (λ is. refuted (is.0).balanced)
      by (inl size) (inl sets) (inl goods) (inr refuted) = inr (λ is. refuted is.1)

-- ---- lists of all sets and of all assignments

all_then : {X : Type 0} (P Q : X → Type 0) (xs : List X) → AllByRecursion P xs → ((x : X) → P x → Q x) → AllByRecursion Q xs
all_then P Q [] all then = tt
all_then P Q (x ∷ xs) all then = (then x all.0, all_then P Q xs all.1 then)

sets_of : ℕ → List NodeSet
sets_of zero = [] ∷ []
sets_of (suc n) = map (λ s. false ∷ s) (sets_of n) ++ map (λ s. true ∷ s) (sets_of n)

all_sets : (n : ℕ) (P : NodeSet → Type 0) → AllByRecursion P (sets_of n) → (s : NodeSet) → length s ≡ n → P s
unfolding sets_of
all_sets zero P all [] size = all.0
all_sets zero P all (x ∷ s) size = absurd (omega (arith, size))
all_sets (suc n) P all [] size = absurd (omega (arith, size))
all_sets (suc n) P all (false ∷ s) size =
    all_sets n (λ s. P (false ∷ s)) (map-all P (λ s. false ∷ s) (sets_of n) (all-first P (map (λ s. false ∷ s) (sets_of n)) (map (λ s. true ∷ s) (sets_of n)) all)) s (omega (arith, size))
all_sets (suc n) P all (true ∷ s) size =
    all_sets n (λ s. P (true ∷ s)) (map-all P (λ s. true ∷ s) (sets_of n) (all-last P (map (λ s. false ∷ s) (sets_of n)) (map (λ s. true ∷ s) (sets_of n)) all)) s (omega (arith, size))

with_each : List NodeSet → List Assignment → List Assignment
with_each [] rest = []
with_each (s ∷ sets) rest = map (λ a. s ∷ a) rest ++ with_each sets rest

all_with_each : (P : Assignment → Type 0) (sets : List NodeSet) (rest : List Assignment) → AllByRecursion P (with_each sets rest) → AllByRecursion (λ s. AllByRecursion (λ a. P (s ∷ a)) rest) sets
unfolding with_each
all_with_each P [] rest all = tt
all_with_each P (s ∷ sets) rest all =
    (map-all P (λ a. s ∷ a) rest (all-first P (map (λ a. s ∷ a) rest) (with_each sets rest) all), all_with_each P sets rest (all-last P (map (λ a. s ∷ a) rest) (with_each sets rest) all))

assignments_of : List Tree → List Assignment
assignments_of [] = [] ∷ []
assignments_of (t ∷ ts) = with_each (sets_of (length t)) (assignments_of ts)

all_assignments : (ts : List Tree) (P : Assignment → Type 0) → AllByRecursion P (assignments_of ts) → (a : Assignment) → length a ≡ length ts
    → ((b : ℕ) → b < length ts → length (set_of a b) ≡ length (tree_of ts b)) → P a
unfolding assignments_of
all_assignments [] P all [] size each = all.0
all_assignments [] P all (s ∷ a) size each = absurd (omega (arith, size))
all_assignments (t ∷ ts) P all [] size each = absurd (omega (arith, size))
all_assignments (t ∷ ts) P all (s ∷ a) size each =
    all_assignments ts (λ a. P (s ∷ a))
    (all_sets (length t) (λ s. AllByRecursion (λ a. P (s ∷ a)) (assignments_of ts)) (all_with_each P (sets_of (length t)) (assignments_of ts) all) s (each 0 (omega arith)))
    a (omega (arith, size)) (λ b h. each (suc b) (omega (arith, h)))

-- ---- the best of a list

abbrev NoneIs : {X : Type 0} → (X → Type 0) → List X → Type 0
NoneIs Is xs = AllByRecursion (λ x. Is x → ⊥) xs

abbrev HasGreatest : {X : Type 0} → (X → Type 0) → (X → ℤ) → List X → Type 0
HasGreatest {X} Is size xs = (best : X) × Is best × AllByRecursion (λ x. Is x → size x ≤ℤ size best) xs

greatest_in : {X : Type 0} (Is : X → Type 0) (size : X → ℤ) → ((x : X) → IsDecided (Is x)) → (xs : List X) → NoneIs Is xs ⊎ HasGreatest Is size xs
greatest_in Is size decided [] = inl tt
greatest_in {X} Is size decided (x ∷ xs) = by (decided x) (greatest_in Is size decided xs)
  where
    by : IsDecided (Is x) → NoneIs Is xs ⊎ HasGreatest Is size xs → NoneIs Is (x ∷ xs) ⊎ HasGreatest Is size (x ∷ xs)
    by (inr refuted) (inl none) = inl (refuted, none)
    by (inr refuted) (inr (best, is, most)) = inr (best, is, ((λ h. absurd (refuted h)), most))
    by (inl is) (inl none) = inr (x, is, ((λ h. omega (arith, ints)), all_then (λ y. Is y → ⊥) (λ y. Is y → size y ≤ℤ size x) xs none (λ y no h. absurd (no h))))
    by (inl is) (inr (best, is', most)) =
        by_lt_z (size x) (size best)
        (λ less. inr (best, is', ((λ h. omega (arith, ints, less)), most)))
        (λ le. inr (x, is, ((λ h. omega (arith, ints)), all_then (λ y. Is y → size y ≤ℤ size best) (λ y. Is y → size y ≤ℤ size x) xs most (λ y under h. let low = under h in omega (arith, ints, low, le)))))

pub best_is_there : BestIsThere
best_is_there ts exact ws start a feasible meets =
    by (greatest_in (MayBe ts exact start) (λ a. total_value a ws) (decided_may ts exact start) (assignments_of ts))
  where
    listed : (P : Assignment → Type 0) → AllByRecursion P (assignments_of ts) → (a : Assignment) → IsFeasible ts exact a → P a
    listed P all a feasible = all_assignments ts P all a feasible.same_length (λ b h. (feasible.satisfied b h).same_length)

    by : NoneIs (MayBe ts exact start) (assignments_of ts) ⊎ HasGreatest (MayBe ts exact start) (λ a. total_value a ws) (assignments_of ts) → (best : ℤ) × IsBest ts exact ws start best
    by (inl none) = absurd (listed (λ a. MayBe ts exact start a → ⊥) none a feasible (feasible, meets))
    by (inr (best, is, most)) = (
      total_value best ws,
      record {
        attained = (best, is, refl);
        bound = λ other is'. listed (λ x. MayBe ts exact start x → total_value x ws ≤ℤ total_value best ws) most other is'.0 is';
      },
    )
