-- Numbers after changes, one change after another, and the numbers of a leaf.
use Rattle.std.proofs.Common.{◌≡◌, ◌<◌, ◌≤◌, ◌+◌, ℕ, List, [], ◌∷◌, length, set, drop, get_or, ℤ, pos, refl, sym, ◌∙◌, ap, subst, add-one, drop-cons, length-set}
use Rattle.std.proofs.lemmas.List.{drop_all}
use Rattle.ice_derived.specs.Ranges.{IsToll, IsAmount}
use Rattle.ice_journal.specs.declared.line.Numbered.{Numbered}
use Rattle.ice_derivation.specs.Numbers.{changed, AreTolls, AreAmounts}

abbrev none : Numbered
none = record { number = 0; amount = pos 0 }

rest_from : (changes : List Numbered) (i : ℕ) → i < length changes
    → drop i changes ≡ get_or changes i (record { number = 0; amount = pos 0 }) ∷ drop (i + 1) changes
rest_from changes i l = drop-cons changes i none l ∙ ap (λ (n : ℕ). get_or changes i none ∷ drop n changes) (sym (add-one i))

-- one more change
pub changed_more : (m : List ℤ) (changes : List Numbered) (i : ℕ) → i < length changes
    → changed m (drop i changes)
    ≡ changed (set m (get_or changes i (record { number = 0; amount = pos 0 })).number (get_or changes i (record { number = 0; amount = pos 0 })).amount) (drop (i + 1) changes)
changed_more m changes i l = ap (changed m) (rest_from changes i l)

pub none_left : (m : List ℤ) (changes : List Numbered) (i : ℕ) → length changes ≤ i → changed m (drop i changes) ≡ m
none_left m changes i h = ap (changed m) (drop_all i changes h)

pub toll_at : (changes : List Numbered) (i : ℕ) → i < length changes → AreTolls (drop i changes)
    → IsToll (get_or changes i (record { number = 0; amount = pos 0 })).amount × AreTolls (drop (i + 1) changes)
toll_at changes i l h = let both = subst AreTolls (rest_from changes i l) h in (both.0, both.1)

pub amount_at : (numbers : List Numbered) (i : ℕ) → i < length numbers → AreAmounts (drop i numbers)
    → IsAmount (get_or numbers i (record { number = 0; amount = pos 0 })).amount × AreAmounts (drop (i + 1) numbers)
amount_at numbers i l h = let both = subst AreAmounts (rest_from numbers i l) h in (both.0, both.1)

pub length-changed : (m : List ℤ) (changes : List Numbered) → length (changed m changes) ≡ length m
length-changed m [] = refl
length-changed m (c ∷ later) = length-changed (set m c.number c.amount) later ∙ length-set m c.number c.amount
