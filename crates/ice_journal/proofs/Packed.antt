-- A journal of version 1 comes back from version 2.
use Rattle.std.proofs.Common.{◌≡◌, ℕ, zero, suc, Bool, true, false, ◌&&◌, cond, List, [], ◌∷◌, ◌++◌, length, set, ℤ, refl, sym, ap, subst, ◌∙◌, arith, append_assoc, length-append}
use Rattle.std.specs.Prelude.{int_le}
use Rattle.std.proofs.lemmas.Int.{ints}
use Rattle.ice_defs.specs.Bound.{Multipliers}
use Rattle.ice_defs.specs.Steps.{branch, leaf, dead}
use Rattle.ice_journal.specs.Records.{Kind, version_1, Record}
use Rattle.ice_journal.specs.Records as line
use Rattle.ice_journal.specs.Plain.{after_changes, goods_in, all_zero, plain_records, plain, changes_from, packed_records, in_version_2, AreOfVersion1}

set_at : (front : List ℤ) (a b : ℤ) (old : List ℤ) → set (front ++ a ∷ old) (length front) b ≡ front ++ b ∷ old
set_at [] a b old = refl
set_at (f ∷ fs) a b old = ap (λ (xs : List ℤ). f ∷ xs) (set_at fs a b old)

same_int : (a b : ℤ) (t : Bool) → (int_le a b && int_le b a) ≡ t → t ≡ true → a ≡ b
same_int a b t e is = grind (arith, ints)

push : (front : List ℤ) (b : ℤ) (old : List ℤ) → (front ++ b ∷ []) ++ old ≡ front ++ b ∷ old
push front b old = append_assoc front (b ∷ []) old

next_length : (front : List ℤ) (b : ℤ) → length (front ++ b ∷ []) ≡ suc (length front)
next_length front b = omega (arith, length-append front (b ∷ []))

one_number : (t : Bool) (front : List ℤ) (a b : ℤ) (old new : List ℤ) → (int_le a b && int_le b a) ≡ t
    → ((later : List ℤ) → after_changes (front ++ b ∷ old) (changes_from (suc (length front)) old new) ≡ front ++ b ∷ new)
    → after_changes (front ++ a ∷ old) (cond t (changes_from (suc (length front)) old new) (record { good = length front; multiplier = b } ∷ changes_from (suc (length front)) old new)) ≡ front ++ b ∷ new
one_number true front a b old new e later = rw (same_int a b true e refl) (later [])
one_number false front a b old new e later =
    ap (λ (m : Multipliers). after_changes m (changes_from (suc (length front)) old new)) (set_at front a b old) ∙ later []

changed_front : (front old new : List ℤ) → length old ≡ length new → after_changes (front ++ old) (changes_from (length front) old new) ≡ front ++ new
changed_front front [] [] same = refl
changed_front front [] (b ∷ new) same = absurd (omega arith)
changed_front front (a ∷ old) [] same = absurd (omega arith)
changed_front front (a ∷ old) (b ∷ new) same =
    let later : after_changes (front ++ b ∷ old) (changes_from (suc (length front)) old new) ≡ front ++ b ∷ new = rw (push front b old, push front b new, next_length front b) at (changed_front (front ++ b ∷ []) old new (omega arith)) in
    one_number (int_le a b && int_le b a) front a b old new refl (λ _. later)

pub leaf_back : (old new : Multipliers) → length old ≡ length new → after_changes old (changes_from 0 old new) ≡ new
leaf_back old new same = changed_front [] old new same

pub zeros : (goods : ℕ) → length (all_zero goods) ≡ goods
zeros zero = refl
zeros (suc n) = ap suc (zeros n)

goods_same : (goods : ℕ) (m : Multipliers) (rs : List Record) → goods_in (packed_records goods m rs) ≡ goods_in rs
goods_same goods m [] = refl
goods_same goods m (line.good name ∷ rs) = ap suc (goods_same goods (all_zero goods) rs)
goods_same goods m (line.exact name ∷ rs) = ap suc (goods_same goods (all_zero goods) rs)
goods_same goods m (line.step (leaf new) ∷ rs) = goods_same goods new rs
goods_same goods m (line.step (branch b n) ∷ rs) = goods_same goods m rs
goods_same goods m (line.step (dead b) ∷ rs) = goods_same goods m rs
goods_same goods m (r ∷ rs) = goods_same goods (all_zero goods) rs

records_back : (goods : ℕ) (m : Multipliers) (rs : List Record) → length m ≡ goods → AreOfVersion1 goods rs → plain_records goods m (packed_records goods m rs) ≡ rs
records_back goods m [] count h = refl
records_back goods m (line.near changes ∷ rs) count h = absurd h
records_back goods m (line.step (leaf new) ∷ rs) count h =
    rw (leaf_back m new (omega (arith, count, h.0))) (ap (λ (later : List Record). line.step (leaf new) ∷ later) (records_back goods new rs h.0 h.1))
records_back goods m (line.step (branch b n) ∷ rs) count h = ap (λ (later : List Record). line.step (branch b n) ∷ later) (records_back goods m rs count h)
records_back goods m (line.step (dead b) ∷ rs) count h = ap (λ (later : List Record). line.step (dead b) ∷ later) (records_back goods m rs count h)
records_back goods m (r ∷ rs) count h = ap (λ (later : List Record). r ∷ later) (records_back goods (all_zero goods) rs (zeros goods) h)

pub plain_packed : (kind : Kind) (rs : List Record) → AreOfVersion1 (goods_in rs) rs → plain (in_version_2 (line.head version_1 kind ∷ rs)) ≡ line.head version_1 kind ∷ rs
plain_packed kind rs h =
    let goods = goods_in rs in
    let same : goods_in (packed_records (goods_in rs) (all_zero (goods_in rs)) rs) ≡ goods_in rs = goods_same (goods_in rs) (all_zero (goods_in rs)) rs in
    let P : ℕ → Type 0 = λ g. line.head version_1 kind ∷ plain_records g (all_zero g) (packed_records (goods_in rs) (all_zero (goods_in rs)) rs) ≡ line.head version_1 kind ∷ rs in
    subst P (sym same) (ap (λ (later : List Record). line.head version_1 kind ∷ later) (records_back (goods_in rs) (all_zero (goods_in rs)) rs (zeros (goods_in rs)) h))
