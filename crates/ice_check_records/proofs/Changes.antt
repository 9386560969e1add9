-- The multipliers after changes, one change after another.
use Rattle.std.proofs.Common.{◌≡◌, ◌<◌, ◌≤◌, ◌+◌, ℕ, zero, suc, List, [], ◌∷◌, length, map, set, drop, get_or, Any, ℤ, pos, refl, sym, ◌∙◌, ap, subst, arith, add-one, drop-cons, length-set}
use Rattle.std.specs.List.{AllByRecursion}
use Rattle.std.proofs.lemmas.List.{length-map, get_or-map, get_or_default, drop_all}
use Rattle.ice_defs.specs.Bound.{Multipliers}
use Rattle.ice_bound.specs.Multipliers.{IsInRange, AreInRange}
use Rattle.ice_journal.specs.Records as records
use Rattle.ice_journal.specs.Ranges.{IsMultiplier, IsChange}
use Rattle.ice_journal.specs.Lines.{change_of}
use Rattle.ice_journal.specs.Plain.{after_changes}
use Rattle.ice_journal.specs.declared.line.Change.{Change}
use Rattle.ice_check_records.specs.Logs.{AreChangesInRange}

abbrev none : Change
none = record { good = 0; multiplier = pos 0 }

pub rest_from : (changes : List Change) (i : ℕ) → i < length changes → drop i changes ≡ get_or changes i (record { good = 0; multiplier = pos 0 }) ∷ drop (i + 1) changes
rest_from changes i l = drop-cons changes i none l ∙ ap (λ (n : ℕ). get_or changes i none ∷ drop n changes) (sym (add-one i))

-- one more change
pub changed_more : (m : Multipliers) (changes : List Change) (i : ℕ) → i < length changes
    → after_changes m (map change_of (drop i changes)) ≡ after_changes (set m (get_or changes i (record { good = 0; multiplier = pos 0 })).good (get_or changes i (record { good = 0; multiplier = pos 0 })).multiplier) (map change_of (drop (i + 1) changes))
changed_more m changes i l = ap (λ (rest : List Change). after_changes m (map change_of rest)) (rest_from changes i l)

pub none_left : (m : Multipliers) (changes : List Change) (i : ℕ) → length changes ≤ i → after_changes m (map change_of (drop i changes)) ≡ m
none_left m changes i h = ap (λ (rest : List Change). after_changes m (map change_of rest)) (drop_all i changes h)

pub range_at : (changes : List Change) (i : ℕ) → i < length changes → AreChangesInRange (drop i changes) → IsInRange (get_or changes i (record { good = 0; multiplier = pos 0 })).multiplier × AreChangesInRange (drop (i + 1) changes)
range_at changes i l h = let both = subst AreChangesInRange (rest_from changes i l) h in (both.0, both.1)

pub length-changed : (m : Multipliers) (changes : List records.Change) → length (after_changes m changes) ≡ length m
length-changed m [] = refl
length-changed m (c ∷ later) = length-changed (set m c.good c.multiplier) later ∙ length-set m c.good c.multiplier

-- the changes of a record are in range, and so are the multipliers of one
pub changes_in_range : (changes : List Change) → AllByRecursion IsChange (map change_of changes) → AreChangesInRange changes
changes_in_range [] h = tt
changes_in_range (c ∷ later) h = (record { low = h.0.1.0; high = h.0.1.1 }, changes_in_range later h.1)

pub numbers_in_range : (m : List ℤ) → AllByRecursion IsMultiplier m → AreInRange m
numbers_in_range [] h g l = absurd (omega arith)
numbers_in_range (z ∷ m) h zero l = record { low = h.0.0; high = h.0.1 }
numbers_in_range (z ∷ m) h (suc g) l = numbers_in_range m h.1 g (omega arith)

-- some change is one, and some of their records
pub any_of_records : (P : records.Change → Type 0) (changes : List Change) → Any P (map change_of changes) → Any (λ (c : Change). P (change_of c)) changes
any_of_records P changes (k, y, l, e, p) =
    let there : k < length changes = omega (arith, length-map changes change_of) in
    let x : Change = get_or changes k none in
    let same : y ≡ change_of x = sym e ∙ get_or-map change_of changes k none y there in
    (k, x, there, get_or_default changes k x none there, subst P same p)

pub any_records : (P : records.Change → Type 0) (changes : List Change) → Any (λ (c : Change). P (change_of c)) changes → Any P (map change_of changes)
any_records P changes (k, x, l, e, p) = (k, change_of x, omega (arith, length-map changes change_of), get_or-map change_of changes k x (change_of x) l ∙ ap change_of e, p)
