-- Marks and branches that are kept: how many free nodes
-- there are after a mark, and which sides wait.
use Rattle.std.proofs.Common.{ℕ, zero, suc, ◌+◌, ◌<◌, ◌≤◌, ◌≡◌, ◌≢◌, Bool, true, false, cond, List, [], ◌∷◌, ◌++◌, length, reverse, get_or, set, sum, refl, arith, ap, sym, ◌∙◌, subst, ◌⊎◌, inl, inr, get_or-set_same, get_or-set_other, length-append}
use Rattle.std.proofs.lemmas.Bool.{cases_lt}
use Rattle.std.proofs.lemmas.List.{length-set, set-set, set-get_or, get_or_push, get_or_append_left, reverse-append, length-reverse}
use Rattle.std.proofs.lemmas.List.Sums.{sum_by-set, sum_by-cons}
use Rattle.ice_defs.specs.declared.Mark.{Mark}
use Rattle.ice_defs.specs.declared.Mark.TheVariants.{Free, Must, Never}
use Rattle.ice_defs.specs.Sum.{count_below}
use Rattle.ice_defs.specs.Fixing.{Fixing, mark_of}
use Rattle.ice_defs.specs.Trade.{fixing_of}
use Rattle.ice_defs.specs.Steps.{Side, with_mark}
use Rattle.ice_defs.proofs.Sums.{count_below-same, count_below-le}
use Rattle.ice_bound.proofs.Fixings.{length-with_mark, nodes-with_mark}
use Rattle.ice_refute.specs.Waiting.{also_waits, waiting_sides, open_sides, nodes_of, is_free, free_nodes, free_count, IsPlace, AreKept}

-- ---- free nodes

abbrev pub number : Bool → ℕ
number b = cond b 1 0

-- counts by two tests that differ at one number alone
count_change : (p q : ℕ → Bool) (n m : ℕ) → n < m → ((k : ℕ) → k ≢ n → p k ≡ q k) → count_below p m + number (q n) ≡ count_below q m + number (p n)
count_change p q n zero h other = absurd (omega (arith, h))
count_change p q n (suc m) h other = by (cases_lt n m) (λ l. count_change p q n m l other)
  where
    by : (n < m) ⊎ (m ≤ n) → (n < m → count_below p m + number (q n) ≡ count_below q m + number (p n)) → count_below p (suc m) + number (q n) ≡ count_below q (suc m) + number (p n)
    by (inl l) before = omega (arith, before l, ap number (other m (λ e. omega (arith, l, e))))
    by (inr l) before =
        let e : m ≡ n = omega (arith, h, l) in
        omega (arith, count_below-same p q m (λ k i. other k (λ f. omega (arith, i, f, l))), ap (λ k. number (p k)) e, ap (λ k. number (q k)) e)

free_nodes-set : (x : Fixing) (n : ℕ) (m : Mark) → n < length x → free_nodes (set x n m) + number (is_free (mark_of x n)) ≡ free_nodes x + number (is_free m)
free_nodes-set x n m h =
    let size = ap (count_below (λ k. is_free (mark_of (set x n m) k))) (length-set x n m) in
    let changed = count_change (λ k. is_free (mark_of (set x n m) k)) (λ k. is_free (mark_of x k)) n (length x) h (λ k ne. ap is_free (get_or-set_other x n k m Free ne)) in
    omega (arith, size, changed, ap (λ y. number (is_free y)) (get_or-set_same x n m Free h))

-- one more mark
pub free_count-with_mark : (side : Side) (b n : ℕ) (m : Mark) → b < length side → n < length (fixing_of side b)
    → free_count (with_mark side b n m) + number (is_free (mark_of (fixing_of side b) n)) ≡ free_count side + number (is_free m)
free_count-with_mark side b n m h l =
    omega (arith, sum_by-set free_nodes side b (set (fixing_of side b) n m) [] h, free_nodes-set (fixing_of side b) n m l)

free_nodes-le : (x : Fixing) → free_nodes x ≤ length x
free_nodes-le x = count_below-le (λ n. is_free (mark_of x n)) (length x)

pub free_count-le : (side : Side) → free_count side ≤ sum (nodes_of side)
free_count-le [] = omega arith
free_count-le (x ∷ side) =
    omega (arith, sum_by-cons free_nodes x side, sum_by-cons (λ n. n) (length x) (nodes_of side), free_nodes-le x, free_count-le side)

-- ---- the number of nodes stays

pub nodes_of-set : (side : Side) (b : ℕ) (x : Fixing) → length x ≡ length (fixing_of side b) → nodes_of (set side b x) ≡ nodes_of side
nodes_of-set [] b x e = refl
nodes_of-set (y ∷ side) zero x e = ap (λ k. k ∷ nodes_of side) e
nodes_of-set (y ∷ side) (suc b) x e = ap (λ r. length y ∷ r) (nodes_of-set side b x e)

pub nodes_of-with_mark : (side : Side) (b n : ℕ) (m : Mark) → nodes_of (with_mark side b n m) ≡ nodes_of side
nodes_of-with_mark side b n m = nodes_of-set side b (set (fixing_of side b) n m) (length-set (fixing_of side b) n m)

-- ---- marks over marks

-- a mark that is put again replaces the first
pub with_mark-with_mark : (side : Side) (b n : ℕ) (x y : Mark) → b < length side → with_mark (with_mark side b n x) b n y ≡ with_mark side b n y
with_mark-with_mark side b n x y l =
    set-set side b (set (fixing_of side b) n x) _
    ∙ ap (λ f. set side b (set f n y)) (get_or-set_same side b (set (fixing_of side b) n x) [] l)
    ∙ ap (λ f. set side b f) (set-set (fixing_of side b) n x y)

-- a free node's mark put back
pub with_mark-back : (side : Side) (b n : ℕ) (x : Mark) → b < length side → mark_of (fixing_of side b) n ≡ Free → with_mark (with_mark side b n x) b n Free ≡ side
with_mark-back side b n x l free =
    with_mark-with_mark side b n x Free l
    ∙ ap (λ m. set side b (set (fixing_of side b) n m)) (sym free)
    ∙ ap (λ f. set side b f) (set-get_or (fixing_of side b) n Free)
    ∙ set-get_or side b []

pub mark_of-with_mark : (side : Side) (b n : ℕ) (x : Mark) → b < length side → n < length (fixing_of side b) → mark_of (fixing_of (with_mark side b n x) b) n ≡ x
mark_of-with_mark side b n x l h =
    ap (λ f. mark_of f n) (get_or-set_same side b (set (fixing_of side b) n x) [] l) ∙ get_or-set_same (fixing_of side b) n x Free h

-- ---- places

IsPlace-with_mark : (side : Side) (b n : ℕ) (m : Mark) (place : ℕ × ℕ) → IsPlace side place → IsPlace (with_mark side b n m) place
IsPlace-with_mark side b n m place there = (
  omega (arith, there.0, length-with_mark side b n m),
  omega (arith, there.1, nodes-with_mark side b n place.0 m),
)

places_push : (marks : Side) (branches : List (ℕ × ℕ)) (place : ℕ × ℕ) → ((k : ℕ) → k < length branches → IsPlace marks (get_or branches k (0, 0))) → IsPlace marks place
    → (k : ℕ) → k < length (branches ++ place ∷ []) → IsPlace marks (get_or (branches ++ place ∷ []) k (0, 0))
places_push marks branches place before here k h = by (cases_lt k (length branches))
  where
    by : (k < length branches) ⊎ (length branches ≤ k) → IsPlace marks (get_or (branches ++ place ∷ []) k (0, 0))
    by (inl l) = subst (IsPlace marks) (sym (get_or_append_left branches (place ∷ []) (0, 0) k l)) (before k l)
    by (inr l) =
        let e : length branches ≡ k = omega (arith, h, l, length-append branches (place ∷ [])) in
        subst (IsPlace marks) (sym (get_or_push branches place (0, 0) k e)) here

-- no branch yet
pub kept_at_start : (marks : Side) → sum (nodes_of marks) ≤ 2000 → AreKept marks []
kept_at_start marks few = record { places = λ k h. absurd (omega (arith, h)); room = omega (arith, few, free_count-le marks) }

-- a branch at a free node
pub kept_more : (marks : Side) (branches : List (ℕ × ℕ)) (b n : ℕ) → b < length marks → n < length (fixing_of marks b) → mark_of (fixing_of marks b) n ≡ Free → AreKept marks branches
    → AreKept (with_mark marks b n Must) (branches ++ (b, n) ∷ [])
kept_more marks branches b n l h free kept = record {
  places = places_push (with_mark marks b n Must) branches (b, n) (λ k i. IsPlace-with_mark marks b n Must (get_or branches k (0, 0)) (kept.places k i)) (IsPlace-with_mark marks b n Must (b, n) (l, h));
  room = omega (arith, kept.room, length-append branches ((b, n) ∷ []), free_count-with_mark marks b n Must l h, ap (λ y. number (is_free y)) free);
}

-- there is room for it
pub kept_room : (marks : Side) (branches : List (ℕ × ℕ)) (b n : ℕ) → b < length marks → n < length (fixing_of marks b) → mark_of (fixing_of marks b) n ≡ Free → AreKept marks branches
    → length branches < 2000
kept_room marks branches b n l h free kept =
    omega (arith, kept.room, free_count-with_mark marks b n Must l h, ap (λ y. number (is_free y)) free)

-- the last branch is at a place
pub kept_last : (marks : Side) (branches : List (ℕ × ℕ)) (place : ℕ × ℕ) → AreKept marks (branches ++ place ∷ []) → IsPlace marks place
kept_last marks branches place kept =
    subst (IsPlace marks) (get_or_push branches place (0, 0) (length branches) refl) (kept.places (length branches) (omega (arith, length-append branches (place ∷ []))))

places_before : (marks : Side) (branches : List (ℕ × ℕ)) (place : ℕ × ℕ) → AreKept marks (branches ++ place ∷ []) → (k : ℕ) → k < length branches → IsPlace marks (get_or branches k (0, 0))
places_before marks branches place kept k h =
    subst (IsPlace marks) (get_or_append_left branches (place ∷ []) (0, 0) k h) (kept.places k (omega (arith, h, length-append branches (place ∷ []))))

-- the last branch is left
pub kept_less : (marks : Side) (branches : List (ℕ × ℕ)) (place : ℕ × ℕ) → AreKept marks (branches ++ place ∷ []) → AreKept (with_mark marks place.0 place.1 Free) branches
kept_less marks branches place kept =
    let there = kept_last marks branches place kept in
    record {
      places = λ k h. IsPlace-with_mark marks place.0 place.1 Free (get_or branches k (0, 0)) (places_before marks branches place kept k h);
      room = omega (arith, kept.room, length-append branches (place ∷ []), free_count-with_mark marks place.0 place.1 Free there.0 there.1);
    }

-- the last branch turns to its second side
pub kept_turned : (marks : Side) (branches : List (ℕ × ℕ)) (place : ℕ × ℕ) → mark_of (fixing_of marks place.0) place.1 ≡ Must → AreKept marks (branches ++ place ∷ [])
    → AreKept (with_mark marks place.0 place.1 Never) (branches ++ place ∷ [])
kept_turned marks branches place must kept =
    let there = kept_last marks branches place kept in
    record {
      places = λ k h. IsPlace-with_mark marks place.0 place.1 Never (get_or (branches ++ place ∷ []) k (0, 0)) (kept.places k h);
      room = omega (arith, kept.room, free_count-with_mark marks place.0 place.1 Never there.0 there.1, ap (λ y. number (is_free y)) must);
    }

-- ---- the sides that wait

reverse_push : (branches : List (ℕ × ℕ)) (place : ℕ × ℕ) → reverse (branches ++ place ∷ []) ≡ place ∷ reverse branches
reverse_push branches place = reverse-append branches (place ∷ [])

-- a branch: the second side waits
pub waiting_more : (marks : Side) (branches : List (ℕ × ℕ)) (b n : ℕ) → b < length marks → n < length (fixing_of marks b) → mark_of (fixing_of marks b) n ≡ Free
    → waiting_sides (with_mark marks b n Must) (reverse (branches ++ (b, n) ∷ [])) ≡ with_mark marks b n Never ∷ waiting_sides marks (reverse branches)
waiting_more marks branches b n l h free =
    ap (waiting_sides (with_mark marks b n Must)) (reverse_push branches (b, n))
    ∙ ap (λ y. also_waits y (with_mark (with_mark marks b n Must) b n Never) (waiting_sides (with_mark (with_mark marks b n Must) b n Free) (reverse branches))) (mark_of-with_mark marks b n Must l h)
    ∙ ap (λ y. y ∷ waiting_sides (with_mark (with_mark marks b n Must) b n Free) (reverse branches)) (with_mark-with_mark marks b n Must Never l)
    ∙ ap (λ y. with_mark marks b n Never ∷ waiting_sides y (reverse branches)) (with_mark-back marks b n Must l free)

-- the last branch is at its first side: its second one is next
pub waiting_turned : (marks : Side) (branches : List (ℕ × ℕ)) (place : ℕ × ℕ) → IsPlace marks place → mark_of (fixing_of marks place.0) place.1 ≡ Must
    → waiting_sides marks (reverse (branches ++ place ∷ [])) ≡ with_mark marks place.0 place.1 Never ∷ waiting_sides (with_mark marks place.0 place.1 Never) (reverse (branches ++ place ∷ []))
waiting_turned marks branches place there must =
    let never = with_mark marks place.0 place.1 Never in
    let outer = waiting_sides (with_mark marks place.0 place.1 Free) (reverse branches) in
    ap (waiting_sides marks) (reverse_push branches place)
    ∙ ap (λ y. also_waits y never outer) must
    ∙ sym (ap (λ r. never ∷ waiting_sides never r) (reverse_push branches place)
    ∙ ap (λ y. never ∷ also_waits y (with_mark never place.0 place.1 Never) (waiting_sides (with_mark never place.0 place.1 Free) (reverse branches)))
    (mark_of-with_mark marks place.0 place.1 Never there.0 there.1)
    ∙ ap (λ y. never ∷ waiting_sides y (reverse branches)) (with_mark-with_mark marks place.0 place.1 Never Free there.0))

-- the last branch has no side left
also_waits-other : (mark : Mark) (second : Side) (sides : List Side) → mark ≢ Must → also_waits mark second sides ≡ sides
also_waits-other Must second sides ne = absurd (ne refl)
also_waits-other Never second sides ne = refl
also_waits-other Free second sides ne = refl

pub waiting_less : (marks : Side) (branches : List (ℕ × ℕ)) (place : ℕ × ℕ) → mark_of (fixing_of marks place.0) place.1 ≢ Must
    → waiting_sides marks (reverse (branches ++ place ∷ [])) ≡ waiting_sides (with_mark marks place.0 place.1 Free) (reverse branches)
waiting_less marks branches place ne = ap (waiting_sides marks) (reverse_push branches place) ∙ also_waits-other (mark_of (fixing_of marks place.0) place.1) _ _ ne

-- at most one side waits for each branch
length-also_waits : (mark : Mark) (second : Side) (sides : List Side) → length (also_waits mark second sides) ≤ suc (length sides)
length-also_waits Must second sides = omega arith
length-also_waits Never second sides = omega arith
length-also_waits Free second sides = omega arith

length-waiting : (marks : Side) (branches : List (ℕ × ℕ)) → length (waiting_sides marks branches) ≤ length branches
length-waiting marks [] = omega arith
length-waiting marks (place ∷ outer) =
    let rest = waiting_sides (with_mark marks place.0 place.1 Free) outer in
    omega (arith, length-also_waits (mark_of (fixing_of marks place.0) place.1) (with_mark marks place.0 place.1 Never) rest, length-waiting (with_mark marks place.0 place.1 Free) outer)

-- so few sides are open
pub few_sides : (is_open : Bool) (marks : Side) (branches : List (ℕ × ℕ)) → AreKept marks branches → length (open_sides is_open marks branches) ≤ 2001
few_sides true marks branches kept = omega (arith, kept.room, length-waiting marks (reverse branches), length-reverse branches)
few_sides false marks branches kept = omega arith
