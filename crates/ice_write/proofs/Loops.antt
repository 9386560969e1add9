-- Texts that are put piece by piece, and lists element by element.
use Rattle.std.proofs.Common.{◌≡◌, ◌∙◌, refl, ap, sym, subst, ℕ, zero, suc, ◌+◌, ◌<◌, ◌≤◌, List, [], ◌∷◌, ◌++◌, length, map, drop, get_or, Result, Err, arith, add-one, drop-cons}
use Rattle.std.specs.List.{AllByRecursion, flat_map}
use Rattle.std.proofs.lemmas.List.{drop_all}
use Rattle.std.proofs.lemmas.List.Concat.{flat_map-cons, flat_map-append}
use Rattle.std.proofs.lemmas.List.Folds.{flat_map-map}
use Rattle.ice_edge.specs.declared.sink.SinkFault.{SinkFault}
use Rattle.ice_edge.specs.Puts.{Takes, FailsIn, IsPut, TakesAllBut}
use Rattle.ice_edge.proofs.Puts.{takes_join, less_left, fails_next, none_left}
pub use Rattle.ice_edge.proofs.Puts.{first_fails, then_fails, then_put}
use Rattle.ice_edge.specs.Taken.{Taken}
use Rattle.ice_journal.specs.Records.{Record}
use Rattle.ice_journal.specs.Journal.{bytes_of}
use Rattle.ice_journal.specs.Spelling.{line_of}

-- the same text in other words
pub fails_as : {old new : Taken} (text whole : List ℕ) (put : Result (Unit {0}) SinkFault) (fault : SinkFault) → put ≡ Err fault → text ≡ whole → FailsIn whole old new → IsPut text put old new
fails_as {old = old} {new = new} text whole put fault is same fails =
    subst (λ r. IsPut text r old new) (sym is) (subst (λ (t : List ℕ). FailsIn t old new) (sym same) fails)

pub takes_as : {old new : Taken} (text whole : List ℕ) → text ≡ whole → Takes whole old new → Takes text old new
takes_as {old = old} {new = new} text whole same takes = subst (λ (t : List ℕ). Takes t old new) (sym same) takes

pub put_as : (text whole : List ℕ) (put : Result (Unit {0}) SinkFault) (old new : Taken) → text ≡ whole → IsPut whole put old new → IsPut text put old new
put_as text whole put old new same is = subst (λ (t : List ℕ). IsPut t put old new) (sym same) is

module _ {X : Type 0} (f : X → List ℕ) (xs : List X) (i : ℕ) (x : X) (there : i < length xs) (is : get_or xs i x ≡ x) where
  opened : flat_map f (drop i xs) ≡ f x ++ flat_map f (drop (i + 1) xs)
  opened = rw (drop-cons xs i x there, is, add-one i) (flat_map-cons f x (drop (suc i) xs))

  module _ (piece whole : List ℕ) (same : piece ≡ f x) where
    next_left : {old mid : Taken} → TakesAllBut (flat_map f (drop i xs)) whole old mid → TakesAllBut (piece ++ flat_map f (drop (i + 1) xs)) whole old mid
    next_left {old = old} {mid = mid} left =
        subst (λ (t : List ℕ). TakesAllBut t whole old mid) (opened ∙ ap (λ (t : List ℕ). t ++ flat_map f (drop (i + 1) xs)) (sym same)) left

    -- the next one is put
    pub one_more : {old mid new : Taken} → TakesAllBut (flat_map f (drop i xs)) whole old mid → Takes piece mid new → TakesAllBut (flat_map f (drop (i + 1) xs)) whole old new
    one_more {old = old} {mid = mid} {new = new} left takes =
        less_left piece (flat_map f (drop (i + 1) xs)) whole old mid new (next_left left) takes

    -- or the sink fails in it
    pub one_fails : {old mid new : Taken} → TakesAllBut (flat_map f (drop i xs)) whole old mid → FailsIn piece mid new → FailsIn whole old new
    one_fails {old = old} {mid = mid} {new = new} left fails =
        fails_next piece (flat_map f (drop (i + 1) xs)) whole old mid new (next_left left) fails

-- all of them are put
pub all_put : {X : Type 0} {old new : Taken} (f : X → List ℕ) (xs : List X) (n : ℕ) (whole : List ℕ) → length xs ≤ n
    → TakesAllBut (flat_map f (drop n xs)) whole old new → Takes whole old new
all_put {old = old} {new = new} f xs n whole all left =
    none_left whole old new (subst (λ l. TakesAllBut (flat_map f l) whole old new) (drop_all n xs all) left)

-- the bytes of one record for each element, and of several
pub bytes_map : {X : Type 0} (r : X → Record) (xs : List X) → bytes_of (map r xs) ≡ flat_map (λ x. line_of (r x)) xs
bytes_map r xs = flat_map-map line_of r xs

pub bytes_append : (a b : List Record) → bytes_of (a ++ b) ≡ bytes_of a ++ bytes_of b
bytes_append a b = flat_map-append line_of a b

pub bytes_cons : (r : Record) (a : List Record) → bytes_of (r ∷ a) ≡ line_of r ++ bytes_of a
bytes_cons r a = flat_map-cons line_of r a

pub bytes_flat : {X : Type 0} (rs : X → List Record) (xs : List X) → bytes_of (flat_map rs xs) ≡ flat_map (λ x. bytes_of (rs x)) xs
bytes_flat rs [] = refl
bytes_flat rs (x ∷ xs) = ap bytes_of (flat_map-cons rs x xs) ∙ bytes_append (rs x) (flat_map rs xs) ∙ ap (λ (t : List ℕ). bytes_of (rs x) ++ t) (bytes_flat rs xs) ∙ sym (flat_map-cons (λ y. bytes_of (rs y)) x xs)

-- what stands at a place stands there whatever stands past the end
pub same_there : {X : Type 0} (xs : List X) (i : ℕ) (d : X) → i < length xs → get_or xs i (get_or xs i d) ≡ get_or xs i d
same_there [] i d there = absurd (omega (arith, there))
same_there (x ∷ xs) zero d there = refl
same_there (x ∷ xs) (suc i) d there = same_there xs i d (omega (arith, there))

-- what holds of each that is left holds of the next one and of those after it
pub next_all : {X : Type 0} (P : X → Type 0) (xs : List X) (i : ℕ) (d : X) → i < length xs → AllByRecursion P (drop i xs) → P (get_or xs i d) × AllByRecursion P (drop (i + 1) xs)
next_all P xs i d there all =
    let both : AllByRecursion P (get_or xs i d ∷ drop (suc i) xs) = subst (AllByRecursion P) (drop-cons xs i d there) all in
    let next : suc i ≡ i + 1 = omega arith in
    (both.0, subst (λ (n : ℕ). AllByRecursion P (drop n xs)) next both.1)

-- ---- two pieces

pub takes_both : {old mid new : Taken} (piece rest : List ℕ) → Takes piece old mid → Takes rest mid new → Takes (piece ++ rest) old new
takes_both {old = old} {mid = mid} {new = new} piece rest a b = takes_join piece rest old mid new a b

-- ---- the next piece of a text that is spelled in other words

pub next_fails : {old mid new : Taken} (piece rest text whole : List ℕ) → text ≡ piece ++ rest → TakesAllBut text whole old mid → FailsIn piece mid new → FailsIn whole old new
next_fails {old = old} {mid = mid} {new = new} piece rest text whole is left fails =
    fails_next piece rest whole old mid new (subst (λ (t : List ℕ). TakesAllBut t whole old mid) is left) fails

pub next_taken : {old mid new : Taken} (piece rest text whole : List ℕ) → text ≡ piece ++ rest → TakesAllBut text whole old mid → Takes piece mid new → TakesAllBut rest whole old new
next_taken {old = old} {mid = mid} {new = new} piece rest text whole is left takes =
    less_left piece rest whole old mid new (subst (λ (t : List ℕ). TakesAllBut t whole old mid) is left) takes
