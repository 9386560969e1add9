-- Names that are lawful, and apart from one another.
use Rattle.std.proofs.Common.{ℕ, ◌≡◌, true, false, List, [], ◌∷◌, ◌++◌, map, sym, refl, subst}
use Rattle.std.specs.Prelude.{IsTrue}
use Rattle.std.specs.List.{AllByRecursion, IsDistinct, list_any}
use Rattle.std.specs.Str.{bytes_eq}
use Rattle.std.proofs.lemmas.Bool.{or_parts, or_from}
use Rattle.std.proofs.lemmas.List.{map-append}
use Rattle.std.proofs.lemmas.Slice.Eq.{bytes_eq-Decides}
use Rattle.ice_defs.specs.Name.{is_name}
use Rattle.ice_defs.proofs.Lists.{all_push, all_middle}

-- ---- the same name

pub bytes_eq-same : (a b : List ℕ) → a ≡ b → bytes_eq a b ≡ true
bytes_eq-same a b e = (bytes_eq-Decides a b).1 e

pub same-bytes_eq : (a b : List ℕ) → bytes_eq a b ≡ true → a ≡ b
same-bytes_eq a b e = (bytes_eq-Decides a b).0 e

-- ---- one name more

pub distinct_push : {X : Type 0} (name : X → List ℕ) (xs : List X) (x : X) → IsDistinct bytes_eq (map name xs)
    → list_any (λ other. bytes_eq (name other) (name x)) xs ≡ false → IsDistinct bytes_eq (map name xs ++ name x ∷ [])
unfolding IsDistinct
distinct_push name [] x distinct new = (tt, tt)
distinct_push name (y ∷ xs) x distinct new =
    let (here, later) = or_parts (bytes_eq (name y) (name x)) (list_any (λ other. bytes_eq (name other) (name x)) xs) new in
    (all_push (λ n. bytes_eq (name y) n ≡ false) (map name xs) (name x) distinct.0 here, distinct_push name xs x distinct.1 later)

-- lawful, and apart
abbrev pub AreNamed : {X : Type 0} → (X → List ℕ) → List X → Type 0
AreNamed name xs = AllByRecursion (λ n. IsTrue (is_name n)) (map name xs) × IsDistinct bytes_eq (map name xs)

pub named_push : {X : Type 0} (name : X → List ℕ) (xs : List X) (x : X) → AreNamed name xs → is_name (name x) ≡ true
    → list_any (λ other. bytes_eq (name other) (name x)) xs ≡ false → AreNamed name (xs ++ x ∷ [])
named_push name xs x named is new =
    subst (λ ns. AllByRecursion (λ n. IsTrue (is_name n)) ns × IsDistinct bytes_eq ns) (sym (map-append name xs (x ∷ [])))
    (all_push (λ n. IsTrue (is_name n)) (map name xs) (name x) named.0 is, distinct_push name xs x named.1 new)

-- one in the middle is none of those before it
pub new_among : {X : Type 0} (name : X → List ℕ) (xs : List X) (x : X) (ys : List X) → IsDistinct bytes_eq (map name (xs ++ x ∷ ys)) → list_any (λ other. bytes_eq (name other) (name x)) xs ≡ false
unfolding IsDistinct
new_among name [] x ys distinct = refl
new_among name (y ∷ xs) x ys distinct =
    or_from _ _ (all_middle (λ n. bytes_eq (name y) n ≡ false) name xs x ys distinct.0) (new_among name xs x ys distinct.1)
