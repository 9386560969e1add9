-- Names by their numbers: they are found from either side, and a new name goes last.
use Rattle.std.proofs.Common.{◌≡◌, ℕ, ◌+◌, ◌≤◌, Bool, true, false, ◌||◌, List, [], ◌∷◌, ◌++◌, Result, Ok, Err, IfOk, IsOk, cond, map, arith, ap, ◌∙◌, sym, refl}
use Rattle.std.specs.List.{list_any}
use Rattle.std.specs.Str.{bytes_eq}
use Rattle.std.proofs.lemmas.List.{length_push, length-map, map_push}
use Rattle.std.proofs.lemmas.Slice.Eq.{bytes_eq-Decides}
use Rattle.indexmap.specs.IndexSet.{IndexSet, insert_key, spare}
use Rattle.ice_trade.specs.Parts.{IsIndex}

same_bool : (a b : Bool) → (a ≡ true → b ≡ true) → (b ≡ true → a ≡ true) → a ≡ b
same_bool true b left right = sym (left refl)
same_bool false true left right = right refl
same_bool false false left right = refl

turn : (a b : List ℕ) → bytes_eq a b ≡ bytes_eq b a
turn a b =
    same_bool (bytes_eq a b) (bytes_eq b a)
    (λ e. (bytes_eq-Decides b a).1 (sym ((bytes_eq-Decides a b).0 e)))
    (λ e. (bytes_eq-Decides a b).1 (sym ((bytes_eq-Decides b a).0 e)))

-- whether a name is one of those that these are called
pub called_so : {X : Type 0} (called : X → List ℕ) (name : List ℕ) (xs : List X) → list_any (bytes_eq name) (map called xs) ≡ list_any (λ other. bytes_eq (called other) name) xs
called_so called name [] = refl
called_so called name (x ∷ xs) = ap (λ b. b || list_any (bytes_eq name) (map called xs)) (turn name (called x)) ∙ ap (λ b. bytes_eq (called x) name || b) (called_so called name xs)

-- one more is numbered
pub numbered : {E X S : Type 0} (called : X → List ℕ) (most : ℕ) (xs : List X) (x : X) (r : Result Bool E) (old new : IndexSet (List ℕ) S) (key : List ℕ) → IsIndex most (map called xs) old → key ≡ called x
    → IsOk r → IfOk r (λ b. new.keys ≡ insert_key bytes_eq old.keys key) → spare old ≤ spare new + 1 → list_any (λ other. bytes_eq (called other) (called x)) xs ≡ false → IsIndex most (map called (xs ++ x ∷ [])) new
numbered called most xs x (Ok b) old new key is same ok inserted room fresh = (
  inserted ∙ ap (insert_key bytes_eq old.keys) same
      ∙ ap (λ there. cond there old.keys (old.keys ++ called x ∷ [])) (ap (list_any (bytes_eq (called x))) is.0 ∙ called_so called (called x) xs ∙ fresh)
      ∙ ap (λ names. names ++ called x ∷ []) is.0 ∙ sym (map_push called xs x),
  omega (arith, is.1, room, length-map xs called, length-map (xs ++ x ∷ []) called, length_push xs x),
)
numbered called most xs x (Err e) old new key is same ok inserted room fresh = absurd cc
