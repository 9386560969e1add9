-- Names that differ are found at their places.
use Rattle.std.proofs.Common.{◌≡◌, ℕ, zero, suc, ◌<◌, false, ltb, List, [], ◌∷◌, length, get_or, Some, None, refl, ◌∙◌, arith}
use Rattle.std.specs.List.{AllByRecursion, IsDistinct, position, position_or_len}
use Rattle.std.specs.Str.{bytes_eq}
use Rattle.std.proofs.lemmas.Bool.{lt-ltb, cond-true}
use Rattle.std.proofs.lemmas.Cmp.{nat_list_eq_equiv}
use Rattle.std.proofs.lemmas.List.Sums.{position_or_len_is}
use Rattle.std.proofs.lemmas.List.Quantifiers.{position-Some}
use Rattle.ice_defs.proofs.Naming.{bytes_eq-same, same-bytes_eq}

pub all_at : {X : Type 0} (P : X → Type 0) (xs : List X) (i : ℕ) (d : X) → i < length xs → AllByRecursion P xs → P (get_or xs i d)
all_at P [] i d l all = absurd (omega arith)
all_at P (x ∷ xs) zero d l all = all.0
all_at P (x ∷ xs) (suc i) d l all = all_at P xs i d (omega arith) all.1

-- a later name differs from an earlier one
differs : (names : List (List ℕ)) (k g : ℕ) → IsDistinct bytes_eq names → k < g → g < length names → bytes_eq (get_or names k []) (get_or names g []) ≡ false
unfolding IsDistinct
differs [] k g distinct before l = absurd (omega arith)
differs (x ∷ names) k zero distinct before l = absurd (omega arith)
differs (x ∷ names) zero (suc g) distinct before l = all_at (λ y. bytes_eq x y ≡ false) names g [] (omega arith) distinct.0
differs (x ∷ names) (suc k) (suc g) distinct before l = differs names k g distinct.1 (omega arith) (omega arith)

-- the place of a name
pub place_of_name : (names : List (List ℕ)) (g : ℕ) → IsDistinct bytes_eq names → g < length names → position (bytes_eq (get_or names g [])) names ≡ Some g
place_of_name names g distinct l =
    let here : position_or_len (bytes_eq (get_or names g [])) names ≡ g =
    position_or_len_is (bytes_eq (get_or names g [])) names g [] (omega arith)
    (λ k before. nat_list_eq_equiv.symm (get_or names g []) (get_or names k []) ∙ differs names k g distinct before l)
    (λ m. bytes_eq-same (get_or names g []) (get_or names g []) refl) in
    rw here (cond-true (ltb g (length names)) (Some g) None (lt-ltb g (length names) l))

-- the name at its place
pub name_at_place : (names : List (List ℕ)) (name : List ℕ) (g : ℕ) → position (bytes_eq name) names ≡ Some g → (g < length names) × (name ≡ get_or names g [])
name_at_place names name g e = let found = position-Some (bytes_eq name) names g [] e in (found.0, same-bytes_eq name (get_or names g []) found.1)
