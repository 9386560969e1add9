-- Objects with exactly some members.
use Rattle.std.proofs.Common.{◌≡◌, ℕ, List, [], ◌∷◌, Bool, Some, Bor, String, Global, refl, ap, length, map}
use Rattle.std.specs.Prelude.{◌&&◌, ◌==◌, is_some}
use Rattle.std.specs.List.{list_all}
use Rattle.std.proofs.Math.ListN.{length-map}
use Rattle.serde_json.specs.Data.{Data, Members, null, boolean, number, string, array, object}
use Rattle.serde_json.specs.Find.{as_object, get}
use Rattle.serde_json.specs.Events.{members_len}
use Rattle.serde_json.specs.View.{members_view}
use Rattle.serde_json.specs.declared.value.Value.{Value}
use Rattle.serde_json.proofs.Views.{members_len-members_view}
use Rattle.ice_read.specs.Values.{has_exactly}

of_object : (names : List (List ℕ)) (d : Data) (members : Members) → Some members ≡ as_object d → has_exactly names d ≡ ((members_len members == length names) && list_all (λ name. is_some (get name d)) names)
of_object names null those e = cc
of_object names (boolean b) those e = cc
of_object names (number n) those e = cc
of_object names (string s) those e = cc
of_object names (array ds) those e = cc
of_object names (object ms) those e = let same : those ≡ ms = cc in rw same

list_all-map : {A B : Type 0} (test : B → Bool) (f : A → B) (xs : List A) → list_all test (map f xs) ≡ list_all (λ x. test (f x)) xs
list_all-map test f [] = refl
list_all-map test f (x ∷ xs) = ap (λ b. test (f x) && b) (list_all-map test f xs)

-- an object with so many entries, at names as code passes them
pub counted : (names : List (Bor (List ℕ))) (d : Data) (entries : List (String Global × Value)) → Some (members_view entries) ≡ as_object d
    → has_exactly (map (λ name. name.now) names) d ≡ ((length entries == length names) && list_all (λ name. is_some (get name.now d)) names)
counted names d entries e =
    rw (of_object (map (λ name. name.now) names) d (members_view entries) e, members_len-members_view entries, length-map names (λ name. name.now), list_all-map (λ name. is_some (get name d)) (λ name. name.now) names) refl
