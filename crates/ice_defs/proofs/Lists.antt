-- Lists: facts of each of their items.
use Rattle.std.proofs.Common.{ℕ, zero, suc, ◌<◌, ◌≡◌, List, [], ◌∷◌, ◌++◌, map, length, Some, None, refl, arith}
use Rattle.std.specs.Prelude.{slice_index_or}
use Rattle.std.specs.List.{AllByRecursion}
use Rattle.ice_defs.specs.SetFault.{first_in}

-- ---- each item

-- one item more
pub all_push : {X : Type 0} (P : X → Type 0) (xs : List X) (x : X) → AllByRecursion P xs → P x → AllByRecursion P (xs ++ x ∷ [])
all_push P [] x all is = (is, tt)
all_push P (y ∷ xs) x all is = (all.0, all_push P xs x all.1 is)

-- two lists
pub all-append : {X : Type 0} (P : X → Type 0) (xs ys : List X) → AllByRecursion P xs → AllByRecursion P ys → AllByRecursion P (xs ++ ys)
all-append P [] ys are others = others
all-append P (x ∷ xs) ys (is, are) others = (is, all-append P xs ys are others)

-- the first part
pub all-first : {X : Type 0} (P : X → Type 0) (xs ys : List X) → AllByRecursion P (xs ++ ys) → AllByRecursion P xs
all-first P [] ys are = tt
all-first P (x ∷ xs) ys (is, are) = (is, all-first P xs ys are)

-- the last part
pub all-last : {X : Type 0} (P : X → Type 0) (xs ys : List X) → AllByRecursion P (xs ++ ys) → AllByRecursion P ys
all-last P [] ys are = are
all-last P (x ∷ xs) ys (is, are) = all-last P xs ys are

-- what is said of a map
pub map-all : {X Y : Type 0} (P : Y → Type 0) (f : X → Y) (xs : List X) → AllByRecursion P (map f xs) → AllByRecursion (λ x. P (f x)) xs
map-all P f [] are = tt
map-all P f (x ∷ xs) (is, are) = (is, map-all P f xs are)

-- from what is at each place
pub all-from : {X : Type 0} (P : X → Type 0) (xs : List X) (d : X) → ((i : ℕ) → i < length xs → P (slice_index_or xs i d)) → AllByRecursion P xs
all-from P [] d h = tt
all-from P (x ∷ xs) d h = (h zero (omega arith), all-from P xs d (λ i l. h (suc i) (omega arith)))

-- what is said of each name, of one in the middle
pub all_middle : {X Y : Type 0} (P : Y → Type 0) (f : X → Y) (xs : List X) (x : X) (ys : List X) → AllByRecursion P (map f (xs ++ x ∷ ys)) → P (f x)
all_middle P f [] x ys all = all.0
all_middle P f (y ∷ xs) x ys all = all_middle P f xs x ys all.1

-- ---- the first item, and empty lists

pub first_in-none : {X : Type 0} (xs : List X) → first_in xs ≡ None → xs ≡ []
first_in-none [] e = refl
first_in-none (x ∷ xs) e = cc

pub first_in-some : {X : Type 0} (xs ys : List X) (r : X) → first_in xs ≡ Some r → first_in (xs ++ ys) ≡ Some r
first_in-some [] ys r e = absurd cc
first_in-some (x ∷ xs) ys r e = e

pub append_empty : {X : Type 0} (xs ys : List X) → xs ++ ys ≡ [] → (xs ≡ []) × (ys ≡ [])
append_empty [] ys e = (refl, e)
append_empty (x ∷ xs) ys e = absurd cc
