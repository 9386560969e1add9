-- Where each number below n has a thing, there is a list of such things.
use Rattle.std.proofs.Common.{ℕ, zero, suc, ◌<◌, ◌≡◌, List, [], ◌∷◌, length, get_or, refl, arith}

abbrev pub HasList : {X : Type 0} → (ℕ → X → Type 0) → X → ℕ → Type 0
HasList {X} Is other n = (xs : List X) × (length xs ≡ n) × ((k : ℕ) → k < n → Is k (get_or xs k other))

pub chosen : {X : Type 0} (Is : ℕ → X → Type 0) (other : X) (n : ℕ) → ((k : ℕ) → k < n → (x : X) × Is k x) → HasList Is other n
chosen Is other zero each = ([], refl, λ k h. absurd (omega arith))
chosen {X} Is other (suc n) each = by (each 0 (omega arith)) (chosen (λ k. Is (suc k)) other n (λ k h. each (suc k) (omega arith)))
  where
    by : (x : X) × Is 0 x → HasList (λ k. Is (suc k)) other n → HasList Is other (suc n)
    by (x, is) (xs, size, rest) = (x ∷ xs, omega (arith, size), at)
      where
        at : (k : ℕ) → k < suc n → Is k (get_or (x ∷ xs) k other)
        at zero h = is
        at (suc k) h = rest k (omega arith)
