-- Counts of the numbers below a bound that pass a test.
use Rattle.std.proofs.Common.{ℕ, ◌+◌, ◌≡◌, Bool, true, false, cond, [], ◌∷◌, length, refl, ap, ◌∙◌, length-append}
use Rattle.std.proofs.lemmas.List.Elements.{filter-append}
use Rattle.std.specs.List.{filter}
use Rattle.std.proofs.Math.Numerals.{add-one}
use Rattle.ice_defs.specs.Sum.{numbers_below}

-- a loop's step
pub length-filter_more : (p : ℕ → Bool) (n : ℕ) → length (filter p (numbers_below (n + 1))) ≡ length (filter p (numbers_below n)) + cond (p n) 1 0
length-filter_more p n =
    ap (λ m. length (filter p (numbers_below m))) (add-one n)
    ∙ ap length (filter-append p (numbers_below n) (n ∷ []))
    ∙ length-append (filter p (numbers_below n)) (filter p (n ∷ []))
    ∙ ap (λ m. length (filter p (numbers_below n)) + m) (by (p n))
  where
    by : (b : Bool) → length (cond b (n ∷ []) []) ≡ cond b 1 0
    by true = refl
    by false = refl
