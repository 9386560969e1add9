-- The least good of which a tree may sell more than is owned.
use Rattle.std.proofs.Common.{ℕ, zero, suc, ◌+◌, ◌<◌, ◌≤◌, ◌≡◌, Bool, true, false, cond, List, [], ◌∷◌, pos, ◌≤ℤ◌, ◌<ℤ◌, Some, None, arith, ap, sym, ◌∙◌, ◌⊎◌, inl, inr}
use Rattle.std.specs.Prelude.{int_lt, slice_index, find}
use Rattle.std.specs.Option.{option_or}
use Rattle.std.proofs.lemmas.Int.{ints}
use Rattle.std.proofs.lemmas.Bool.{cases_lt}
use Rattle.std.proofs.lemmas.List.Folds.{find-append}
use Rattle.std.proofs.Math.Numerals.{add-one}
use Rattle.ice_defs.specs.Sum.{numbers_below}
use Rattle.ice_defs.specs.Tree.{Tree}
use Rattle.ice_defs.specs.Sale.{greatest_sale}
use Rattle.ice_defs.specs.Making.{over_sale}

find_more : (p : ℕ → Bool) (n : ℕ) → find p (numbers_below n) ≡ None → find p (numbers_below (suc n)) ≡ cond (p n) (Some n) None
find_more p n none = find-append p (numbers_below n) (n ∷ []) ∙ ap (λ o. option_or o (find p (n ∷ []))) none

find_first : (p : ℕ → Bool) (n g : ℕ) → g < n → find p (numbers_below g) ≡ None → p g ≡ true → find p (numbers_below n) ≡ Some g
find_first p zero g l none e = absurd (omega arith)
find_first p (suc n) g l none e = by (cases_lt g n) (λ m. find_first p n g m none e)
  where
    by : (g < n) ⊎ (n ≤ g) → (g < n → find p (numbers_below n) ≡ Some g) → find p (numbers_below (suc n)) ≡ Some g
    by (inl m) before = find-append p (numbers_below n) (n ∷ []) ∙ ap (λ o. option_or o (find p (n ∷ []))) (before m)
    by (inr m) before =
        let same : g ≡ n = omega arith in
        ap (λ k. find p (numbers_below (suc k))) (sym same) ∙ find_more p g none ∙ ap (λ b. cond b (Some g) None) e

module _ (t : Tree) (own : List ℕ) where
  -- a good of which no more may be sold
  pub over_sale-more : (g : ℕ) → over_sale g t own ≡ None → greatest_sale t g ≤ℤ pos (slice_index own g) → over_sale (g + 1) t own ≡ None
  over_sale-more g none below =
      let under : int_lt (pos (slice_index own g)) (greatest_sale t g) ≡ false = grind (arith, ints) in
      ap (λ n. over_sale n t own) (add-one g)
      ∙ find_more (λ k. int_lt (pos (slice_index own k)) (greatest_sale t k)) g none
      ∙ ap (λ b. cond b (Some g) None) under

  -- and the least one of which more may be sold
  pub over_sale-first : (n g : ℕ) → g < n → over_sale g t own ≡ None → pos (slice_index own g) <ℤ greatest_sale t g → over_sale n t own ≡ Some g
  over_sale-first n g there none above =
      let over : int_lt (pos (slice_index own g)) (greatest_sale t g) ≡ true = grind (arith, ints) in
      find_first (λ k. int_lt (pos (slice_index own k)) (greatest_sale t k)) n g there none over

pub ruleset sales = (over_sale-more, over_sale-first)
