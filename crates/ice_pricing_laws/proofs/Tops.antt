-- The greatest price.
use Rattle.std.proofs.Common.{ℕ, ◌<◌, Bool, true, false, cond, List, [], ◌∷◌, length, fold, ℤ, pos}
use Rattle.std.specs.Int.{int_max}
use Rattle.std.specs.Prelude.{int_lt}
use Rattle.std.specs.List.{AllByRecursion}
use Rattle.ice_defs.specs.Prices.{Prices, price_of}
use Rattle.ice_defs.specs.Pricing.{top_of}
use Rattle.ice_defs.proofs.Lists.{all-from}

pub max-keeps : (P : ℤ → Type 0) (a b : ℤ) → P a → P b → P (int_max a b)
max-keeps P a b pa pb = by (int_lt b a)
  where
    by : (c : Bool) → P (cond c a b)
    by true = pa
    by false = pb

pub fold-keeps : (P : ℤ → Type 0) (zs : List ℤ) (a : ℤ) → P a → AllByRecursion P zs → P (fold int_max a zs)
fold-keeps P [] a pa are = pa
fold-keeps P (z ∷ zs) a pa (is, are) = fold-keeps P zs (int_max a z) (max-keeps P a z pa is) are

-- what holds of 0 and of each price holds of the greatest
pub top-keeps : (P : ℤ → Type 0) (q : Prices) → P (pos 0) → ((g : ℕ) → g < length q.nums → P (price_of q g)) → P (top_of q)
top-keeps P q none each = fold-keeps P q.nums (pos 0) none (all-from P q.nums (pos 0) each)
