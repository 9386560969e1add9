-- Numerators of prices.
use Rattle.std.proofs.Common.{◌≡◌, ◌^◌, true, List, [], ◌∷◌, ℤ, pos, IsTrue, refl, arith}
use Rattle.std.specs.List.{AllByRecursion, list_all}
use Rattle.std.specs.Prelude.{int_le}
use Rattle.std.proofs.lemmas.Bool.{and_from}
use Rattle.std.proofs.lemmas.Int.{ints}
use Rattle.ice_defs.specs.Exchange.{IsBetween}
use Rattle.ice_terms.specs.Terms.{is_numerator}

numerator : (n : ℤ) → IsBetween (pos 0) (pos (2 ^ 62)) n → is_numerator n ≡ true
numerator n h = and_from (int_le (pos 0) n) (int_le n (pos (2 ^ 62))) (grind (arith, ints, h.0)) (grind (arith, ints, h.1))

pub numerators : (nums : List ℤ) → AllByRecursion (IsBetween (pos 0) (pos (2 ^ 62))) nums → IsTrue (list_all is_numerator nums)
numerators [] h = refl
numerators (n ∷ ns) h = and_from (is_numerator n) (list_all is_numerator ns) (numerator n h.0) (numerators ns h.1)
