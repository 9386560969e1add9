-- Numerators of prices are not below 0.
use Rattle.std.proofs.Common.{ℕ, zero, suc, ◌<◌, List, [], ◌∷◌, length, ℤ, pos, ◌≤ℤ◌, IsTrue, slice_index_or, arith}
use Rattle.std.specs.Prelude.{int_le}
use Rattle.std.specs.List.{list_all}
use Rattle.std.proofs.lemmas.Bool.{and_parts}
use Rattle.std.proofs.lemmas.Int.{ints}
use Rattle.ice_terms.specs.Terms.{is_numerator}

pub numerators-low : (nums : List ℤ) → IsTrue (list_all is_numerator nums) → (g : ℕ) → g < length nums → pos 0 ≤ℤ slice_index_or nums g (pos 0)
numerators-low [] h g l = absurd (omega arith)
numerators-low (n ∷ nums) h zero l =
    let own = (and_parts (is_numerator n) (list_all is_numerator nums) h).0 in
    let low = (and_parts (int_le (pos 0) n) _ own).0 in
    grind (arith, ints, low)
numerators-low (n ∷ nums) h (suc g) l = numerators-low nums (and_parts (is_numerator n) (list_all is_numerator nums) h).1 g (omega arith)
