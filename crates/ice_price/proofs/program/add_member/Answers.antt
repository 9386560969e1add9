use Rattle.std.proofs.Common.{◌≡◌, ◌++◌, [], ◌∷◌, sym, subst, ℤ, pos, negsuc, ◌≤ℤ◌, arith, rules}
use Rattle.std.specs.Prelude.{All}
use Rattle.std.proofs.lemmas.Int.{ints}
use Rattle.std.proofs.lemmas.List.Elements.{All-push}
use Rattle.ice_lp.specs.Limits.{IsNumber}
use Rattle.ice_price.proofs.program.add_member.Goals as goal

small-number : (z : ℤ) → pos 0 ≤ℤ z → z ≤ℤ pos 1 → IsNumber z
small-number (pos n) low high = omega (arith, ints, high)
small-number (negsuc n) low high = absurd (omega (arith, ints, low))

pub row-requires-clause-coeffs_sized : goal.row-requires-clause-coeffs_sized
row-requires-clause-coeffs_sized c =
    let items : c.deref.result.now ≡ c.in_ok-coeffs.coeffs.items ++ c.last_factor.result ∷ [] = search rules in
    subst (All IsNumber) (sym items)
    (All-push IsNumber c.in_ok-coeffs.coeffs.items c.last_factor.result c.in_ok-coeffs.ensures.sized (small-number c.last_factor.result c.last_factor.ensures.low c.last_factor.ensures.high))
