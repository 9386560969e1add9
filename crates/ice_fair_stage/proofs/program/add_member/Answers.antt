use Rattle.std.proofs.Common.{◌≡◌, ◌++◌, [], ◌∷◌, sym, subst, ◌^◌, pos, arith, rules, to_z, of_z}
use mir.Syntax.{w128}
use Rattle.std.specs.Prelude.{All}
use Rattle.std.proofs.lemmas.Int.{ints}
use Rattle.std.proofs.lemmas.List.Elements.{All-push}
use Rattle.ice_lp.specs.Limits.{IsNumber}
use Rattle.ice_fair_stage.proofs.Sets.{number-within}
use Rattle.ice_fair_stage.proofs.program.add_member.Goals as goal

pub row-requires-clause-coeffs_sized : goal.row-requires-clause-coeffs_sized
row-requires-clause-coeffs_sized c =
    let none : IsNumber (pos 0) = omega arith in
    let items : c.deref.result.now ≡ c.in_ok-coeffs.coeffs.items ++ pos 0 ∷ [] = search rules in
    subst (All IsNumber) (sym items) (All-push IsNumber c.in_ok-coeffs.coeffs.items (pos 0) c.in_ok-coeffs.ensures.sized none)

pub row-requires-clause-least_sized : goal.row-requires-clause-least_sized
row-requires-clause-least_sized c = number-within (2 ^ 82) (to_z w128 (of_z w128 c.least_above.result)) (omega arith) (omega (arith, ints, c.least_above.ensures.low, c.least_above.ensures.high)) (omega (arith, ints, c.least_above.ensures.low, c.least_above.ensures.high))
