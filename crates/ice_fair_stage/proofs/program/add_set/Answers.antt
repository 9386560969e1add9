use Rattle.std.proofs.Common.{◌≡◌, ◌++◌, [], ◌∷◌, sym, subst, pos, arith, rules, to_z, of_z}
use mir.Syntax.{w128}
use Rattle.std.specs.Prelude.{All}
use Rattle.std.proofs.lemmas.Int.{ints}
use Rattle.std.proofs.lemmas.List.Elements.{All-push}
use Rattle.ice_lp.specs.Limits.{IsNumber}
use Rattle.ice_fair_stage.proofs.program.add_set.Goals as goal

pub row-requires-clause-coeffs_sized : goal.row-requires-clause-coeffs_sized
row-requires-clause-coeffs_sized c =
    let cut : to_z w128 (of_z w128 c.from.result) ≡ pos c.args.cut = omega (arith, ints, c.from.ensures, c.ranges.cut) in
    let small : IsNumber (to_z w128 (of_z w128 c.from.result)) = omega (arith, ints, cut, c.ranges.cut) in
    let items : c.deref.result.now ≡ c.in_ok-coeffs.coeffs.items ++ to_z w128 (of_z w128 c.from.result) ∷ [] = search rules in
    subst (All IsNumber) (sym items) (All-push IsNumber c.in_ok-coeffs.coeffs.items (to_z w128 (of_z w128 c.from.result)) c.in_ok-coeffs.ensures.sized small)
