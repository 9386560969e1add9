use Rattle.std.proofs.Common.{◌++◌, ◌∷◌, [], arith, ap, ◌∙◌, subst, refl, length-append}
use Rattle.std.proofs.lemmas.Int.{to_z-of_z}
use mir.Syntax.{w128}
use Rattle.ice_defs.specs.Derived.{with_derived}
use Rattle.ice_defs.specs.Steps.{leaf}
use Rattle.ice_refute.specs.Passing.{PassesAtBy}
use Rattle.ice_refute.specs.Waiting.{first_side}
use Rattle.ice_tolled_search.proofs.steps.close_tolled.Goals as goal

pub returns-clause-turn : goal.returns-clause-turn
returns-clause-turn c =
    let goods = c.args.stated.now.goods in
    let numbers = c.args.m.now ++ goods.tolls in
    record {
      opened = c.requires.opened;
      step = leaf numbers;
      passes = subst (λ z. PassesAtBy (with_derived goods.goods) c.args.trees.now c.args.desk.now.room c.args.weights.now z (first_side c.args.walk.now.sides) (leaf numbers))
          (to_z-of_z w128 c.args.value c.ranges.value) c.in-Ok.ensures.ok;
      worth = tt;
      counts = omega (arith, length-append c.args.m.now goods.tolls, c.requires.goods, c.len-count.ensures.tolls);
      branches = refl;
      sides = c.in-Ok.ensures.sides;
      log = c.in_ok-push.ensures.ok ∙ ap (λ m. c.args.log.now ++ leaf m ∷ []) c.in_ok-m.ensures;
    }
