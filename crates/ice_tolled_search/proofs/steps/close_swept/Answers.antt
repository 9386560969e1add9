use Rattle.std.proofs.Common.{◌++◌, ◌∷◌, [], arith, ap, ◌∙◌, subst, refl, ◌≤ℤ◌}
use Rattle.std.proofs.lemmas.Int.{ints}
use Rattle.ice_bound.specs.Laws.{in_4096ths}
use Rattle.ice_defs.specs.Derived.{with_derived}
use Rattle.ice_defs.specs.Steps.{leaf}
use Rattle.ice_refute.specs.Passing.{PassesAtBy}
use Rattle.ice_refute.proofs.NodeCounts.{fixings_of_nodes}
use Rattle.ice_tolled_search.proofs.Swept.{swept_passes}
use Rattle.ice_tolled_search.proofs.steps.close_swept.Goals as goal

pub sweep-requires-clause-side : goal.sweep-requires-clause-side
sweep-requires-clause-side c = fixings_of_nodes c.args.trees.now c.side.result.now (c.side.ensures.nodes ∙ c.requires.nodes)

pub returns-clause-turn : goal.returns-clause-turn
returns-clause-turn c =
    let goods = c.args.stated.now.goods.goods in
    let swept = c.in-Some.swept in
    let low : swept.bound ≤ℤ c.args.value = omega (arith, ints, c.if-swept-value.false) in
    let passes = swept_passes goods c.args.trees.now c.args.desk.now.room c.args.weights.now c.args.value c.side.result.now swept.m swept.bound c.in-Some.ensures.sweeps c.in-Some.ensures.bound low in
    record {
      opened = c.requires.opened;
      step = leaf (in_4096ths swept.m);
      passes = subst (λ s. PassesAtBy (with_derived goods) c.args.trees.now c.args.desk.now.room c.args.weights.now c.args.value s (leaf (in_4096ths swept.m))) c.side.ensures.side passes.0;
      worth = tt;
      counts = passes.1;
      branches = refl;
      sides = c.leave.ensures.sides (in_4096ths swept.m);
      log = c.in_ok-push.ensures.ok ∙ ap (λ m. c.args.log.now ++ leaf m ∷ []) c.in_ok-m.ensures;
    }
