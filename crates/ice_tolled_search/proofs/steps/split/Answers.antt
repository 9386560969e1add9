use Rattle.std.proofs.Common.{◌∙◌, arith, subst, refl, ◌<ℤ◌}
use Rattle.std.proofs.lemmas.Int.{ints}
use Rattle.ice_defs.specs.Steps.{branch}
use Rattle.ice_refute.proofs.NodeCounts.{fixings_of_nodes}
use Rattle.ice_tolled_search.specs.Pass.{IsWorth}
use Rattle.ice_tolled_search.proofs.steps.split.Goals as goal

pub is_free_node-requires : goal.is_free_node-requires
is_free_node-requires c = fixings_of_nodes c.args.trees.now c.side-side.result.now (c.side-side.ensures.nodes ∙ c.requires.nodes)

pub sweep-requires-clause-side : goal.sweep-requires-clause-side
sweep-requires-clause-side c = fixings_of_nodes c.args.trees.now c.side-side.result.now (c.side-side.ensures.nodes ∙ c.requires.nodes)

pub is_live_with-requires-clause-side : goal.is_live_with-requires-clause-side
is_live_with-requires-clause-side c = fixings_of_nodes c.args.trees.now c.side-side.result.now (c.side-side.ensures.nodes ∙ c.requires.nodes)

pub is_live_with-requires-2-clause-side : goal.is_live_with-requires-2-clause-side
is_live_with-requires-2-clause-side c = fixings_of_nodes c.args.trees.now c.side-side.result.now (c.side-side.ensures.nodes ∙ c.requires.nodes)

pub returns-clause-turn : goal.returns-clause-turn
returns-clause-turn c =
    let swept = c.in-Some.swept in
    let above : c.args.value <ℤ swept.bound = omega (arith, ints, c.if-swept-value.false) in
    record {
      opened = c.requires.opened;
      step = branch c.args.node.bidder c.args.node.node;
      passes = c.in-Ok.ensures.ok;
      worth = subst (λ s. IsWorth c.args.stated.now.goods.goods c.args.trees.now c.args.desk.now.room c.args.weights.now c.args.value s c.args.node.bidder c.args.node.node) c.side-side.ensures.side record {
        must = c.is_live_with.ensures.live c.if-not-is_live_with.false;
        never = c.is_live_with-2.ensures.live c.if-not-is_live_with-2.false;
        bound = (swept.bound, (swept.m, c.in-Some.ensures.sweeps, c.in-Some.ensures.bound), above);
      };
      counts = tt;
      branches = refl;
      sides = c.in-Ok.ensures.sides;
      log = c.in_ok-push.ensures.ok;
    }
