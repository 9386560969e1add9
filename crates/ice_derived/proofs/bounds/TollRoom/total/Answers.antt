use Rattle.std.proofs.Common.{arith, rules, ap, sym, ◌≡◌, ◌<◌, ◌∙◌, length, get_or, [], ◌+ℤ◌, to_z}
use Rattle.std.proofs.lemmas.Int.{ints, to_z-of_z}
use Rattle.std.proofs.lemmas.List.{get_or_default}
use mir.Syntax.{w128}
use mir.Val.{SFits}
use Rattle.ice_bound.proofs.Totals.{total_fits}
use Rattle.ice_derived.proofs.Totals.{no_bidder, one_bidder_more, greatest_at, first_dead, all_bidders}
use Rattle.ice_defs.specs.Trade.{tree_of}
use Rattle.ice_derived.proofs.Rows.{node_count}
use Rattle.ice_derived.specs.Weighing.{weights_in}
use Rattle.ice_derived.proofs.bounds.TollRoom.total.Goals as goal

pub loop-bidder-init : goal.loop-bidder-init
loop-bidder-init c = record {
  sum = no_bidder c.args.derived.now.goods c.args.derived.now.tolls c.args.trees.now (weights_in c.args.weights.now) c.args.m.now c.args.fixings.now;
  low = omega (arith, ints);
  high = omega (arith, ints);
}

pub returns-in-None-clause-dead : goal.returns-in-None-clause-dead
returns-in-None-clause-dead c =
    let there : c.loop-bidder.bidder < length c.args.trees.now = omega arith in
    first_dead c.args.derived.now.goods c.args.derived.now.tolls c.args.trees.now (weights_in c.args.weights.now) c.args.m.now c.args.fixings.now c.loop-bidder.bidder (to_z w128 c.loop-bidder.total-bits)
    c.index-trees-bidder.result c.of-fixing.result.now there (c.index-trees-bidder.is ∙ get_or_default c.args.trees.now c.loop-bidder.bidder c.index-trees-bidder.result [] there)
    c.of-fixing.ensures c.loop-bidder.invariant.sum c.in-None.ensures.none

pub loop-bidder-preserved : goal.loop-bidder-preserved
loop-bidder-preserved c =
    let there : c.loop-bidder.bidder < length c.args.trees.now = omega arith in
    let tree : c.index-trees-bidder.result ≡ tree_of c.args.trees.now c.loop-bidder.bidder = c.index-trees-bidder.is ∙ get_or_default c.args.trees.now c.loop-bidder.bidder c.index-trees-bidder.result [] there in
    let size : length c.charges-charges.result.now ≡ length c.index-trees-bidder.result
    = c.charges-charges.ensures.nodes ∙ ap (λ ns. get_or ns c.loop-bidder.bidder 0) c.requires.derived ∙ node_count c.args.trees.now c.loop-bidder.bidder ∙ sym (ap length tree) in
    let net_fits : SFits w128 c.in-Some.net = search rules in
    let low = c.in-Some.ensures.low in
    let high = c.in-Some.ensures.high in
    let fits : SFits w128 (to_z w128 c.loop-bidder.total-bits +ℤ c.in-Some.net) = total_fits _ (omega (arith, ints, low, high)) (omega (arith, ints, low, high)) in
    rw (to_z-of_z w128 c.in-Some.net net_fits, to_z-of_z w128 (to_z w128 c.loop-bidder.total-bits +ℤ c.in-Some.net) fits) (record {
      sum = one_bidder_more c.args.derived.now.goods c.args.derived.now.tolls c.args.trees.now (weights_in c.args.weights.now) c.args.m.now c.args.fixings.now c.loop-bidder.bidder _ c.in-Some.net
          c.loop-bidder.invariant.sum
          (greatest_at c.args.derived.now.goods c.args.derived.now.tolls c.args.trees.now (weights_in c.args.weights.now) c.args.m.now c.args.fixings.now c.loop-bidder.bidder c.index-trees-bidder.result
          c.of-weight.result.now c.charges-charges.result.now c.of-fixing.result.now c.in-Some.net
          (c.index-trees-bidder.is ∙ get_or_default c.args.trees.now c.loop-bidder.bidder c.index-trees-bidder.result [] there)
          c.of-weight.ensures c.of-fixing.ensures (λ n h. c.charges-charges.ensures.each n (omega (arith, size, h))) c.in-Some.ensures.greatest);
      low = omega (arith, ints, low, high);
      high = omega (arith, ints, low, high);
    })

pub returns-clause-sum : goal.returns-clause-sum
returns-clause-sum c =
    let all : c.loop-bidder.bidder ≡ length c.args.trees.now = omega arith in
    all_bidders c.args.derived.now.goods c.args.derived.now.tolls c.args.trees.now (weights_in c.args.weights.now) c.args.m.now c.args.fixings.now c.loop-bidder.bidder (to_z w128 c.loop-bidder.total-bits) all
    c.loop-bidder.invariant.sum
