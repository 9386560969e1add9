use Rattle.std.proofs.Common.{◌<◌, length, arith, sym, subst, ◌∙◌}
use Rattle.ice_derived.specs.Ranges.{AreAmounts}
use Rattle.ice_refute.proofs.NodeCounts.{same_count}
use Rattle.ice_separation.proofs.Nodes.{range_more, row_size, row_some}
use Rattle.ice_separation.proofs.derivation.has_amount.Goals as goal
use Rattle.ice_separation.proofs.derivation.has_amount.Goals.{then-has, else-has}

pub row_has_amount-here-requires : goal.row_has_amount-here-requires
row_has_amount-here-requires c =
    let there : c.loop-bidder.bidder < length c.args.trees.now = omega arith in
    row_size c.args.trees.now c.args.amounts.now c.loop-bidder.bidder c.from.result c.nodes-nodes.result c.index-trees-from.result c.of.result.now c.requires.nodes c.of.ensures.value c.from.ensures
    (omega (arith, there, c.from.ensures)) c.index-trees-from.is c.nodes-nodes.ensures.value

pub loop-bidder-preserved : goal.loop-bidder-preserved
loop-bidder-preserved c =
    let b = c.loop-bidder.bidder in
    let inside : c.loop-bidder.bidder < length c.args.trees.now = omega arith in
    let size = row_size c.args.trees.now c.args.amounts.now b c.from.result c.nodes-nodes.result c.index-trees-from.result c.of.result.now c.requires.nodes c.of.ensures.value c.from.ensures
    (omega (arith, inside, c.from.ensures)) c.index-trees-from.is c.nodes-nodes.ensures.value in
    let there : c.loop-bidder.bidder < length c.args.amounts.now = omega (arith, inside, same_count c.args.amounts.now c.args.trees.now c.requires.nodes) in
    record {
      some = elim c.if-has.branch [
        | then-has w ↦ λ t. c.loop-bidder.invariant.some w.if-has.true
        | else-has w ↦ λ t. row_some c.args.amounts.now b c.nodes-nodes.result c.of.result.now c.of.ensures.value there size (c.row_has_amount-here.ensures (sym w.has-is ∙ t))
      ];
      range = range_more c.args.amounts.now b c.loop-bidder.invariant.range (subst AreAmounts c.of.ensures.value c.of.ensures.range);
    }
