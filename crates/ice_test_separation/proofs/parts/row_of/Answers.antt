use Rattle.std.proofs.Common.{◌<◌, length, arith, ap, ◌∙◌}
use Rattle.ice_refute.specs.Waiting.{nodes_of}
use Rattle.ice_refute.proofs.NodeCounts.{same_count}
use Rattle.ice_separation.proofs.Nodes.{row_size}
use Rattle.ice_test_separation.proofs.parts.row_of.Goals as goal

pub of-amounts-requires : goal.of-amounts-requires
of-amounts-requires c = omega (arith, c.requires.bidder, same_count c.amounts.result.now c.args.trees.now (ap nodes_of c.amounts.ensures ∙ c.requires.nodes))

pub get-amount-requires : goal.get-amount-requires
get-amount-requires c =
    let there : c.from.result < length c.args.trees.now = omega (arith, c.requires.bidder, c.from.ensures) in
    omega (
      arith,
      row_size c.args.trees.now c.amounts.result.now c.args.bidder c.from.result c.nodes-nodes.result c.index-trees-from.result c.of-amounts.result.now (ap nodes_of c.amounts.ensures ∙ c.requires.nodes)
          c.of-amounts.ensures.value c.from.ensures there c.index-trees-from.is c.nodes-nodes.ensures.value,
    )
