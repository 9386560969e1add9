use Rattle.std.proofs.Common.{◌<◌, length, arith, ap, ◌∙◌}
use Rattle.ice_refute.specs.Waiting.{nodes_of}
use Rattle.ice_separation.proofs.Nodes.{row_size}
use Rattle.ice_tolled_search.proofs.guide.taken_of.Goals as goal

pub take_row-requires-clause-nodes : goal.take_row-requires-clause-nodes
take_row-requires-clause-nodes c =
    let there : c.from.result < length c.args.trees.now = omega (arith, c.from.ensures) in
    row_size c.args.trees.now c.amounts-amounts.result.now c.loop-bidder.bidder c.from.result c.nodes-nodes.result c.index-trees-from.result c.of.result.now
    (ap nodes_of c.amounts-amounts.ensures ∙ c.requires.nodes) c.of.ensures.value c.from.ensures there c.index-trees-from.is c.nodes-nodes.ensures.value
