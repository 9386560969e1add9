use Rattle.std.proofs.Common.{◌<◌, ◌≡◌, [], length, arith, ap, ◌∙◌}
use Rattle.std.proofs.lemmas.List.{get_or_default}
use Rattle.ice_defs.specs.Trade.{tree_of, weights_of}
use Rattle.ice_refute.specs.Waiting.{nodes_of}
use Rattle.ice_refute.proofs.NodeCounts.{same_nodes}
use Rattle.ice_derived.proofs.Charging.{zero_nodes}
use Rattle.ice_separation.proofs.rounding.Rounding.amounts.Goals as goal

pub loop-package-init : goal.loop-package-init
loop-package-init c = ap nodes_of c.in_ok-amounts.ensures ∙ zero_nodes c.args.trees.now

pub put-requires-clause-node : goal.put-requires-clause-node
put-requires-clause-node c =
    let i = c.from-then-from-trees.result in
    let there : c.from-then-from-trees.result < length c.args.trees.now = omega (arith, c.if-from-trees.true, c.from.ensures, c.from-then-from-trees.ensures) in
    let tree : c.index-trees-from.result ≡ tree_of c.args.trees.now c.from-then-from-trees.result
    = c.index-trees-from.is ∙ get_or_default c.args.trees.now i c.index-trees-from.result [] there in
    omega (
      arith,
      same_nodes c.loop-package.amounts c.args.trees.now i c.loop-package.invariant,
      ap length tree,
      c.nodes-nodes.ensures.value,
      c.if-from-nodes.true,
      c.from-then-from-trees-2.ensures,
      c.from-then-from-nodes.ensures,
      ap (λ k. length (weights_of c.loop-package.amounts k)) c.from-then-from-trees.ensures,
    )
