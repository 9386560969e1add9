use Rattle.std.proofs.Common.{◌∙◌, ap, sym}
use Rattle.ice_defs.specs.Steps.{Side}
use Rattle.ice_refute.specs.Waiting.{nodes_of}
use Rattle.ice_refute.proofs.NodeCounts.{nodes_of-free}
use Rattle.ice_derived.proofs.Fitting.{amounts_are_weights}
use Rattle.ice_test_derivation.proofs.pairs.group.Goals as goal

pub begin-requires-clause-nodes : goal.begin-requires-clause-nodes
begin-requires-clause-nodes c = ap (λ (side : Side). nodes_of side) c.in_ok-start.ensures ∙ nodes_of-free c.args.market.now.trees ∙ sym c.requires.nodes

pub leaf-requires-clause-weights : goal.leaf-requires-clause-weights
leaf-requires-clause-weights c = amounts_are_weights c.args.market.now.trees c.args.market.now.values c.requires.values c.bidders-bidders.ensures.range
