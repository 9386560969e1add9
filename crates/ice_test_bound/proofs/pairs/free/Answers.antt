use Rattle.std.proofs.Common.{ap, ◌∙◌}
use Rattle.ice_refute.specs.Waiting.{nodes_of}
use Rattle.ice_refute.proofs.NodeCounts.{nodes_of-free, same_count, fixings_of_nodes}
use Rattle.ice_test_bound.proofs.pairs.free.Goals as goal

pub returns-clause-nodes : goal.returns-clause-nodes
returns-clause-nodes c = ap nodes_of c.in_ok-marks.ensures ∙ nodes_of-free c.args.trees.now

pub returns-clause-bidders : goal.returns-clause-bidders
returns-clause-bidders c = same_count c.in_ok-marks.marks c.args.trees.now (ap nodes_of c.in_ok-marks.ensures ∙ nodes_of-free c.args.trees.now)

pub returns-clause-fixings : goal.returns-clause-fixings
returns-clause-fixings c = fixings_of_nodes c.args.trees.now c.in_ok-marks.marks (ap nodes_of c.in_ok-marks.ensures ∙ nodes_of-free c.args.trees.now)
