use Rattle.ice_refute.proofs.NodeCounts.{fixings_of_nodes}
use Rattle.ice_refute.proofs.Opening.{can_branch}
use Rattle.ice_refute.proofs.check.take_step.Goals as goal

pub judge-requires-clause-marks : goal.judge-requires-clause-marks
judge-requires-clause-marks c = fixings_of_nodes c.args.trees.now c.args.desk.now.marks c.requires.nodes

pub advance-requires-clause-passes : goal.advance-requires-clause-passes
advance-requires-clause-passes c =
    can_branch c.args.trees.now c.args.desk.now.room c.args.weights.now _ c.args.desk.now.marks _
    (fixings_of_nodes c.args.trees.now c.args.desk.now.marks c.requires.nodes) c.in_ok-judge.ensures.ok
