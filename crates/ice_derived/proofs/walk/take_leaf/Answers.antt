use Rattle.std.proofs.Common.{◌∙◌}
use Rattle.std.proofs.lemmas.Int.{to_z-of_z}
use mir.Syntax.{w128}
use Rattle.ice_refute.proofs.NodeCounts.{fixings_of_nodes}
use Rattle.ice_derived.proofs.walk.take_leaf.Goals as goal

pub judge_leaf-requires-clause-marks : goal.judge_leaf-requires-clause-marks
judge_leaf-requires-clause-marks c = fixings_of_nodes c.args.trees.now c.side-marks.result.now (c.side-marks.ensures.nodes ∙ c.requires.nodes)

pub returns-clause-ok : goal.returns-clause-ok
returns-clause-ok c = rw (← c.side-marks.ensures.side, ← to_z-of_z w128 c.args.target c.ranges.target) c.in_ok-judge_leaf.ensures.ok

pub returns-clause-sides : goal.returns-clause-sides
returns-clause-sides c = c.leave.ensures.sides _
