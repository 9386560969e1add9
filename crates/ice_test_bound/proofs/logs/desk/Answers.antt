use Rattle.std.proofs.Common.{ap, ◌∙◌}
use Rattle.ice_refute.specs.Waiting.{nodes_of}
use Rattle.ice_refute.proofs.NodeCounts.{nodes_of-free}
use Rattle.ice_test_bound.proofs.logs.desk.Goals as goal

pub returns-clause-marks : goal.returns-clause-marks
returns-clause-marks c = ap nodes_of c.in_ok-desk.ensures.marks ∙ nodes_of-free c.args.trees.now
