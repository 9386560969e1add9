use Rattle.std.proofs.Common.{ap, ◌∙◌}
use Rattle.ice_refute.specs.Waiting.{nodes_of}
use Rattle.ice_refute.proofs.NodeCounts.{nodes_of-free}
use Rattle.ice_test_bound.proofs.logs.free.Goals as goal

pub returns : goal.returns
returns c = ap nodes_of c.in_ok-marks.ensures ∙ nodes_of-free c.args.trees.now
