use Rattle.std.proofs.Common.{arith, ◌∙◌, ◌≡◌, ap, sum, ◌≤◌}
use Rattle.ice_refute.specs.Waiting.{nodes_of}
use Rattle.ice_refute.proofs.NodeCounts.{nodes_of-free}
use Rattle.ice_refute.proofs.Kept.{kept_at_start}
use Rattle.ice_refute.proofs.walk.Walk.new.Goals as goal

pub invariant_of-result : goal.invariant_of-result
invariant_of-result c =
    let same : nodes_of c.in_ok-marks.marks ≡ nodes_of c.args.trees.now = ap nodes_of c.in_ok-marks.ensures ∙ nodes_of-free c.args.trees.now in
    let few : sum (nodes_of c.in_ok-marks.marks) ≤ 2000 = omega (arith, ap sum same) in
    record {
      kept = rw c.in_ok-branches.ensures.items (kept_at_start c.in_ok-marks.marks few);
      few = few;
      room = omega (arith, c.in_ok-branches.ensures.exact);
    }

pub returns-clause-nodes : goal.returns-clause-nodes
returns-clause-nodes c = ap nodes_of c.in_ok-marks.ensures ∙ nodes_of-free c.args.trees.now
