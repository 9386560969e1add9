use Rattle.std.proofs.Common.{◌≡◌, ◌≤◌, reverse, vec_len}
use Rattle.std.specs.Prelude.{vec_capacity}
use Rattle.ice_refute.specs.Waiting.{waiting_sides, nodes_of, AreKept}
use Rattle.ice_refute.proofs.sides.leave.Given as goal

abbrev pub invariant-loop-bidder : goal.invariant-loop-bidder
invariant-loop-bidder l = record {
  waits : waiting_sides l.marks (reverse l.branches.items) ≡ waiting_sides l.initial.marks (reverse l.initial.branches.items);
  kept : AreKept l.marks l.branches.items;
  nodes : nodes_of l.marks ≡ nodes_of l.initial.marks;
  room : 2000 ≤ vec_capacity l.branches;
}

abbrev pub decreases-loop-bidder : goal.decreases-loop-bidder
decreases-loop-bidder l = vec_len l.branches
