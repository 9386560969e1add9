use Rattle.std.proofs.Common.{◌≡◌, ◌+◌, ◌*◌, ◌≤◌, length, drop}
use Rattle.ice_line.specs.Writing.{with_fields}
use Rattle.ice_replay.specs.Lines.{pairs}
use Rattle.ice_replay.proofs.lines.write_nodes.Given as goal

abbrev pub invariant-loop-node : goal.invariant-loop-node
invariant-loop-node l = record {
  fields : with_fields l.to (pairs (drop l.node l.bounds.lo) (drop l.node l.bounds.hi)) ≡ with_fields l.initial.to (pairs l.bounds.lo l.bounds.hi);
  len : length l.to ≤ 100 + 24 * l.node;
}
