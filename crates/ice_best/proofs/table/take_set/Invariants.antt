use Rattle.std.proofs.Common.{◌≡◌, ◌<◌, ◌&&◌, ◌≤◌, ℕ, length, false}
use Rattle.ice_defs.specs.Set.{has}
use Rattle.ice_defs.specs.Tree.{parent_of}
use Rattle.ice_best.proofs.table.take_set.Given as goal

abbrev pub invariant-loop-node : goal.invariant-loop-node
invariant-loop-node l = record {
  same_length : length l.out ≡ length l.tree;
  root_is : has l.out 0 ≡ l.root;
  child_is : (c : ℕ) → 0 < c → c < l.node → has l.out c ≡ (has l.out (parent_of l.tree c) && has l.taken c);
  waiting : (c : ℕ) → 0 < c → l.node ≤ c → has l.out c ≡ false;
}
