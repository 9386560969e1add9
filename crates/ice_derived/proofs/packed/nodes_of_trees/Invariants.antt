use Rattle.std.proofs.Common.{◌≡◌, take}
use Rattle.ice_refute.specs.Waiting.{nodes_of}
use Rattle.ice_derived.proofs.packed.nodes_of_trees.Given as goal

abbrev pub invariant-loop-tree : goal.invariant-loop-tree
invariant-loop-tree l = l.nodes.items ≡ nodes_of (take l.tree-index l.trees)
