use Rattle.std.proofs.Common.{◌≡◌, ◌*◌, ◌<◌, ℕ, cond, pos}
use Rattle.ice_defs.specs.Sum.{sum_below}
use Rattle.ice_defs.specs.Set.{has, leaf_units, weight_of}
use Rattle.ice_defs.specs.Tree.{kind_of}
use Rattle.ice_tree.specs.Units.{AreWithin}
use Rattle.ice_tree.proofs.tree.Tree.units.Given as goal

abbrev pub invariant-loop-node : goal.invariant-loop-node
invariant-loop-node l = record {
  sums_are : (g : ℕ) → g < 32 → weight_of l.sums g ≡ sum_below (λ k. cond (has l.set k) (leaf_units (kind_of l.self k) g) (pos 0)) l.node;
  within : AreWithin (l.node * 1000) l.sums;
}
