use Rattle.std.proofs.Common.{◌≡◌, ◌<◌, ℕ, length, pos}
use Rattle.ice_defs.specs.Set.{weight_of}
use Rattle.ice_derived.proofs.goods.clear_row.Given as goal

abbrev pub invariant-loop-node : goal.invariant-loop-node
invariant-loop-node l = record {
  nodes : length l.row ≡ l.nodes;
  done : (n : ℕ) → n < l.node → weight_of l.row n ≡ pos 0;
}
