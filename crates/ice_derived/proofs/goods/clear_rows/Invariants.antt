use Rattle.std.proofs.Common.{◌≡◌, ◌<◌, ℕ, pos}
use Rattle.std.specs.Prelude.{slice_index}
use Rattle.ice_defs.specs.Set.{weight_of}
use Rattle.ice_defs.specs.Trade.{weights_of}
use Rattle.ice_refute.specs.Waiting.{nodes_of}
use Rattle.ice_derived.proofs.goods.clear_rows.Given as goal

abbrev pub invariant-loop-bidder : goal.invariant-loop-bidder
invariant-loop-bidder l = record {
  nodes : nodes_of l.rows.items ≡ l.packed.nodes;
  done : (b n : ℕ) → b < l.bidder → n < slice_index l.packed.nodes b → weight_of (weights_of l.rows.items b) n ≡ pos 0;
}
