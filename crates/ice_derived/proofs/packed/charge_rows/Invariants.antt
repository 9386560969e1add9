use Rattle.std.proofs.Common.{◌≡◌, ◌<◌, ◌≤◌, ℕ, sum, take, ◌+◌, ◌+ℤ◌, ◌*ℤ◌}
use Rattle.std.specs.Prelude.{slice_index}
use Rattle.ice_defs.specs.Set.{weight_of}
use Rattle.ice_defs.specs.Trade.{weights_of}
use Rattle.ice_refute.specs.Waiting.{nodes_of}
use Rattle.ice_derived.proofs.packed.charge_rows.Given as goal

abbrev pub invariant-loop-bidder : goal.invariant-loop-bidder
invariant-loop-bidder l = record {
  from : l.from ≡ sum (take l.bidder l.nodes);
  nodes : nodes_of l.rows.items ≡ l.nodes;
  done : (b n : ℕ) → b < l.bidder → n < slice_index l.nodes b
      → weight_of (weights_of l.rows.items b) n ≡ weight_of (weights_of l.initial.rows.items b) n +ℤ (l.times *ℤ weight_of l.amounts (sum (take b l.nodes) + n));
  left : (b : ℕ) → l.bidder ≤ b → weights_of l.rows.items b ≡ weights_of l.initial.rows.items b;
}
