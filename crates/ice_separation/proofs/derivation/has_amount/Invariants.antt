use Rattle.std.proofs.Common.{ℕ, ◌<◌}
use Rattle.std.specs.Prelude.{IsTrue}
use Rattle.ice_defs.specs.Trade.{weights_of}
use Rattle.ice_derived.specs.Ranges.{AreAmounts}
use Rattle.ice_separation.specs.Derivations.{HasAmount}
use Rattle.ice_separation.proofs.derivation.has_amount.Given as goal

abbrev pub invariant-loop-bidder : goal.invariant-loop-bidder
invariant-loop-bidder l = record {
  some : IsTrue l.has → HasAmount l.amounts;
  range : (b : ℕ) → b < l.bidder → AreAmounts (weights_of l.amounts b);
}
