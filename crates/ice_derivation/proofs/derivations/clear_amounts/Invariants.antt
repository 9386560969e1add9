use Rattle.std.proofs.Common.{◌≡◌, ◌<◌, ℕ, length, replicate, pos}
use Rattle.ice_defs.specs.Trade.{tree_of, weights_of}
use Rattle.ice_refute.specs.Waiting.{nodes_of}
use Rattle.ice_derivation.proofs.derivations.clear_amounts.Given as goal

abbrev pub invariant-loop-bidder : goal.invariant-loop-bidder
invariant-loop-bidder l = record {
  nodes : nodes_of l.amounts ≡ nodes_of l.trees;
  cleared : (b : ℕ) → b < l.bidder → weights_of l.amounts b ≡ replicate (length (tree_of l.trees b)) (pos 0);
}
