use Rattle.std.proofs.Common.{◌≡◌, ◌<◌, ℕ, length}
use Rattle.ice_defs.specs.Trade.{fixing_of}
use Rattle.ice_bound.proofs.copy.copy_fixings.Given as goal

abbrev pub invariant-loop-bidder : goal.invariant-loop-bidder
invariant-loop-bidder l = record {
  bidders : length l.from ≡ length l.marks;
  nodes : (b : ℕ) → b < length l.from → length (fixing_of l.from b) ≡ length (fixing_of l.marks b);
  copied : (b : ℕ) → b < l.bidder → fixing_of l.marks b ≡ fixing_of l.from b;
}
