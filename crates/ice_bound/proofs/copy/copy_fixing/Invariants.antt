use Rattle.std.proofs.Common.{◌≡◌, ◌<◌, ℕ, length}
use Rattle.ice_defs.specs.Fixing.{mark_of}
use Rattle.ice_defs.specs.Trade.{fixing_of}
use Rattle.ice_bound.proofs.copy.copy_fixing.Given as goal

abbrev pub invariant-loop-node : goal.invariant-loop-node
invariant-loop-node l = record {
  bidders : length l.marks ≡ length l.initial.marks;
  nodes : length (fixing_of l.marks l.bidder) ≡ length l.from;
  copied : (n : ℕ) → n < l.node → mark_of (fixing_of l.marks l.bidder) n ≡ mark_of l.from n;
  others : (b : ℕ) → (b ≡ l.bidder → ⊥) → fixing_of l.marks b ≡ fixing_of l.initial.marks b;
}
