use Rattle.std.proofs.Common.{◌≡◌, ◌+◌, ◌*◌, ◌^◌, length, pos, neg_ℤ, ◌≤ℤ◌}
use Rattle.std.specs.Prelude.{vec_len}
use Rattle.ice_bound.specs.Beside.{AreTablesBeside}
use Rattle.ice_bound.proofs.Reaching.{AreGreatestThenSets}
use Rattle.ice_bound.proofs.beside.Beside.reaches.Given as goal

abbrev pub invariant-loop-bidder : goal.invariant-loop-bidder
invariant-loop-bidder l = record {
  partial : AreGreatestThenSets l.self.trees l.self.weights l.self.moved l.self.marks l.self.sets l.bidder l.bound;
  low : neg_ℤ (pos (8040 * 2 ^ 90 + l.bidder * (401 * 2 ^ 90))) ≤ℤ l.bound;
  high : l.bound ≤ℤ pos (8040 * 2 ^ 90 + l.bidder * (401 * 2 ^ 90));
  there : vec_len l.tables ≡ length l.self.trees;
  tables : AreTablesBeside l.self l.tables.items;
}
