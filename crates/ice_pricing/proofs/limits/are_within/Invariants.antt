use Rattle.std.proofs.Common.{ℕ, ◌<◌, pos, ◌≤ℤ◌, slice_index_or}
use Rattle.ice_pricing.proofs.limits.are_within.Given as goal

abbrev pub invariant-loop-num : goal.invariant-loop-num
invariant-loop-num l = (g : ℕ) → g < l.num-index → slice_index_or l.num-items g (pos 0) ≤ℤ l.most
