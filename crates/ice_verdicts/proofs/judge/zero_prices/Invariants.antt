use Rattle.std.proofs.Common.{◌≡◌, replicate, pos}
use Rattle.ice_verdicts.proofs.judge.zero_prices.Given as goal

abbrev pub invariant-loop-good : goal.invariant-loop-good
invariant-loop-good l = l.nums.items ≡ replicate l._good (pos 0)
