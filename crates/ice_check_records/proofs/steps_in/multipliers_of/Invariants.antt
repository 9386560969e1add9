use Rattle.std.proofs.Common.{◌≡◌, ◌<◌, ℕ, length, get_or, pos}
use Rattle.ice_check_records.proofs.steps_in.multipliers_of.Given as goal

abbrev pub invariant-loop-good : goal.invariant-loop-good
invariant-loop-good l = record {
  count : length l.m ≡ length l.numbers;
  same : (k : ℕ) → k < l.good → get_or l.m k (pos 0) ≡ get_or l.numbers k (pos 0);
}
