use Rattle.std.proofs.Common.{◌≡◌, take, map, length}
use Rattle.ice_defs.specs.PricingRun.{num_over}
use Rattle.ice_turns.proofs.fractions.prices_over.Given as goal

abbrev pub invariant-loop-fraction : goal.invariant-loop-fraction
invariant-loop-fraction l = record {
  value : l.nums.items ≡ map (num_over l.den) (take l.fraction-index l.fractions);
  len : length l.nums.items ≡ l.fraction-index;
}
