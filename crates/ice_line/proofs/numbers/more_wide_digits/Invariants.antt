use Rattle.std.proofs.Common.{◌≡◌, ◌^◌, ◌<◌, ◌++◌, drop, decimal}
use Rattle.ice_line.proofs.numbers.more_wide_digits.Given as goal

abbrev pub invariant-loop-byte : goal.invariant-loop-byte
invariant-loop-byte l = (decimal l.value ++ drop l.byte-index l.rest ≡ decimal l.first ++ l.rest) × (0 < l.value) × (l.value < 2 ^ 128)
