use Rattle.std.proofs.Common.{◌≡◌, ◌+◌, ◌++◌, length, map, take}
use Rattle.ice_line.specs.Writing.{bit_byte}
use Rattle.ice_line.proofs.writer.push_bits.Given as goal

abbrev pub invariant-loop-bit : goal.invariant-loop-bit
invariant-loop-bit l =
    (length l.bytes.items ≡ length l.initial.bytes.items + l.bit-index) × (l.bytes.items ≡ l.initial.bytes.items ++ map bit_byte (take l.bit-index l.bits))
