use Rattle.std.proofs.Common.{◌≡◌, length, map, take}
use Rattle.ice_journal.specs.Spelling.{bit_byte}
use Rattle.ice_statement.proofs.lines.bits_text.Given as goal

abbrev pub invariant-loop-node : goal.invariant-loop-node
invariant-loop-node l = (length l.text.items ≡ l.node) × (l.text.items ≡ map bit_byte (take l.node l.set))
