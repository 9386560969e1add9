use Rattle.std.proofs.Common.{◌≡◌, ◌≤◌, ◌++◌, length, map}
use Rattle.std.specs.Fmt.{signed_decimal}
use Rattle.std.specs.List.{AllByRecursion}
use Rattle.ice_defs.specs.Exchange.{IsBetween}
use Rattle.ice_journal.proofs.lists.integers.Given as goal

abbrev pub invariant-loop-field : goal.invariant-loop-field
invariant-loop-field l = (l.initial.fields ≡ map signed_decimal l.numbers.items ++ l.fields) × AllByRecursion (IsBetween l.fn.least l.fn.most) l.numbers.items × (length l.numbers.items ≤ 32)

abbrev pub decreases-loop-field : goal.decreases-loop-field
decreases-loop-field l = length l.fields
