use Rattle.std.proofs.Common.{◌≡◌, ◌≤◌, ◌++◌, length, map, decimal}
use Rattle.std.specs.List.{AllByRecursion}
use Rattle.ice_journal.proofs.lists.amounts.Given as goal

abbrev pub invariant-loop-field : goal.invariant-loop-field
invariant-loop-field l = (l.initial.fields ≡ map decimal l.own.items ++ l.fields) × AllByRecursion (λ amount. amount ≤ 1000000) l.own.items × (length l.own.items ≤ 32)

abbrev pub decreases-loop-field : goal.decreases-loop-field
decreases-loop-field l = length l.fields
