use Rattle.std.proofs.Common.{ℕ}
use Rattle.std.specs.Int.{IsGcd}
use Rattle.ice_journal.proofs.fractions.are_coprime.Given as goal

abbrev pub invariant-loop-low : goal.invariant-loop-low
invariant-loop-low l = (g : ℕ) → IsGcd l.high l.low g → IsGcd l.a l.b g

abbrev pub decreases-loop-low : goal.decreases-loop-low
decreases-loop-low l = l.low
