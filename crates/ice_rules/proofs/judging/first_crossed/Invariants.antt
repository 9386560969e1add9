use Rattle.std.proofs.Common.{◌<◌, ℕ}
use Rattle.ice_defs.specs.Judging.{IsCrossedAt}
use Rattle.ice_rules.proofs.judging.first_crossed.Given as goal

abbrev pub invariant-loop-node : goal.invariant-loop-node
invariant-loop-node l = (n : ℕ) → n < l.node → ¬ IsCrossedAt (record { lo = l.lo; hi = l.hi }) n
