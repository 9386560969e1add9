use Rattle.std.proofs.Common.{◌<◌, ℕ}
use Rattle.ice_defs.specs.Judging.{IsLoosenedAt}
use Rattle.ice_rules.proofs.judging.first_loosened.Given as goal

abbrev pub invariant-loop-node : goal.invariant-loop-node
invariant-loop-node l = (n : ℕ) → n < l.node → ¬ IsLoosenedAt l.old (record { lo = l.lo; hi = l.hi }) n
