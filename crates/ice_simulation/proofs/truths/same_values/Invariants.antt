use Rattle.std.proofs.Common.{◌≡◌, ◌<◌, ℕ}
use Rattle.ice_defs.specs.Set.{weight_of}
use Rattle.ice_simulation.proofs.truths.same_values.Given as goal

abbrev pub invariant-loop-place : goal.invariant-loop-place
invariant-loop-place l = (k : ℕ) → k < l.place → weight_of l.one k ≡ weight_of l.other k
