use Rattle.std.proofs.Common.{◌≡◌, take, map}
use Rattle.ice_gen.proofs.growing.truth_of.Given as goal

abbrev pub invariant-loop-value : goal.invariant-loop-value
invariant-loop-value l = l.truth.items ≡ map (λ v. v.truth) (take l.value-index l.values)
