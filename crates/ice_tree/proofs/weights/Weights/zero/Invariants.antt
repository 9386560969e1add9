use Rattle.std.proofs.Common.{◌≡◌, pos}
use Rattle.std.specs.Prelude.{replicate}
use Rattle.ice_tree.proofs.weights.Weights.zero.Given as goal

abbrev pub invariant-loop-n : goal.invariant-loop-n
invariant-loop-n l = l.weights.items ≡ replicate l._n (pos 0)
