use Rattle.std.proofs.Common.{◌≡◌}
use Rattle.ice_refute.specs.Waiting.{nodes_of}
use Rattle.ice_separation.proofs.rounding.Rounding.amounts.Given as goal

abbrev pub invariant-loop-package : goal.invariant-loop-package
invariant-loop-package l = nodes_of l.amounts ≡ nodes_of l.trees
