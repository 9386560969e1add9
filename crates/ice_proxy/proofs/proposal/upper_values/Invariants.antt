use Rattle.std.proofs.Common.{◌≡◌, take}
use Rattle.ice_proxy.specs.Proposals.{proposed_hi}
use Rattle.ice_proxy.proofs.proposal.upper_values.Given as goal

abbrev pub invariant-loop-node : goal.invariant-loop-node
invariant-loop-node l = l.values.items ≡ take l.node (proposed_hi l.attempt l.old.hi l.truth)
