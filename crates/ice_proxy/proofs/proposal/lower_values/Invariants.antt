use Rattle.std.proofs.Common.{◌≡◌, take}
use Rattle.ice_proxy.specs.Proposals.{proposed_lo}
use Rattle.ice_proxy.proofs.proposal.lower_values.Given as goal

abbrev pub invariant-loop-node : goal.invariant-loop-node
invariant-loop-node l = l.values.items ≡ take l.node (proposed_lo l.attempt l.old.lo l.truth)
