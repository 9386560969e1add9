use Rattle.std.proofs.Common.{◌≡◌}
use Rattle.ice_relaxation.proofs.relaxation.Relaxation.look_at.Given as goal

abbrev pub invariant-loop-bidder : goal.invariant-loop-bidder
invariant-loop-bidder l = l.self ≡ l.fn.self
