use Rattle.std.proofs.Common.{ℕ, ◌<◌}
use Rattle.ice_defs.specs.Set.{IsSatisfied}
use Rattle.ice_defs.specs.Trade.{tree_of, set_of}
use Rattle.ice_defs.specs.Exchange.{trees_of}
use Rattle.ice_test_session.proofs.taken.are_satisfied.Given as goal

abbrev pub invariant-loop-bidder : goal.invariant-loop-bidder
invariant-loop-bidder l = (b : ℕ) → b < l.bidder → IsSatisfied (tree_of (trees_of l.exchange) b) (set_of l.sets b)
