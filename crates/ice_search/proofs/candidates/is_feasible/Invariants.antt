use Rattle.std.proofs.Common.{ℕ, ◌<◌}
use Rattle.ice_defs.specs.Bound.{IsOpen}
use Rattle.ice_defs.specs.Exchange.{trees_of}
use Rattle.ice_defs.specs.Trade.{tree_of, fixing_of, set_of}
use Rattle.ice_search.proofs.candidates.is_feasible.Given as goal

abbrev pub invariant-loop-bidder : goal.invariant-loop-bidder
invariant-loop-bidder l = (b : ℕ) → b < l.bidder → IsOpen (tree_of (trees_of l.exchange) b) (fixing_of l.start b) (set_of l.sets b)
